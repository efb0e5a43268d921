use Rattle.std.proofs.Common.{[]}
use Rattle.sap_process.proofs.SortedTwice.{sorted_once}
use Rattle.sap_process.proofs.StillWell.{sorted_ready}
use Rattle.sap_process.proofs.laws.sorting_keeps.Goals as goal

pub returns-clause-once : goal.returns-clause-once
returns-clause-once c = sorted_once []

pub returns-clause-well : goal.returns-clause-well
returns-clause-well c = sorted_ready
