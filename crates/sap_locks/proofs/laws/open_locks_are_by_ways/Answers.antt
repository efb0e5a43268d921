use Rattle.sap_locks.proofs.OpenLocks.{open_locks_are}
use Rattle.sap_locks.proofs.laws.open_locks_are_by_ways.Goals as goal

pub returns : goal.returns
returns c = open_locks_are
