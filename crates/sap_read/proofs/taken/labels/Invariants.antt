use Rattle.std.proofs.Common.{◌≡◌, ◌++◌, drop, map}
use Rattle.sap_read.specs.Causes.{labels}
use Rattle.sap_read.specs.Entries.{body}
use Rattle.sap_read.proofs.taken.labels.Given as goal

abbrev pub invariant-loop-entry : goal.invariant-loop-entry
invariant-loop-entry l = labels (map body l.entry-items) ≡ l.names ++ labels (map body (drop l.entry-index l.entry-items))
