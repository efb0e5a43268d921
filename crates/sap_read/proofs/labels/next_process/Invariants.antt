use Rattle.std.proofs.Common.{◌≡◌, map, drop}
use Rattle.sap_read.specs.Causes.{unlabelled}
use Rattle.sap_read.specs.Entries.{body}
use Rattle.sap_read.proofs.labels.next_process.Given as goal

abbrev pub invariant-loop-k : goal.invariant-loop-k
invariant-loop-k l = unlabelled (map body (drop l.from l.entries)) ≡ unlabelled (map body (drop l.k l.entries))
