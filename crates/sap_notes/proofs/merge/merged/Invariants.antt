use Rattle.std.proofs.Common.{◌≡◌, ◌++◌, drop}
use Rattle.sap_notes.specs.code.Ranked.{merged}
use Rattle.sap_notes.proofs.merge.merged.Given as goal

abbrev pub invariant-loop-n : goal.invariant-loop-n
invariant-loop-n l = l.all ++ merged (drop l.n-index l.ns) l.rest ≡ merged l.ns l.ms
