use Rattle.std.proofs.Common.{◌≡◌, ◌++◌, drop, map}
use Rattle.sap_stretches.specs.Positions.{shown}
use Rattle.sap_stretches.proofs.picture.push_shown.Given as goal

abbrev pub invariant-loop-b : goal.invariant-loop-b
invariant-loop-b l = l.text ++ map shown (drop l.b-index l.bytes) ≡ l.initial.text ++ map shown l.bytes
