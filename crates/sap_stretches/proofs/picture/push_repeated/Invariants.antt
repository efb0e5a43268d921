use Rattle.std.proofs.Common.{◌≡◌, ◌++◌}
use Rattle.std.proofs.Math.ListN.{replicate}
use Rattle.sap_stretches.proofs.picture.push_repeated.Given as goal

abbrev pub invariant-loop : goal.invariant-loop
invariant-loop l = l.text ≡ l.initial.text ++ replicate l.counter l.byte
