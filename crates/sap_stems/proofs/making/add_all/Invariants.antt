use Rattle.std.proofs.Common.{◌≡◌, ◌++◌, drop}
use Rattle.sap_stems.proofs.making.add_all.Given as goal

abbrev pub invariant-loop-k : goal.invariant-loop-k
invariant-loop-k l = l.list ++ drop l.k l.nodes ≡ l.initial.list ++ l.nodes
