use Rattle.sap_gen.specs.code.Takers.{AreTakers}
use Rattle.sap_gen.proofs.takers.takers_of.Given as goal

abbrev pub invariant-loop-k : goal.invariant-loop-k
invariant-loop-k l = AreTakers l.rules l.k l.takers
