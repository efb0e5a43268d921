use Rattle.sap_terms.specs.Signature.{Sig}
use Rattle.sap_macro.specs.Sources.{definitions, written}
use Rattle.sap_uses.proofs.FirstFlawed.{NoneBefore}
use Rattle.sap_uses.proofs.flawed.first_flawed.Given as goal

abbrev pub invariant-loop-k : goal.invariant-loop-k
invariant-loop-k l = (g : Sig) → NoneBefore g (definitions l.defs) (written l.main) l.k
