use Rattle.std.specs.Prelude.{All}
use Rattle.sap_derive.specs.Found.{IsSmallMessage}
use Rattle.sap_layers.proofs.derivations.small_terms.Given as goal

abbrev pub invariant-loop-t : goal.invariant-loop-t
invariant-loop-t l = All (IsSmallMessage l.sig) l.list
