use Rattle.std.proofs.Common.{refl}
use Rattle.sap_notes.proofs.ByHand.{h_unspoken, no_equation, not_held, pair_unspoken, pk_another, pk_builtin, sdec_another, sdec_beside, sdec_builtin, sdec_of_three}
use Rattle.sap_notes.proofs.laws.symbols_of_equations.Goals as goal

pub returns : goal.returns
returns c = record {
  symmetric = (refl, refl, refl, refl);
  asymmetric = (refl, refl, refl, refl, refl);
  signing = (refl, refl, refl, refl, refl, refl);
  revealing = (refl, refl, refl, refl, refl, refl);
  hashing = no_equation;
  others = (sdec_another, pk_another, sdec_beside);
  not_others = (sdec_builtin, pk_builtin, sdec_of_three, h_unspoken, pair_unspoken, not_held);
}
