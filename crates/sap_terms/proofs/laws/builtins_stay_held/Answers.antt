use Rattle.sap_terms.proofs.SignatureLemmas.{HoldsBuiltins-none, HoldsBuiltins-declared, HoldsBuiltins-added}
use Rattle.sap_terms.proofs.laws.builtins_stay_held.Goals as goal

pub returns : goal.returns
returns c = record { at_start = HoldsBuiltins-none; behind_symbol = HoldsBuiltins-declared; behind_builtin = HoldsBuiltins-added }
