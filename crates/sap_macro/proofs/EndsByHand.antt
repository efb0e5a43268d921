-- Ends of chains in small files.
use Rattle.std.proofs.Common.{◌≡◌, ℕ, zero, suc, List, [], ◌∷◌, Some, refl, sym, subst, codes}
use Rattle.std.specs.Prelude.{slice_get}
use Rattle.sap_macro.specs.EndExamples.{naming_c, use_c, use_d, use_two}
use Rattle.sap_macro.specs.Ends.{ComesTo, here, through, IsEnd}
use Rattle.sap_macro.specs.ExpansionExamples.{giving, giving_y, of_name, pairing}
use Rattle.sap_macro.specs.Indexed.{IsDefined}
use Rattle.sap_macro.specs.Written.{Written, parallel, Definition}

c_there : (ds : List Definition) → IsDefined (giving_y ∷ ds) (codes "C") giving_y
c_there ds = record { at = 0; stands = refl; name_is = refl }

d_there : IsDefined (giving_y ∷ naming_c ∷ []) (codes "D") naming_c
d_there = record { at = 1; stands = refl; name_is = refl }

pub body : IsEnd (giving_y ∷ []) use_c (giving (of_name (codes "y")))
body = record { comes = through [] (c_there []) refl here; last = tt }

pub itself : ¬ IsEnd (giving_y ∷ []) use_c use_c
itself h = h.last giving_y (c_there []) refl

pub through_two : IsEnd (giving_y ∷ naming_c ∷ []) use_d (giving (of_name (codes "y")))
through_two = record { comes = through [] d_there refl (through [] (c_there (naming_c ∷ [])) refl here); last = tt }

pub half_way : ¬ IsEnd (giving_y ∷ naming_c ∷ []) use_d use_c
half_way h = h.last giving_y (c_there (naming_c ∷ [])) refl

-- the one definition there has parameters
some : (d : Definition) (n : ℕ) → slice_get (pairing ∷ []) n ≡ Some d → ¬ (d.params ≡ [])
some d zero at none =
    let same : pairing ≡ d = cc in
    let empty : pairing.params ≡ [] = subst (λ (z : Definition). z.params ≡ []) (sym same) none in absurd (cc)
some d (suc n) at none = absurd (cc)

pub parameters : IsEnd (pairing ∷ []) use_two use_two
parameters = record { comes = here; last = λ d is. some d is.at is.stands }

pub parameters_alone : (p : Written) → IsEnd (pairing ∷ []) use_two p → p ≡ use_two
parameters_alone p h = by p h.comes where
  by : (p : Written) → ComesTo (pairing ∷ []) use_two p → p ≡ use_two
  by _ (here) = refl
  by p (through {d = d} ts is none more) = absurd (some d is.at is.stands none)

pub unknown_itself : IsEnd [] use_c use_c
unknown_itself = record { comes = here; last = λ d is none. absurd (let at : slice_get [] is.at ≡ Some d = is.stands in cc) }

pub form_itself : (p q r : Written) → IsEnd (giving_y ∷ []) (parallel p q) r → r ≡ parallel p q
form_itself p q r h = by r h.comes where
  by : (r : Written) → ComesTo (giving_y ∷ []) (parallel p q) r → r ≡ parallel p q
  by _ (here) = refl
