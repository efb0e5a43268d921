-- A formula that carries restrictions says what it says under them.
use Rattle.std.proofs.Common.{◌≡◌, ℕ, zero, suc, ◌+◌, Some, drop, slice_get, ap, arith, List, [], ◌∷◌, ◌↔◌}
use Rattle.sap_formula.specs.Form.{Form, RestrictionForm, both}
use Rattle.sap_formula.specs.HoldsOf.{AreTrueOn}
use Rattle.sap_formula.specs.Truth.{IsTrueOn}
use Rattle.sap_inline.specs.Inline.{conjunction, formulas, joined}
use Rattle.sap_inline.specs.Laws.{InlinedForAllLaw, InlinedForSomeLaw}
use Rattle.sap_terms.specs.Signature.{Sig}
use Rattle.sap_terms.specs.Trace.{Trace}

joined_true : (g : Sig) (tr : Trace) (r : Form) (rs : List Form) → IsTrueOn g (joined r rs) tr ↔ AreTrueOn g (r ∷ rs) tr
joined_true g tr r [] = (λ h. (h, tt), λ h. h.0)
joined_true g tr r (s ∷ rs) =
    let i = joined_true g tr (both r s) rs in
    (λ h. let x = i.0 h in (x.0.0, (x.0.1, x.1)), λ h. i.1 ((h.0, h.1.0), h.1.1))

all_true : (g : Sig) (tr : Trace) (us : List Form) → IsTrueOn g (conjunction us) tr ↔ AreTrueOn g us tr
all_true g tr [] = (λ h. tt, λ h. tt)
all_true g tr (r ∷ rs) = joined_true g tr r rs

pub for_all_law : InlinedForAllLaw
for_all_law g us f tr = let i = all_true g tr us in (λ h x. h (i.1 x), λ h x. h (i.0 x))

pub for_some_law : InlinedForSomeLaw
for_some_law g us f tr = let i = all_true g tr us in (λ h. (i.0 h.0, h.1), λ h. (i.1 h.0, h.1))

-- one more restriction is joined
pub joined_step : (rs : List RestrictionForm) (k : ℕ) (r : RestrictionForm) (f : Form) → slice_get rs k ≡ Some r → joined f (formulas (drop k rs)) ≡ joined (both f r.formula) (formulas (drop (k + 1) rs))
joined_step rs k r f h = ap (λ (us : List RestrictionForm). joined f (formulas us)) (from_got rs k r h) where
  from_got : (rs : List RestrictionForm) (k : ℕ) (r : RestrictionForm) → slice_get rs k ≡ Some r → drop k rs ≡ r ∷ drop (k + 1) rs
  from_got [] k r h = absurd (cc)
  from_got (x ∷ rs) zero r h = let e : x ≡ r = cc in ap (λ y. y ∷ rs) e
  from_got (x ∷ rs) (suc k) r h = let n : suc k + 1 ≡ suc (k + 1) = omega arith in rw n (from_got rs k r h)
