-- The names of the variables that a formula guards.
use Rattle.std.proofs.Common.{◌≡◌, ℕ, List, [], ◌∷◌, Bool, true, false, not, Some, None, map, refl, ap, ◌∙◌}
use Rattle.std.specs.Prelude.{if◌then◌else◌}
use Rattle.std.specs.List.{list_any}
use Rattle.std.specs.Str.{bytes_eq}
use Rattle.sap_formula.specs.Checked.{binder_name}
use Rattle.sap_formula.specs.Form.{Form}
use Rattle.sap_formula.specs.Parts.{bound}
use Rattle.sap_formula.specs.code.Tests.{first_name, first_outside, stands}
use Rattle.sap_formula.specs.declared.binder.Binder.{Binder}
use Rattle.sap_formula.specs.declared.fault.FormulaFlaw.{FormulaFlaw}
use Rattle.sap_formula.specs.declared.fault.FormulaFlaw.TheVariants.{BadFunction, Destructor, Reserved, UnboundVar, Unguarded}
use Rattle.sap_terms.specs.Signature.{Sig}

-- which binder is the first without a guard
pub first_unguarded : (g : Sig) (r : Bool) (f : Form) (ns : List (List ℕ)) (bs : List Binder) → ((n : List ℕ) → list_any (bytes_eq n) ns ≡ stands n f) → first_outside ns bs ≡ first_name g r Unguarded (map (bound f) bs)
first_unguarded g r f ns [] h = refl
first_unguarded g r f ns (b ∷ bs) h =
    ap (λ t. if t then first_outside ns bs else Some (binder_name b)) (h (binder_name b)) ∙ at (stands (binder_name b) f) (first_unguarded g r f ns bs h)
  where
    at : (t : Bool) → first_outside ns bs ≡ first_name g r Unguarded (map (bound f) bs) → (if t then first_outside ns bs else Some (binder_name b)) ≡ (if not t then Some (binder_name b) else first_name g r Unguarded (map (bound f) bs))
    at true e = e
    at false e = refl

-- binders have no other fault
pub bound_else : (g : Sig) (r : Bool) (w : FormulaFlaw) (f : Form) (bs : List Binder) → (w ≡ Unguarded → ⊥) → None ≡ first_name g r w (map (bound f) bs)
bound_else g r w f [] h = refl
bound_else g r BadFunction f (b ∷ bs) h = bound_else g r BadFunction f bs h
bound_else g r Destructor f (b ∷ bs) h = bound_else g r Destructor f bs h
bound_else g r Reserved f (b ∷ bs) h = bound_else g r Reserved f bs h
bound_else g r UnboundVar f (b ∷ bs) h = bound_else g r UnboundVar f bs h
bound_else g r Unguarded f (b ∷ bs) h = absurd (h refl)
