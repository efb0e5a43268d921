-- Faults that have nothing to do with the binders round a part.
use Rattle.std.proofs.Common.{◌≡◌, ℕ, List, [], ◌∷◌, ◌++◌, Bool, false, map, length, Some, refl, sym, ap, ap₂, ◌∙◌}
use Rattle.std.specs.Prelude.{if◌then◌else◌}
use Rattle.std.specs.Option.{option_or}
use Rattle.sap_formula.proofs.Firsts.{first-append}
use Rattle.sap_formula.specs.Checked.{enter, premise}
use Rattle.sap_formula.specs.Form.{Form, action, both, earlier, either, equal, equivalent, every, exists, falsity, implies, negation, same_time, truth}
use Rattle.sap_formula.specs.Parts.{Part, symbol, fact_name, message, time, bound, part_name, form_parts, term_parts, terms_parts}
use Rattle.sap_formula.specs.code.Tests.{first_name, has_fault}
use Rattle.sap_formula.specs.declared.binder.Binder.{Binder}
use Rattle.sap_formula.specs.declared.fault.FormulaFlaw.{FormulaFlaw}
use Rattle.sap_formula.specs.declared.fault.FormulaFlaw.TheVariants.{BadFunction, Destructor, Reserved, UnboundVar, Unguarded}
use Rattle.sap_terms.specs.Signature.{Sig}
use Rattle.sap_terms.specs.Tree.{Tree, Trees, apply, fresh, list_of, more, none, public, trees_of, variable}
use Rattle.sap_terms.specs.declared.var.Var.{Var}

-- no occurrence of a variable has the fault
abbrev pub IsElsewhere : Sig → Bool → FormulaFlaw → Type 0
IsElsewhere g r w = ((scope : List Binder) (v : Var) → has_fault g r w (message scope v) ≡ false) × ((scope : List Binder) (n : List ℕ) → has_fault g r w (time scope n) ≡ false)

module _ (g : Sig) (r : Bool) (w : FormulaFlaw) (h : IsElsewhere g r w) where
  -- lists of parts with the same first name, one behind the other
  appended : (ps qs ps' qs' : List Part) → first_name g r w ps ≡ first_name g r w ps' → first_name g r w qs ≡ first_name g r w qs' → first_name g r w (ps ++ qs) ≡ first_name g r w (ps' ++ qs')
  appended ps qs ps' qs' e d = first-append g r w ps qs ∙ ap₂ option_or e d ∙ sym (first-append g r w ps' qs')

  -- a part before them
  behind : (p : Part) (ps qs : List Part) → first_name g r w ps ≡ first_name g r w qs → first_name g r w (p ∷ ps) ≡ first_name g r w (p ∷ qs)
  behind p ps qs e = ap (λ o. if has_fault g r w p then Some (part_name p) else o) e

  time_elsewhere : (s z : List Binder) (n : List ℕ) (ps qs : List Part) → first_name g r w ps ≡ first_name g r w qs → first_name g r w (time s n ∷ ps) ≡ first_name g r w (time z n ∷ qs)
  time_elsewhere s z n ps qs e = λ i. if (h.1 s n ∙ sym (h.1 z n)) i then Some n else e i

  mutual
    term_elsewhere : (s z : List Binder) (t : Tree) → first_name g r w (term_parts s t) ≡ first_name g r w (term_parts z t)
    term_elsewhere s z (variable v) = ap (λ t. if t then Some v.name else first_name g r w []) (h.0 s v ∙ sym (h.0 z v))
    term_elsewhere s z (public n) = refl
    term_elsewhere s z (fresh k) = refl
    term_elsewhere s z (apply f ts) = behind (symbol f (length (list_of ts))) (terms_parts s ts) (terms_parts z ts) (terms_elsewhere s z ts)

    terms_elsewhere : (s z : List Binder) (ts : Trees) → first_name g r w (terms_parts s ts) ≡ first_name g r w (terms_parts z ts)
    terms_elsewhere s z none = refl
    terms_elsewhere s z (more t ts) = appended (term_parts s t) (terms_parts s ts) (term_parts z t) (terms_parts z ts) (term_elsewhere s z t) (terms_elsewhere s z ts)

  form_elsewhere : (s z : List Binder) (f : Form) → first_name g r w (form_parts s f) ≡ first_name g r w (form_parts z f)
  form_elsewhere s z truth = refl
  form_elsewhere s z falsity = refl
  form_elsewhere s z (action f i) =
      behind (fact_name f.name) (terms_parts s (trees_of f.args) ++ time s i ∷ []) (terms_parts z (trees_of f.args) ++ time z i ∷ [])
      (appended (terms_parts s (trees_of f.args)) (time s i ∷ []) (terms_parts z (trees_of f.args)) (time z i ∷ []) (terms_elsewhere s z (trees_of f.args)) (time_elsewhere s z i [] [] refl))
  form_elsewhere s z (equal a b) = appended (term_parts s a) (term_parts s b) (term_parts z a) (term_parts z b) (term_elsewhere s z a) (term_elsewhere s z b)
  form_elsewhere s z (same_time i j) = time_elsewhere s z i (time s j ∷ []) (time z j ∷ []) (time_elsewhere s z j [] [] refl)
  form_elsewhere s z (earlier i j) = time_elsewhere s z i (time s j ∷ []) (time z j ∷ []) (time_elsewhere s z j [] [] refl)
  form_elsewhere s z (negation f) = form_elsewhere s z f
  form_elsewhere s z (both f k) = appended (form_parts s f) (form_parts s k) (form_parts z f) (form_parts z k) (form_elsewhere s z f) (form_elsewhere s z k)
  form_elsewhere s z (either f k) = appended (form_parts s f) (form_parts s k) (form_parts z f) (form_parts z k) (form_elsewhere s z f) (form_elsewhere s z k)
  form_elsewhere s z (implies f k) = appended (form_parts s f) (form_parts s k) (form_parts z f) (form_parts z k) (form_elsewhere s z f) (form_elsewhere s z k)
  form_elsewhere s z (equivalent f k) = appended (form_parts s f) (form_parts s k) (form_parts z f) (form_parts z k) (form_elsewhere s z f) (form_elsewhere s z k)
  form_elsewhere s z (every bs f) =
      appended (map (bound (premise f)) bs) (form_parts (enter bs s) f) (map (bound (premise f)) bs) (form_parts (enter bs z) f) refl (form_elsewhere (enter bs s) (enter bs z) f)
  form_elsewhere s z (exists bs f) =
      appended (map (bound f) bs) (form_parts (enter bs s) f) (map (bound f) bs) (form_parts (enter bs z) f) refl (form_elsewhere (enter bs s) (enter bs z) f)

-- so is each fault but one
is_elsewhere : (g : Sig) (r : Bool) (w : FormulaFlaw) → (w ≡ UnboundVar → ⊥) → IsElsewhere g r w
is_elsewhere g r BadFunction h = (λ _ _. refl, λ _ _. refl)
is_elsewhere g r Destructor h = (λ _ _. refl, λ _ _. refl)
is_elsewhere g r Reserved h = (λ _ _. refl, λ _ _. refl)
is_elsewhere g r UnboundVar h = absurd (h refl)
is_elsewhere g r Unguarded h = (λ _ _. refl, λ _ _. refl)

pub elsewhere : (g : Sig) (r : Bool) (w : FormulaFlaw) (s z : List Binder) (f : Form) → (w ≡ UnboundVar → ⊥) → first_name g r w (form_parts s f) ≡ first_name g r w (form_parts z f)
elsewhere g r w s z f h = form_elsewhere g r w (is_elsewhere g r w h) s z f
