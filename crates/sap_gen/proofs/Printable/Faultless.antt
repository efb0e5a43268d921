-- A formula that is checked has no fault.
use Rattle.std.proofs.Common.{◌≡◌, ℕ, zero, suc, inr, true, false, List, [], ◌∷◌, ◌++◌, Some, length, map, slice_get, refl, sym, subst, ◌∙◌}
use Rattle.sap_terms.specs.Signature.{Sig, arity_of, is_destructor_of}
use Rattle.sap_terms.specs.Tree.{Tree, variable, public, fresh, apply, Trees, none, more, list_of, trees_of}
use Rattle.sap_terms.specs.declared.var.Var.{Var}
use Rattle.sap_formula.specs.Checked.{AreCheckedTerms, AreGuarded, IsChecked, IsCheckedTerm, StandsInAtom, binder_name, enter, find_binder, premise}
use Rattle.sap_formula.specs.Faults.{HasFault, HasNoFault}
use Rattle.sap_formula.specs.Form.{Form, action, both, earlier, either, equal, equivalent, every, exists, falsity, implies, negation, same_time, truth}
use Rattle.sap_formula.specs.Laws.{Allowed, IsClosed}
use Rattle.sap_formula.specs.Parts.{Part, bound, fact_name, form_parts, message, symbol, term_parts, terms_parts, time}
use Rattle.sap_formula.specs.Truth.{EachIn}
use Rattle.sap_formula.specs.declared.binder.Binder.{Binder}
use Rattle.sap_formula.specs.declared.binder.Binder.TheVariants.{Message, Time}
use Rattle.sap_formula.specs.declared.fault.FormulaFlaw.{FormulaFlaw}
use Rattle.sap_formula.specs.declared.fault.FormulaFlaw.TheVariants.{BadFunction, Destructor, Reserved, UnboundVar, Unguarded}
use Rattle.sap_gen.proofs.Lists.{each_both}

each_got : {A : Type 0} (P : A → Type 0) (xs : List A) (k : ℕ) (x : A) → EachIn P xs → slice_get xs k ≡ Some x → P x
each_got P [] k x h e = absurd (cc)
each_got P (y ∷ xs) zero x h e = let same : y ≡ x = cc in subst P same h.0
each_got P (y ∷ xs) (suc k) x h e = each_got P xs k x h.1 e

module _ (g : Sig) where
  -- the part has no fault
  abbrev IsFaultless : Part → Type 0
  IsFaultless p = (w : FormulaFlaw) → HasFault g false w p → ⊥

  -- nor has any of these
  abbrev AreFaultless : List Part → Type 0
  AreFaultless ps = EachIn IsFaultless ps

  symbol_fine : (f : List ℕ) (n : ℕ) → arity_of g f ≡ Some n → is_destructor_of g f ≡ false → IsFaultless (symbol f n)
  symbol_fine f n a d BadFunction h = h a
  symbol_fine f n a d Destructor h = let z : true ≡ false = sym h ∙ d in cc
  symbol_fine f n a d Reserved h = h
  symbol_fine f n a d UnboundVar h = h
  symbol_fine f n a d Unguarded h = h

  name_fine : (n : List ℕ) → IsFaultless (fact_name n)
  name_fine n BadFunction h = h
  name_fine n Destructor h = h
  name_fine n Reserved h = let z : false ≡ true = h.0 in cc
  name_fine n UnboundVar h = h
  name_fine n Unguarded h = h

  message_fine : (scope : List Binder) (v : Var) → find_binder scope v.name ≡ Some (Message v) → IsFaultless (message scope v)
  message_fine scope v e BadFunction h = h
  message_fine scope v e Destructor h = h
  message_fine scope v e Reserved h = h
  message_fine scope v e UnboundVar h = h (record { binder = v; innermost = e; sign = inr refl })
  message_fine scope v e Unguarded h = h

  time_fine : (scope : List Binder) (n : List ℕ) → find_binder scope n ≡ Some (Time n) → IsFaultless (time scope n)
  time_fine scope n e BadFunction h = h
  time_fine scope n e Destructor h = h
  time_fine scope n e Reserved h = h
  time_fine scope n e UnboundVar h = h e
  time_fine scope n e Unguarded h = h

  bound_fine : (f : Form) (b : Binder) → StandsInAtom (binder_name b) f → IsFaultless (bound f b)
  bound_fine f b s BadFunction h = h
  bound_fine f b s Destructor h = h
  bound_fine f b s Reserved h = h
  bound_fine f b s UnboundVar h = h
  bound_fine f b s Unguarded h = h s

  mutual
    term_fine : (scope : List Binder) (t : Tree) → IsCheckedTerm g scope t → AreFaultless (term_parts scope t)
    term_fine scope (variable v) h = (message_fine scope v h, tt)
    term_fine scope (public n) h = tt
    term_fine scope (fresh k) h = tt
    term_fine scope (apply f ts) h = (symbol_fine f (length (list_of ts)) h.0 h.1, terms_fine scope ts h.2)

    terms_fine : (scope : List Binder) (ts : Trees) → AreCheckedTerms g scope ts → AreFaultless (terms_parts scope ts)
    terms_fine scope none h = tt
    terms_fine scope (more t ts) h = each_both IsFaultless (term_parts scope t) (terms_parts scope ts) (term_fine scope t h.0) (terms_fine scope ts h.1)

  binders_fine : (f : Form) (bs : List Binder) → AreGuarded bs f → AreFaultless (map (bound f) bs)
  binders_fine f [] h = tt
  binders_fine f (b ∷ bs) h = (bound_fine f b h.0, binders_fine f bs h.1)

  two_fine : (ps qs : List Part) → AreFaultless ps → AreFaultless qs → AreFaultless (ps ++ qs)
  two_fine ps qs h k = each_both IsFaultless ps qs h k

  form_fine : (scope : List Binder) (f : Form) → IsChecked g (Allowed false) scope f → AreFaultless (form_parts scope f)
  form_fine scope truth h = tt
  form_fine scope falsity h = tt
  form_fine scope (action f i) h = (name_fine f.name, two_fine (terms_parts scope (trees_of f.args)) (time scope i ∷ []) (terms_fine scope (trees_of f.args) h.1) (time_fine scope i h.2, tt))
  form_fine scope (equal s t) h = two_fine (term_parts scope s) (term_parts scope t) (term_fine scope s h.0) (term_fine scope t h.1)
  form_fine scope (same_time i j) h = (time_fine scope i h.0, (time_fine scope j h.1, tt))
  form_fine scope (earlier i j) h = (time_fine scope i h.0, (time_fine scope j h.1, tt))
  form_fine scope (negation f) h = form_fine scope f h
  form_fine scope (both f k) h = two_fine (form_parts scope f) (form_parts scope k) (form_fine scope f h.0) (form_fine scope k h.1)
  form_fine scope (either f k) h = two_fine (form_parts scope f) (form_parts scope k) (form_fine scope f h.0) (form_fine scope k h.1)
  form_fine scope (implies f k) h = two_fine (form_parts scope f) (form_parts scope k) (form_fine scope f h.0) (form_fine scope k h.1)
  form_fine scope (equivalent f k) h = two_fine (form_parts scope f) (form_parts scope k) (form_fine scope f h.0) (form_fine scope k h.1)
  form_fine scope (every bs f) h = two_fine (map (bound (premise f)) bs) (form_parts (enter bs scope) f) (binders_fine (premise f) bs h.0) (form_fine (enter bs scope) f h.1)
  form_fine scope (exists bs f) h = two_fine (map (bound f) bs) (form_parts (enter bs scope) f) (binders_fine f bs h.0) (form_fine (enter bs scope) f h.1)

  pub closed_faultless : (f : Form) → IsClosed g f → HasNoFault g false f
  closed_faultless f h w k at = each_got IsFaultless (form_parts [] f) k at.part (form_fine [] f h) at.stands w at.fault
