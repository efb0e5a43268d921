-- A formula without a fault is a checked formula.
use Rattle.std.proofs.Common.{◌≡◌, ℕ, suc, List, [], ◌∷◌, ◌++◌, Bool, true, false, Option, Some, None, length, map, refl, sym, ap, subst, ◌∙◌, inl, inr}
use Rattle.std.specs.Prelude.{slice_get}
use Rattle.sap_formula.specs.Form.{Form, action, both, earlier, either, equal, equivalent, every, exists, falsity, implies, negation, same_time, truth}
use Rattle.sap_formula.specs.Truth.{EachIn}
use Rattle.sap_formula.specs.declared.binder.Binder.{Binder}
use Rattle.sap_formula.specs.declared.binder.Binder.TheVariants.{Message, Time}
use Rattle.sap_terms.specs.Choice.{instance, instances}
use Rattle.sap_terms.specs.Signature.{Sig, is_destructor_of}
use Rattle.sap_terms.specs.Tree.{Tree, Trees, apply, fresh, list_of, more, none, public, trees_of, variable}
use Rattle.sap_terms.specs.declared.var.Var.{Var}
use Rattle.sap_formula.specs.Checked.{AreCheckedTerms, AreGuarded, IsChecked, IsCheckedTerm, StandsInAtom, StandsIn, StandsInAny, binder_name, enter, find_binder, premise}
use Rattle.sap_formula.specs.Hide.{is_hidden}
use Rattle.sap_formula.specs.Faults.{HasFault}
use Rattle.sap_formula.specs.Laws.{Allowed, CheckLaw, ClosedLaw}
use Rattle.sap_formula.specs.Parts.{Part, fact_name, time, bound, form_parts, term_parts, terms_parts}
use Rattle.sap_formula.specs.Sorted.{by_binder, sorted_as, with_sorts}
use Rattle.sap_formula.specs.declared.fault.FormulaFlaw.{FormulaFlaw}
use Rattle.sap_formula.specs.declared.fault.FormulaFlaw.TheVariants.{BadFunction, Destructor, Reserved, UnboundVar, Unguarded}
use Rattle.sap_formula.proofs.PartTests.{is_bound, time_bound, arity_found, guard_found}

-- no part of the list has a fault
abbrev pub Faultless : Sig → Bool → List Part → Type 0
Faultless g r ps = EachIn (λ p. (w : FormulaFlaw) → HasFault g r w p → ⊥) ps

pub front : (g : Sig) (r : Bool) (ps qs : List Part) → Faultless g r (ps ++ qs) → Faultless g r ps
front g r [] qs h = tt
front g r (p ∷ ps) qs h = (h.0, front g r ps qs h.1)

pub back : (g : Sig) (r : Bool) (ps qs : List Part) → Faultless g r (ps ++ qs) → Faultless g r qs
back g r [] qs h = h
back g r (p ∷ ps) qs h = back g r ps qs h.1

-- said of times, and so of each part
each_part : (g : Sig) (r : Bool) (ps : List Part) → ((w : FormulaFlaw) (k : ℕ) (p : Part) → slice_get ps k ≡ Some p → HasFault g r w p → ⊥) → Faultless g r ps
each_part g r [] h = tt
each_part g r (p ∷ ps) h = (λ w. h w 0 p refl, each_part g r ps (λ w k. h w (suc k)))

instances_length : (scope : List Binder) (ts : Trees) → length (list_of (instances (by_binder scope) ts)) ≡ length (list_of ts)
instances_length scope none = refl
instances_length scope (more t ts) = ap suc (instances_length scope ts)

instances_listed : (scope : List Binder) (ts : List Tree) → trees_of (map (instance (by_binder scope)) ts) ≡ instances (by_binder scope) (trees_of ts)
instances_listed scope [] = refl
instances_listed scope (t ∷ ts) = ap (more (instance (by_binder scope) t)) (instances_listed scope ts)

mutual
  term_checked : (g : Sig) (r : Bool) (scope : List Binder) (t : Tree) → Faultless g r (term_parts scope t) → IsCheckedTerm g scope (instance (by_binder scope) t)
  term_checked g r scope (variable v) h = is_bound g r scope v (h.0 UnboundVar)
  term_checked g r scope (public n) h = tt
  term_checked g r scope (fresh k) h = tt
  term_checked g r scope (apply f ts) h = (
    arity_found g r f (length (list_of ts)) (h.0 BadFunction) ∙ ap Some (sym (instances_length scope ts)),
    not_so (is_destructor_of g f) (h.0 Destructor),
    terms_checked g r scope ts h.1,
  ) where
    not_so : (b : Bool) → (b ≡ true → ⊥) → b ≡ false
    not_so true n = absurd (n refl)
    not_so false n = refl

  terms_checked : (g : Sig) (r : Bool) (scope : List Binder) (ts : Trees) → Faultless g r (terms_parts scope ts) → AreCheckedTerms g scope (instances (by_binder scope) ts)
  terms_checked g r scope none h = tt
  terms_checked g r scope (more t ts) h =
      (term_checked g r scope t (front g r (term_parts scope t) (terms_parts scope ts) h), terms_checked g r scope ts (back g r (term_parts scope t) (terms_parts scope ts) h))

sorted_name : (o : Option Binder) (v : Var) → (sorted_as o v).name ≡ v.name
sorted_name None v = refl
sorted_name (Some (Time n)) v = refl
sorted_name (Some (Message b)) v = refl

-- sorts don't move what stands in a term
mutual
  stands_sorted : (scope : List Binder) (n : List ℕ) (t : Tree) → StandsIn n t → StandsIn n (instance (by_binder scope) t)
  stands_sorted scope n (variable v) h = sorted_name (find_binder scope v.name) v ∙ h
  stands_sorted scope n (public m) h = h
  stands_sorted scope n (fresh k) h = h
  stands_sorted scope n (apply f ts) h = any_sorted scope n ts h

  any_sorted : (scope : List Binder) (n : List ℕ) (ts : Trees) → StandsInAny n ts → StandsInAny n (instances (by_binder scope) ts)
  any_sorted scope n none h = h
  any_sorted scope n (more t ts) (inl h) = inl (stands_sorted scope n t h)
  any_sorted scope n (more t ts) (inr h) = inr (any_sorted scope n ts h)

guard_sorted : (scope : List Binder) (n : List ℕ) (f : Form) → StandsInAtom n f → StandsInAtom n (with_sorts scope f)
guard_sorted scope n (both f g) (inl h) = inl (guard_sorted scope n f h)
guard_sorted scope n (both f g) (inr h) = inr (guard_sorted scope n g h)
guard_sorted scope n (action f i) (inl h) = inl h
guard_sorted scope n (action f i) (inr h) =
    inr (subst (StandsInAny n) (sym (instances_listed scope f.args)) (any_sorted scope n (trees_of f.args) h))
guard_sorted scope n truth h = absurd h
guard_sorted scope n falsity h = absurd h
guard_sorted scope n (equal s t) h = absurd h
guard_sorted scope n (same_time i j) h = absurd h
guard_sorted scope n (earlier i j) h = absurd h
guard_sorted scope n (negation f) h = absurd h
guard_sorted scope n (either f g) h = absurd h
guard_sorted scope n (implies f g) h = absurd h
guard_sorted scope n (equivalent f g) h = absurd h
guard_sorted scope n (every bs f) h = absurd h
guard_sorted scope n (exists bs f) h = absurd h

premise_sorted : (scope : List Binder) (n : List ℕ) (f : Form) → StandsInAtom n (premise f) → StandsInAtom n (premise (with_sorts scope f))
premise_sorted scope n (implies f g) h = guard_sorted scope n f h
premise_sorted scope n truth h = absurd h
premise_sorted scope n falsity h = absurd h
premise_sorted scope n (action f i) h = absurd h
premise_sorted scope n (equal s t) h = absurd h
premise_sorted scope n (same_time i j) h = absurd h
premise_sorted scope n (earlier i j) h = absurd h
premise_sorted scope n (negation f) h = absurd h
premise_sorted scope n (both f g) h = absurd h
premise_sorted scope n (either f g) h = absurd h
premise_sorted scope n (equivalent f g) h = absurd h
premise_sorted scope n (every bs f) h = absurd h
premise_sorted scope n (exists bs f) h = absurd h

-- each variable of a quantifier is guarded
guarded : (g : Sig) (r : Bool) (f h : Form) (bs : List Binder) (ps : List Part) → ((n : List ℕ) → StandsInAtom n f → StandsInAtom n h) → Faultless g r (map (bound f) bs ++ ps) → AreGuarded bs h
guarded g r f h [] ps to all = tt
guarded g r f h (b ∷ bs) ps to all =
    (to (binder_name b) (guard_found g r f b (all.0 Unguarded)), guarded g r f h bs ps to all.1)

allowed : (g : Sig) (r : Bool) (n : List ℕ) → (HasFault g r Reserved (fact_name n) → ⊥) → Allowed r n
allowed g false n h = tt
allowed g true n h = at (is_hidden n) refl where
  at : (b : Bool) → is_hidden n ≡ b → b ≡ false
  at true e = absurd (h (refl, e))
  at false e = refl

pub form_checked : (g : Sig) (r : Bool) (scope : List Binder) (f : Form) → Faultless g r (form_parts scope f) → IsChecked g (Allowed r) scope (with_sorts scope f)
form_checked g r scope truth h = tt
form_checked g r scope falsity h = tt
form_checked g r scope (action f i) h = (
  allowed g r f.name (h.0 Reserved),
  subst (AreCheckedTerms g scope) (sym (instances_listed scope f.args)) (terms_checked g r scope (trees_of f.args) (front g r (terms_parts scope (trees_of f.args)) (time scope i ∷ []) h.1)),
  time_bound g r scope i ((back g r (terms_parts scope (trees_of f.args)) (time scope i ∷ []) h.1).0 UnboundVar),
)
form_checked g r scope (equal s t) h =
    (term_checked g r scope s (front g r (term_parts scope s) (term_parts scope t) h), term_checked g r scope t (back g r (term_parts scope s) (term_parts scope t) h))
form_checked g r scope (same_time i j) h = (time_bound g r scope i (h.0 UnboundVar), time_bound g r scope j (h.1.0 UnboundVar))
form_checked g r scope (earlier i j) h = (time_bound g r scope i (h.0 UnboundVar), time_bound g r scope j (h.1.0 UnboundVar))
form_checked g r scope (negation f) h = form_checked g r scope f h
form_checked g r scope (both f k) h =
    (form_checked g r scope f (front g r (form_parts scope f) (form_parts scope k) h), form_checked g r scope k (back g r (form_parts scope f) (form_parts scope k) h))
form_checked g r scope (either f k) h =
    (form_checked g r scope f (front g r (form_parts scope f) (form_parts scope k) h), form_checked g r scope k (back g r (form_parts scope f) (form_parts scope k) h))
form_checked g r scope (implies f k) h =
    (form_checked g r scope f (front g r (form_parts scope f) (form_parts scope k) h), form_checked g r scope k (back g r (form_parts scope f) (form_parts scope k) h))
form_checked g r scope (equivalent f k) h =
    (form_checked g r scope f (front g r (form_parts scope f) (form_parts scope k) h), form_checked g r scope k (back g r (form_parts scope f) (form_parts scope k) h))
form_checked g r scope (every bs f) h = (
  guarded g r (premise f) (premise (with_sorts (enter bs scope) f)) bs (form_parts (enter bs scope) f) (λ n. premise_sorted (enter bs scope) n f) h,
  form_checked g r (enter bs scope) f (back g r (map (bound (premise f)) bs) (form_parts (enter bs scope) f) h),
)
form_checked g r scope (exists bs f) h = (
  guarded g r f (with_sorts (enter bs scope) f) bs (form_parts (enter bs scope) f) (λ n. guard_sorted (enter bs scope) n f) h,
  form_checked g r (enter bs scope) f (back g r (map (bound f) bs) (form_parts (enter bs scope) f) h),
)

pub check_law : CheckLaw
check_law g r f h = form_checked g r [] f (each_part g r (form_parts [] f) (λ w k p e x. h w k (record { part = p; stands = e; fault = x })))

-- names of facts may be forgotten
closed_in : (g : Sig) (r : Bool) (scope : List Binder) (f : Form) → IsChecked g (Allowed r) scope f → IsChecked g (λ n. Unit {0}) scope f
closed_in g r scope truth h = tt
closed_in g r scope falsity h = tt
closed_in g r scope (action f i) h = (tt, h.1, h.2)
closed_in g r scope (equal s t) h = h
closed_in g r scope (same_time i j) h = h
closed_in g r scope (earlier i j) h = h
closed_in g r scope (negation f) h = closed_in g r scope f h
closed_in g r scope (both f k) h = (closed_in g r scope f h.0, closed_in g r scope k h.1)
closed_in g r scope (either f k) h = (closed_in g r scope f h.0, closed_in g r scope k h.1)
closed_in g r scope (implies f k) h = (closed_in g r scope f h.0, closed_in g r scope k h.1)
closed_in g r scope (equivalent f k) h = (closed_in g r scope f h.0, closed_in g r scope k h.1)
closed_in g r scope (every bs f) h = (h.0, closed_in g r (enter bs scope) f h.1)
closed_in g r scope (exists bs f) h = (h.0, closed_in g r (enter bs scope) f h.1)

pub closed_law : ClosedLaw
closed_law g r f h = closed_in g r [] f h
