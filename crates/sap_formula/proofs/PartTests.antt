-- The tests of parts decide their faults.
use Rattle.std.proofs.Common.{◌≡◌, ℕ, List, [], ◌∷◌, Bool, true, false, Option, Some, None, refl, sym, ap, subst, ◌∙◌, ◌⊎◌}
use Rattle.std.specs.Bool.{Decides}
use Rattle.std.specs.Prelude.{if◌then◌else◌}
use Rattle.std.specs.Str.{bytes_eq}
use Rattle.std.proofs.lemmas.Slice.Eq.{bytes_eq-Decides}
use Rattle.sap_formula.specs.Form.{Form, action, both, earlier, either, equal, equivalent, every, exists, falsity, implies, negation, same_time, truth}
use Rattle.sap_formula.specs.declared.binder.Binder.{Binder}
use Rattle.sap_formula.specs.declared.binder.Binder.TheVariants.{Message, Time}
use Rattle.sap_terms.specs.Same.{same_sort}
use Rattle.sap_terms.specs.Signature.{Sig, arity_of}
use Rattle.sap_terms.specs.Tree.{Tree, Trees, apply, fresh, more, none, public, trees_of, variable}
use Rattle.sap_terms.specs.declared.var.Sort.{Sort}
use Rattle.sap_terms.specs.declared.var.Sort.TheVariants.{Msg, Fresh, Pub}
use Rattle.sap_terms.specs.declared.var.Var.{Var}
use Rattle.sap_formula.specs.Checked.{IsCheckedTerm, StandsInAtom, StandsIn, StandsInAny, binder_name, find_binder}
use Rattle.sap_formula.specs.Hide.{is_hidden}
use Rattle.sap_formula.specs.Faults.{HasFault, IsBound}
use Rattle.sap_formula.specs.Parts.{Part, symbol, fact_name, message, time, bound}
use Rattle.sap_formula.specs.Sorted.{by_binder, sorted_as}
use Rattle.sap_formula.specs.code.Tests.{has_arity, has_fault, binds_message, binds_time, stands, stands_in, stands_in_any}
use Rattle.sap_formula.specs.declared.fault.FormulaFlaw.{FormulaFlaw}
use Rattle.sap_formula.specs.declared.fault.FormulaFlaw.TheVariants.{BadFunction, Destructor, Reserved, UnboundVar, Unguarded}
use Rattle.std.proofs.lemmas.Bool.Decides.{Decides-eqb, Decides-not, Decides-or}
use Rattle.sap_terms.proofs.PlainLaws.Tests.{and_left, and_right, and_true}

-- the binder that is found has the name
found_name : (scope : List Binder) (n : List ℕ) (b : Binder) → find_binder scope n ≡ Some b → binder_name b ≡ n
found_name [] n b h = absurd (cc)
found_name (c ∷ scope) n b h = at (bytes_eq (binder_name c) n) refl h (found_name scope n b) where
  at : (t : Bool) → bytes_eq (binder_name c) n ≡ t → (if t then Some c else find_binder scope n) ≡ Some b → (find_binder scope n ≡ Some b → binder_name b ≡ n) → binder_name b ≡ n
  at true e q later = let same : c ≡ b = cc in ap binder_name (sym same) ∙ (bytes_eq-Decides (binder_name c) n).0 e
  at false e q later = later q

-- what a test and its negation say
stable : (b : Bool) (A : Type 0) → Decides b A → ((A → ⊥) → ⊥) → A
stable true A d h = d.0 refl
stable false A d h = absurd (h (λ x. let e = d.1 x in cc))

arity_decided : (o : Option ℕ) (n : ℕ) → Decides (has_arity o n) (o ≡ Some n)
arity_decided None n = (λ h. absurd (cc), λ h. absurd (cc))
arity_decided (Some k) n = (λ h. ap Some ((Decides-eqb k n).0 h), λ h. let same : k ≡ n = cc in (Decides-eqb k n).1 same)

sort_decided : (s t : Sort) → Decides (same_sort s t) (s ≡ t)
sort_decided Msg Msg = (λ h. refl, λ h. refl)
sort_decided Fresh Fresh = (λ h. refl, λ h. refl)
sort_decided Pub Pub = (λ h. refl, λ h. refl)
sort_decided Msg Fresh = (λ h. absurd (cc), λ h. absurd (cc))
sort_decided Msg Pub = (λ h. absurd (cc), λ h. absurd (cc))
sort_decided Fresh Msg = (λ h. absurd (cc), λ h. absurd (cc))
sort_decided Fresh Pub = (λ h. absurd (cc), λ h. absurd (cc))
sort_decided Pub Msg = (λ h. absurd (cc), λ h. absurd (cc))
sort_decided Pub Fresh = (λ h. absurd (cc), λ h. absurd (cc))

message_decided : (scope : List Binder) (v : Var) → Decides (binds_message (find_binder scope v.name) v.sort) (IsBound scope v)
message_decided scope v = at (find_binder scope v.name) refl where
  at : (o : Option Binder) → find_binder scope v.name ≡ o → Decides (binds_message o v.sort) (IsBound scope v)
  at None e = (λ h. absurd (cc), λ b. let q = b.innermost in absurd (cc))
  at (Some (Time n)) e = (λ h. absurd (cc), λ b. let q = b.innermost in absurd (cc))
  at (Some (Message b)) e =
      let d = Decides-or (same_sort v.sort Msg) (same_sort v.sort b.sort) (sort_decided v.sort Msg) (sort_decided v.sort b.sort) in (
        λ h. record { binder = b; innermost = e; sign = d.0 h },
        λ x. let q = x.innermost in let same : x.binder ≡ b = cc in d.1 (subst (λ (y : Var). (v.sort ≡ Msg) ⊎ (v.sort ≡ y.sort)) same x.sign),
      )

time_decided : (scope : List Binder) (n : List ℕ) → Decides (binds_time (find_binder scope n)) (find_binder scope n ≡ Some (Time n))
time_decided scope n = at (find_binder scope n) refl where
  at : (o : Option Binder) → find_binder scope n ≡ o → Decides (binds_time o) (o ≡ Some (Time n))
  at None e = (λ h. absurd (cc), λ h. absurd (cc))
  at (Some (Message v)) e = (λ h. absurd (cc), λ h. absurd (cc))
  at (Some (Time m)) e = (λ h. ap (λ k. Some (Time k)) (found_name scope n (Time m) e), λ h. refl)

mutual
  in_decided : (n : List ℕ) (t : Tree) → Decides (stands_in n t) (StandsIn n t)
  in_decided n (variable v) = bytes_eq-Decides v.name n
  in_decided n (public m) = (λ h. absurd (cc), λ h. absurd h)
  in_decided n (fresh k) = (λ h. absurd (cc), λ h. absurd h)
  in_decided n (apply f ts) = any_decided n ts

  any_decided : (n : List ℕ) (ts : Trees) → Decides (stands_in_any n ts) (StandsInAny n ts)
  any_decided n none = (λ h. absurd (cc), λ h. absurd h)
  any_decided n (more t ts) = Decides-or (stands_in n t) (stands_in_any n ts) (in_decided n t) (any_decided n ts)

guard_decided : (n : List ℕ) (f : Form) → Decides (stands n f) (StandsInAtom n f)
guard_decided n (both f g) = Decides-or (stands n f) (stands n g) (guard_decided n f) (guard_decided n g)
guard_decided n (action f i) =
    Decides-or (bytes_eq i n) (stands_in_any n (trees_of f.args)) (bytes_eq-Decides i n) (any_decided n (trees_of f.args))
guard_decided n truth = (λ h. absurd (cc), λ h. absurd h)
guard_decided n falsity = (λ h. absurd (cc), λ h. absurd h)
guard_decided n (equal s t) = (λ h. absurd (cc), λ h. absurd h)
guard_decided n (same_time i j) = (λ h. absurd (cc), λ h. absurd h)
guard_decided n (earlier i j) = (λ h. absurd (cc), λ h. absurd h)
guard_decided n (negation f) = (λ h. absurd (cc), λ h. absurd h)
guard_decided n (either f g) = (λ h. absurd (cc), λ h. absurd h)
guard_decided n (implies f g) = (λ h. absurd (cc), λ h. absurd h)
guard_decided n (equivalent f g) = (λ h. absurd (cc), λ h. absurd h)
guard_decided n (every bs f) = (λ h. absurd (cc), λ h. absurd h)
guard_decided n (exists bs f) = (λ h. absurd (cc), λ h. absurd h)

never : Decides false ⊥
never = (λ h. absurd (cc), λ h. absurd h)

-- the test decides the fault
pub fault_decided : (g : Sig) (r : Bool) (w : FormulaFlaw) (p : Part) → Decides (has_fault g r w p) (HasFault g r w p)
fault_decided g r BadFunction (symbol f n) = Decides-not (has_arity (arity_of g f) n) (arity_decided (arity_of g f) n)
fault_decided g r BadFunction (fact_name n) = never
fault_decided g r BadFunction (message s v) = never
fault_decided g r BadFunction (time s n) = never
fault_decided g r BadFunction (bound f b) = never
fault_decided g r Destructor (symbol f n) = (λ h. h, λ h. h)
fault_decided g r Destructor (fact_name n) = never
fault_decided g r Destructor (message s v) = never
fault_decided g r Destructor (time s n) = never
fault_decided g r Destructor (bound f b) = never
fault_decided g r Reserved (symbol f n) = never
fault_decided g r Reserved (fact_name n) = (λ h. (and_left r (is_hidden n) h, and_right r (is_hidden n) h), λ h. and_true r (is_hidden n) h.0 h.1)
fault_decided g r Reserved (message s v) = never
fault_decided g r Reserved (time s n) = never
fault_decided g r Reserved (bound f b) = never
fault_decided g r UnboundVar (symbol f n) = never
fault_decided g r UnboundVar (fact_name n) = never
fault_decided g r UnboundVar (message s v) = Decides-not (binds_message (find_binder s v.name) v.sort) (message_decided s v)
fault_decided g r UnboundVar (time s n) = Decides-not (binds_time (find_binder s n)) (time_decided s n)
fault_decided g r UnboundVar (bound f b) = never
fault_decided g r Unguarded (symbol f n) = never
fault_decided g r Unguarded (fact_name n) = never
fault_decided g r Unguarded (message s v) = never
fault_decided g r Unguarded (time s n) = never
fault_decided g r Unguarded (bound f b) = Decides-not (stands (binder_name b) f) (guard_decided (binder_name b) f)

same_sorted : (n : List ℕ) (w : Var) → w.name ≡ n → record { name = n; sort = w.sort } ≡ w
same_sorted n w e = let back = sym e in λ i. record { name = back i; sort = w.sort }

-- what the want of a fault gives
pub is_bound : (g : Sig) (r : Bool) (scope : List Binder) (v : Var) → (HasFault g r UnboundVar (message scope v) → ⊥) → IsCheckedTerm g scope (by_binder scope v)
is_bound g r scope v h =
    let b = stable (binds_message (find_binder scope v.name) v.sort) (IsBound scope v) (message_decided scope v) h in
    let name = found_name scope v.name (Message b.binder) b.innermost in
    let same : sorted_as (find_binder scope v.name) v ≡ b.binder = ap (λ o. sorted_as o v) b.innermost ∙ same_sorted v.name b.binder name in
    subst (λ (w : Var). find_binder scope w.name ≡ Some (Message w)) (sym same) (ap (find_binder scope) name ∙ b.innermost)

pub time_bound : (g : Sig) (r : Bool) (scope : List Binder) (n : List ℕ) → (HasFault g r UnboundVar (time scope n) → ⊥) → find_binder scope n ≡ Some (Time n)
time_bound g r scope n h = stable (binds_time (find_binder scope n)) (find_binder scope n ≡ Some (Time n)) (time_decided scope n) h

pub arity_found : (g : Sig) (r : Bool) (f : List ℕ) (n : ℕ) → (HasFault g r BadFunction (symbol f n) → ⊥) → arity_of g f ≡ Some n
arity_found g r f n h = stable (has_arity (arity_of g f) n) (arity_of g f ≡ Some n) (arity_decided (arity_of g f) n) h

pub guard_found : (g : Sig) (r : Bool) (f : Form) (b : Binder) → (HasFault g r Unguarded (bound f b) → ⊥) → StandsInAtom (binder_name b) f
guard_found g r f b h = stable (stands (binder_name b) f) (StandsInAtom (binder_name b) f) (guard_decided (binder_name b) f) h
