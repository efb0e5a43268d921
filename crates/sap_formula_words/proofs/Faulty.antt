-- The first part that passes the test is the one that the fault names.
use Rattle.std.proofs.Common.{◌≡◌, ◌<◌, ◌+◌, ◌-◌, ◌^◌, ℕ, zero, suc, List, [], ◌∷◌, Bool, true, false, Option, Some, None, Err, refl, sym, ap, subst, ◌∙◌, ◌⊎◌, arith}
use Rattle.std.specs.Bool.{Decides}
use Rattle.std.specs.Prelude.{if◌then◌else◌, slice_get, min, not}
use Rattle.std.specs.Str.{bytes_eq}
use Rattle.std.proofs.lemmas.Slice.Eq.{bytes_eq-Decides}
use Rattle.std.proofs.lemmas.Bool.Decides.{Decides-eqb, Decides-not, Decides-or}
use Rattle.sap_terms.proofs.PlainLaws.Tests.{and_left, and_right, and_true}
use Rattle.sap_terms.specs.Same.{same_sort}
use Rattle.sap_terms.specs.Signature.{Sig, arity_of}
use Rattle.sap_terms.specs.Tree.{Tree, Trees, variable, public, fresh, apply, none, more, trees_of}
use Rattle.sap_terms.specs.declared.var.Sort.{Sort}
use Rattle.sap_terms.specs.declared.var.Sort.TheVariants.{Msg, Fresh, Pub}
use Rattle.sap_terms.specs.declared.var.Var.{Var}
use Rattle.sap_formula.specs.Checked.{StandsIn, StandsInAny, StandsInAtom, binder_name, find_binder}
use Rattle.sap_formula.specs.Faults.{IsBound, HasFault, IsFirstFault}
use Rattle.sap_formula.specs.Form.{Form, truth, falsity, action, equal, same_time, earlier, negation, both, either, implies, equivalent, every, exists}
use Rattle.sap_formula.specs.Parts.{Part, symbol, fact_name, message, time, bound, part_name, form_parts}
use Rattle.sap_formula.specs.declared.binder.Binder.{Binder}
use Rattle.sap_formula.specs.declared.binder.Binder.TheVariants.{Message, Time}
use Rattle.sap_formula.specs.declared.fault.FormulaFlaw.{FormulaFlaw}
use Rattle.sap_formula.specs.declared.fault.FormulaFlaw.TheVariants.{BadFunction, Destructor, Reserved, UnboundVar, Unguarded}
use Rattle.sap_formula_words.specs.code.Faulty.{unless_found, past, first_of_all, has_arity, binds_message, binds_time, stands_in, stands_in_any, stands, is_faulty}
use Rattle.sap_formula_words.specs.code.Walk.{next}

-- the binder that is found has the name
found_name : (scope : List Binder) (n : List ℕ) (b : Binder) → find_binder scope n ≡ Some b → binder_name b ≡ n
found_name [] n b h = absurd (cc (h))
found_name (c ∷ scope) n b h = at (bytes_eq (binder_name c) n) refl h (found_name scope n b)
  where
    at : (t : Bool) → bytes_eq (binder_name c) n ≡ t → (if t then Some c else find_binder scope n) ≡ Some b → (find_binder scope n ≡ Some b → binder_name b ≡ n) → binder_name b ≡ n
    at true e q later = let same : c ≡ b = cc (q) in ap binder_name (sym same) ∙ (bytes_eq-Decides (binder_name c) n).0 e
    at false e q later = later q

arity_decided : (o : Option ℕ) (n : ℕ) → Decides (has_arity o n) (o ≡ Some n)
arity_decided None n = (λ h. absurd (cc (h)), λ h. absurd (cc (h)))
arity_decided (Some k) n = (λ h. ap Some ((Decides-eqb k n).0 h), λ h. let same : k ≡ n = cc (h) in (Decides-eqb k n).1 same)

sort_decided : (s t : Sort) → Decides (same_sort s t) (s ≡ t)
sort_decided Msg Msg = (λ h. refl, λ h. refl)
sort_decided Fresh Fresh = (λ h. refl, λ h. refl)
sort_decided Pub Pub = (λ h. refl, λ h. refl)
sort_decided Msg Fresh = (λ h. absurd (cc (h)), λ h. absurd (cc (h)))
sort_decided Msg Pub = (λ h. absurd (cc (h)), λ h. absurd (cc (h)))
sort_decided Fresh Msg = (λ h. absurd (cc (h)), λ h. absurd (cc (h)))
sort_decided Fresh Pub = (λ h. absurd (cc (h)), λ h. absurd (cc (h)))
sort_decided Pub Msg = (λ h. absurd (cc (h)), λ h. absurd (cc (h)))
sort_decided Pub Fresh = (λ h. absurd (cc (h)), λ h. absurd (cc (h)))

message_decided : (scope : List Binder) (v : Var) → Decides (binds_message (find_binder scope v.name) v.sort) (IsBound scope v)
message_decided scope v = at (find_binder scope v.name) refl
  where
    at : (o : Option Binder) → find_binder scope v.name ≡ o → Decides (binds_message o v.sort) (IsBound scope v)
    at None e = (λ h. absurd (cc (h)), λ b. let q = b.innermost in absurd (cc (e, q)))
    at (Some (Time n)) e = (λ h. absurd (cc (h)), λ b. let q = b.innermost in absurd (cc (e, q)))
    at (Some (Message b)) e =
        let d = Decides-or (same_sort v.sort Msg) (same_sort v.sort b.sort) (sort_decided v.sort Msg) (sort_decided v.sort b.sort) in (
          λ h. record { binder = b; innermost = e; sign = d.0 h },
          λ x. let q = x.innermost in let same : x.binder ≡ b = cc (e, q) in d.1 (subst (λ (y : Var). (v.sort ≡ Msg) ⊎ (v.sort ≡ y.sort)) same x.sign),
        )

time_decided : (scope : List Binder) (n : List ℕ) → Decides (binds_time (find_binder scope n)) (find_binder scope n ≡ Some (Time n))
time_decided scope n = at (find_binder scope n) refl
  where
    at : (o : Option Binder) → find_binder scope n ≡ o → Decides (binds_time o) (o ≡ Some (Time n))
    at None e = (λ h. absurd (cc (h)), λ h. absurd (cc (h)))
    at (Some (Message v)) e = (λ h. absurd (cc (h)), λ h. absurd (cc (h)))
    at (Some (Time m)) e = (λ h. ap (λ k. Some (Time k)) (found_name scope n (Time m) e), λ h. refl)

mutual
  in_decided : (n : List ℕ) (t : Tree) → Decides (stands_in n t) (StandsIn n t)
  in_decided n (variable v) = bytes_eq-Decides v.name n
  in_decided n (public m) = (λ h. absurd (cc (h)), λ h. absurd h)
  in_decided n (fresh k) = (λ h. absurd (cc (h)), λ h. absurd h)
  in_decided n (apply f ts) = any_decided n ts

  any_decided : (n : List ℕ) (ts : Trees) → Decides (stands_in_any n ts) (StandsInAny n ts)
  any_decided n none = (λ h. absurd (cc (h)), λ h. absurd h)
  any_decided n (more t ts) = Decides-or (stands_in n t) (stands_in_any n ts) (in_decided n t) (any_decided n ts)

never : Decides false ⊥
never = (λ h. absurd (cc (h)), λ h. absurd h)

guard_decided : (n : List ℕ) (f : Form) → Decides (stands n f) (StandsInAtom n f)
guard_decided n (both f g) = Decides-or (stands n f) (stands n g) (guard_decided n f) (guard_decided n g)
guard_decided n (action f i) = Decides-or (bytes_eq i n) (stands_in_any n (trees_of f.args)) (bytes_eq-Decides i n) (any_decided n (trees_of f.args))
guard_decided n truth = never
guard_decided n falsity = never
guard_decided n (equal s t) = never
guard_decided n (same_time i j) = never
guard_decided n (earlier i j) = never
guard_decided n (negation f) = never
guard_decided n (either f g) = never
guard_decided n (implies f g) = never
guard_decided n (equivalent f g) = never
guard_decided n (every bs f) = never
guard_decided n (exists bs f) = never

-- the part that has the fault passes the test of its name
passes : (g : Sig) (r : Bool) (w : FormulaFlaw) (p : Part) → HasFault g r w p → is_faulty g w (part_name p) p ≡ true
passes g r BadFunction (symbol f n) h = and_true (bytes_eq f f) (not (has_arity (arity_of g f) n)) ((bytes_eq-Decides f f).1 refl) ((Decides-not (has_arity (arity_of g f) n) (arity_decided (arity_of g f) n)).1 h)
passes g r BadFunction (fact_name n) h = absurd h
passes g r BadFunction (message s v) h = absurd h
passes g r BadFunction (time s n) h = absurd h
passes g r BadFunction (bound f b) h = absurd h
passes g r Destructor (symbol f n) h = (bytes_eq-Decides f f).1 refl
passes g r Destructor (fact_name n) h = absurd h
passes g r Destructor (message s v) h = absurd h
passes g r Destructor (time s n) h = absurd h
passes g r Destructor (bound f b) h = absurd h
passes g r Reserved (fact_name n) h = (bytes_eq-Decides n n).1 refl
passes g r Reserved (symbol f n) h = absurd h
passes g r Reserved (message s v) h = absurd h
passes g r Reserved (time s n) h = absurd h
passes g r Reserved (bound f b) h = absurd h
passes g r UnboundVar (message s v) h =
    and_true (bytes_eq v.name v.name) (not (binds_message (find_binder s v.name) v.sort)) ((bytes_eq-Decides v.name v.name).1 refl) ((Decides-not (binds_message (find_binder s v.name) v.sort) (message_decided s v)).1 h)
passes g r UnboundVar (time s n) h = and_true (bytes_eq n n) (not (binds_time (find_binder s n))) ((bytes_eq-Decides n n).1 refl) ((Decides-not (binds_time (find_binder s n)) (time_decided s n)).1 h)
passes g r UnboundVar (symbol f n) h = absurd h
passes g r UnboundVar (fact_name n) h = absurd h
passes g r UnboundVar (bound f b) h = absurd h
passes g r Unguarded (bound f b) h =
    and_true (bytes_eq (binder_name b) (binder_name b)) (not (stands (binder_name b) f)) ((bytes_eq-Decides (binder_name b) (binder_name b)).1 refl) ((Decides-not (stands (binder_name b) f) (guard_decided (binder_name b) f)).1 h)
passes g r Unguarded (symbol f n) h = absurd h
passes g r Unguarded (fact_name n) h = absurd h
passes g r Unguarded (message s v) h = absurd h
passes g r Unguarded (time s n) h = absurd h

-- a part that passes it has the fault, where some part of this name has
destructor_too : (g : Sig) (r : Bool) (p : Part) (f : List ℕ) (n : ℕ) → HasFault g r Destructor p → f ≡ part_name p → HasFault g r Destructor (symbol f n)
destructor_too g r (symbol h k) f n has same = subst (λ x. HasFault g r Destructor (symbol x n)) (sym same) has
destructor_too g r (fact_name m) f n has same = absurd has
destructor_too g r (message s v) f n has same = absurd has
destructor_too g r (time s m) f n has same = absurd has
destructor_too g r (bound h b) f n has same = absurd has

reserved_too : (g : Sig) (r : Bool) (p : Part) (n : List ℕ) → HasFault g r Reserved p → n ≡ part_name p → HasFault g r Reserved (fact_name n)
reserved_too g r (fact_name m) n has same = subst (λ x. HasFault g r Reserved (fact_name x)) (sym same) has
reserved_too g r (symbol h k) n has same = absurd has
reserved_too g r (message s v) n has same = absurd has
reserved_too g r (time s m) n has same = absurd has
reserved_too g r (bound h b) n has same = absurd has

has : (g : Sig) (r : Bool) (w : FormulaFlaw) (x : List ℕ) (p q : Part) → HasFault g r w p → part_name p ≡ x → is_faulty g w x q ≡ true → HasFault g r w q
has g r BadFunction x p (symbol f n) h e t = (Decides-not (has_arity (arity_of g f) n) (arity_decided (arity_of g f) n)).0 (and_right (bytes_eq f x) (not (has_arity (arity_of g f) n)) t)
has g r BadFunction x p (fact_name n) h e t = absurd (cc (t))
has g r BadFunction x p (message s v) h e t = absurd (cc (t))
has g r BadFunction x p (time s n) h e t = absurd (cc (t))
has g r BadFunction x p (bound f b) h e t = absurd (cc (t))
has g r Destructor x p (symbol f n) h e t = destructor_too g r p f n h ((bytes_eq-Decides f x).0 t ∙ sym e)
has g r Destructor x p (fact_name n) h e t = absurd (cc (t))
has g r Destructor x p (message s v) h e t = absurd (cc (t))
has g r Destructor x p (time s n) h e t = absurd (cc (t))
has g r Destructor x p (bound f b) h e t = absurd (cc (t))
has g r Reserved x p (fact_name n) h e t = reserved_too g r p n h ((bytes_eq-Decides n x).0 t ∙ sym e)
has g r Reserved x p (symbol f n) h e t = absurd (cc (t))
has g r Reserved x p (message s v) h e t = absurd (cc (t))
has g r Reserved x p (time s n) h e t = absurd (cc (t))
has g r Reserved x p (bound f b) h e t = absurd (cc (t))
has g r UnboundVar x p (message s v) h e t =
    let same : x ≡ v.name = sym ((bytes_eq-Decides v.name x).0 (and_left (bytes_eq v.name x) (not (binds_message (find_binder s x) v.sort)) t)) in
    (Decides-not (binds_message (find_binder s v.name) v.sort) (message_decided s v)).0
    (subst (λ y. not (binds_message (find_binder s y) v.sort) ≡ true) same (and_right (bytes_eq v.name x) (not (binds_message (find_binder s x) v.sort)) t))
has g r UnboundVar x p (time s n) h e t =
    let same : x ≡ n = sym ((bytes_eq-Decides n x).0 (and_left (bytes_eq n x) (not (binds_time (find_binder s x))) t)) in
    (Decides-not (binds_time (find_binder s n)) (time_decided s n)).0
    (subst (λ y. not (binds_time (find_binder s y)) ≡ true) same (and_right (bytes_eq n x) (not (binds_time (find_binder s x))) t))
has g r UnboundVar x p (symbol f n) h e t = absurd (cc (t))
has g r UnboundVar x p (fact_name n) h e t = absurd (cc (t))
has g r UnboundVar x p (bound f b) h e t = absurd (cc (t))
has g r Unguarded x p (bound f b) h e t =
    let same : x ≡ binder_name b = sym ((bytes_eq-Decides (binder_name b) x).0 (and_left (bytes_eq (binder_name b) x) (not (stands x f)) t)) in
    (Decides-not (stands (binder_name b) f) (guard_decided (binder_name b) f)).0
    (subst (λ y. not (stands y f) ≡ true) same (and_right (bytes_eq (binder_name b) x) (not (stands x f)) t))
has g r Unguarded x p (symbol f n) h e t = absurd (cc (t))
has g r Unguarded x p (fact_name n) h e t = absurd (cc (t))
has g r Unguarded x p (message s v) h e t = absurd (cc (t))
has g r Unguarded x p (time s n) h e t = absurd (cc (t))

-- the first that passes, at index k, counted on from n
first_at : (p : Part → Bool) (xs : List Part) (k n : ℕ) (x : Part) → slice_get xs k ≡ Some x → p x ≡ true → ((j : ℕ) (y : Part) → j < k → slice_get xs j ≡ Some y → p y ≡ false) → n < 2 ^ 64
    → first_of_all p xs n ≡ Err (min (n + k) (2 ^ 64 - 1))
unfolding first_of_all unless_found
first_at p [] k n x e t before few = absurd (cc (e))
first_at p (y ∷ xs) zero n x e t before few =
    let same : y ≡ x = cc (e) in
    let here : n ≡ min (n + 0) (2 ^ 64 - 1) = omega (arith, few) in
    ap (λ b. unless_found (past b n) (first_of_all p xs)) (ap p same ∙ t) ∙ ap Err here
first_at p (y ∷ xs) (suc k) n x e t before few =
    let there : min (min (n + 1) (2 ^ 64 - 1) + k) (2 ^ 64 - 1) ≡ min (n + suc k) (2 ^ 64 - 1) = omega arith in
    ap (λ b. unless_found (past b n) (first_of_all p xs)) (before 0 y (omega arith) refl)
    ∙ (first_at p xs k (next n) x e t (λ j z less got. before (suc j) z (omega (arith, less)) got) (omega arith) ∙ ap Err there)

is_false : (b : Bool) → (b ≡ true → ⊥) → b ≡ false
is_false true h = absurd (h refl)
is_false false h = refl

pub first_is : (g : Sig) (r : Bool) (f : Form) (w : FormulaFlaw) (x : List ℕ) (first : IsFirstFault g r f w x) → first_of_all (is_faulty g w x) (form_parts [] f) 0 ≡ Err (min first.at (2 ^ 64 - 1))
first_is g r f w x first =
    let p = first.here.part in
    first_at (is_faulty g w x) (form_parts [] f) first.at 0 p first.here.stands (subst (λ y. is_faulty g w y p ≡ true) first.name_is (passes g r w p first.here.fault))
    (λ j y less got. is_false (is_faulty g w x y) (λ t. first.first j less (record { part = y; stands = got; fault = has g r w x p y first.here.fault first.name_is t }))) (omega arith)
    ∙ ap (λ k. Err (min k (2 ^ 64 - 1))) (let same : 0 + first.at ≡ first.at = omega arith in same)

-- of the same under other names
pub carried : {g h : Sig} {f i : Form} {w v : FormulaFlaw} {n m : List ℕ} (o : Option ℕ) (r : Bool) → g ≡ h → f ≡ i → w ≡ v → n ≡ m
    → ((first : IsFirstFault g r f w n) → o ≡ Some (min first.at (2 ^ 64 - 1))) → (first : IsFirstFault h r i v m) → o ≡ Some (min first.at (2 ^ 64 - 1))
carried {g} {h} {f} {i} {w} {v} {n} {m} o r e1 e2 e3 e4 answer =
    subst (λ a. (first : IsFirstFault a r i v m) → o ≡ Some (min first.at (2 ^ 64 - 1))) e1
    (subst (λ a. (first : IsFirstFault g r a v m) → o ≡ Some (min first.at (2 ^ 64 - 1))) e2
    (subst (λ a. (first : IsFirstFault g r f a m) → o ≡ Some (min first.at (2 ^ 64 - 1))) e3
    (subst (λ a. (first : IsFirstFault g r f w a) → o ≡ Some (min first.at (2 ^ 64 - 1))) e4 answer)))
