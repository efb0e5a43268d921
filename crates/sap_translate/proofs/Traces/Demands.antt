-- The restrictions after one more place, and before it.
use Rattle.sap_restrict.specs.ReservedFacts.{input_fact, eq_fact, not_eq_fact, is_in_fact, is_not_set_fact, lock_fact}
use Rattle.sap_translate.specs.Members.{Member}
use Rattle.sap_restrict.specs.Sentences.{EachEqual, EachUnequal}
use Rattle.sap_translate.specs.relation.Shown.{ShowsAt, MeetsSix}
use Rattle.sap_translate.proofs.Shared.Facts.{names_apart, both_true, same_name_true}
use Rattle.sap_translate.proofs.Shared.Inputs.{has_more, has_where, old, new, served_quiet, served_before, free_served}
use Rattle.sap_translate.proofs.Traces.LockTraces.{lock_more, lock_before, lock_ok, is_lock}
use Rattle.sap_translate.proofs.Shared.Lookups.{only_member}
use Rattle.sap_translate.proofs.Traces.Store.{found_quiet, missed_quiet, found_before, missed_before, found_ok, missed_ok, is_write}
use Rattle.sap_translate.specs.relation.Names.{name_among}
use Rattle.sap_translate.specs.relation.Locks.{LockFree}
use Rattle.sap_translate.specs.relation.Related.{Free, Stored, NotSet}
use Rattle.sap_terms.specs.Equal.{IsTheoryEqual}
use Rattle.sap_terms.specs.Reserved.{is_reserved}
use Rattle.sap_terms.specs.Equations.{Equations}
use Rattle.sap_terms.specs.Trace.{Trace}
use Rattle.sap_terms.specs.Tree.{Tree}
use Rattle.sap_terms.specs.declared.fact.Fact.{Fact}
use Rattle.std.proofs.Common.{◌≡◌, List, [], ◌∷◌, ◌++◌, refl, sym, ap, ◌∙◌, Bool, true, false, cond, subst, ℕ}
use Rattle.std.specs.Prelude.{codes}
use Rattle.std.specs.Str.{bytes_eq}

-- the names of facts that a restriction asks something for
abbrev pub is_demand : List ℕ → Bool
is_demand name = name_among name (codes "InEvent" ∷ codes "Eq" ∷ codes "NotEq" ∷ codes "IsIn" ∷ codes "IsNotSet" ∷ codes "Lock" ∷ [])

abbrev pub NoDemand : List Fact → Type 0
NoDemand acts = (f : Fact) → Member f acts → is_demand f.name ≡ false

pub no_demand_none : NoDemand []
no_demand_none f m = elim m [ ]

pub no_demand_one : (f : Fact) → is_demand f.name ≡ false → NoDemand (f ∷ [])
no_demand_one f e g m = subst (λ x. is_demand x.name ≡ false) (sym (only_member m)) e

pub no_demand_more : (f : Fact) (fs : List Fact) → is_demand f.name ≡ false → NoDemand fs → NoDemand (f ∷ fs)
no_demand_more f fs e rest g Member.here = e
no_demand_more f fs e rest g (Member.later m) = rest g m

-- a fact that asks for something is not among those that ask for nothing
asks : (acts : List Fact) (f : Fact) → NoDemand acts → is_demand f.name ≡ true → Member f acts → ⊥
asks acts f none e m = let h = none f m in let z : true ≡ false = sym e ∙ h in cc

-- a fact of another name
pub other : (f g : Fact) → bytes_eq f.name g.name ≡ false → Member f (g ∷ []) → ⊥
other f g e m = names_apart f.name g.name e (ap (λ (z : Fact). z.name) (only_member m))

pub equal_more : (e : Equations) (full : Trace) (p : List Fact) → EachEqual e (ShowsAt full) → ((x y : Tree) → Member (eq_fact x y) p → IsTheoryEqual e x y) → EachEqual e (ShowsAt (full ++ p ∷ []))
equal_more e full p all h x y i a = elim (has_where full p i (eq_fact x y) a) [ old b c ↦ all x y i c | new b m ↦ h x y m ]

pub unequal_more : (e : Equations) (full : Trace) (p : List Fact) → EachUnequal e (ShowsAt full) → ((x y : Tree) → Member (not_eq_fact x y) p → IsTheoryEqual e x y → ⊥) → EachUnequal e (ShowsAt (full ++ p ∷ []))
unequal_more e full p all h x y i a = elim (has_where full p i (not_eq_fact x y) a) [ old b c ↦ all x y i c | new b m ↦ h x y m ]

pub demands_quiet : (e : Equations) (full : Trace) (p : List Fact) → MeetsSix e full → NoDemand p → MeetsSix e (full ++ p ∷ [])
demands_quiet e full p d none = record {
  served = served_quiet full p d.served (λ y m. asks p (input_fact y) none refl m);
  equal = equal_more e full p d.equal (λ x y m. absurd (asks p (eq_fact x y) none refl m));
  unequal = unequal_more e full p d.unequal (λ x y m. absurd (asks p (not_eq_fact x y) none refl m));
  found = found_quiet full p d.found (λ x v m. asks p (is_in_fact x v) none refl m);
  missed = missed_quiet full p d.missed (λ x m. asks p (is_not_set_fact x) none refl m);
  lock = lock_more full p d.lock (λ l x m. asks p (lock_fact l x) none refl m);
}

pub demands_before : (e : Equations) (full : Trace) (p : List Fact) → MeetsSix e (full ++ p ∷ []) → MeetsSix e full
demands_before e full p d = record {
  served = served_before full p d.served;
  equal = λ x y i a. d.equal x y i (has_more full p i (eq_fact x y) a);
  unequal = λ x y i a. d.unequal x y i (has_more full p i (not_eq_fact x y) a);
  found = found_before full p d.found;
  missed = missed_before full p d.missed;
  lock = lock_before full p d.lock;
}

-- an input takes the free K event
pub demands_input : (e : Equations) (full : Trace) (x : Tree) → MeetsSix e full → Free full x → MeetsSix e (full ++ (input_fact x ∷ []) ∷ [])
demands_input e full x d f = record {
  served = free_served full x d.served f;
  equal = equal_more e full (input_fact x ∷ []) d.equal (λ y z m. absurd (other (eq_fact y z) (input_fact x) refl m));
  unequal = unequal_more e full (input_fact x ∷ []) d.unequal (λ y z m. absurd (other (not_eq_fact y z) (input_fact x) refl m));
  found = found_quiet full (input_fact x ∷ []) d.found (λ a b m. other (is_in_fact a b) (input_fact x) refl m);
  missed = missed_quiet full (input_fact x ∷ []) d.missed (λ a m. other (is_not_set_fact a) (input_fact x) refl m);
  lock = lock_more full (input_fact x ∷ []) d.lock (λ l a m. other (lock_fact l a) (input_fact x) refl m);
}

two_args : (x y v w : Tree) (f g : Fact) → f.args ≡ x ∷ y ∷ [] → g.args ≡ v ∷ w ∷ [] → f ≡ g → (x ≡ v) × (y ≡ w)
two_args x y v w f g a b e = let h : f.args ≡ g.args = ap (λ (z : Fact). z.args) e in (cc, cc)

pub demands_equal : (e : Equations) (full : Trace) (x y : Tree) → MeetsSix e full → IsTheoryEqual e x y → MeetsSix e (full ++ (eq_fact x y ∷ []) ∷ [])
demands_equal e full x y d h = record {
  served = served_quiet full (eq_fact x y ∷ []) d.served (λ z m. other (input_fact z) (eq_fact x y) refl m);
  equal = equal_more e full (eq_fact x y ∷ []) d.equal (λ v w m. let s = two_args v w x y (eq_fact v w) (eq_fact x y) refl refl (only_member m) in subst (λ a. IsTheoryEqual e a w) (sym s.0) (subst (λ a. IsTheoryEqual e x a) (sym s.1) h));
  unequal = unequal_more e full (eq_fact x y ∷ []) d.unequal (λ v w m. absurd (other (not_eq_fact v w) (eq_fact x y) refl m));
  found = found_quiet full (eq_fact x y ∷ []) d.found (λ a b m. other (is_in_fact a b) (eq_fact x y) refl m);
  missed = missed_quiet full (eq_fact x y ∷ []) d.missed (λ a m. other (is_not_set_fact a) (eq_fact x y) refl m);
  lock = lock_more full (eq_fact x y ∷ []) d.lock (λ l a m. other (lock_fact l a) (eq_fact x y) refl m);
}

pub demands_unequal : (e : Equations) (full : Trace) (x y : Tree) → MeetsSix e full → (IsTheoryEqual e x y → ⊥) → MeetsSix e (full ++ (not_eq_fact x y ∷ []) ∷ [])
demands_unequal e full x y d h = record {
  served = served_quiet full (not_eq_fact x y ∷ []) d.served (λ z m. other (input_fact z) (not_eq_fact x y) refl m);
  equal = equal_more e full (not_eq_fact x y ∷ []) d.equal (λ v w m. absurd (other (eq_fact v w) (not_eq_fact x y) refl m));
  unequal = unequal_more e full (not_eq_fact x y ∷ []) d.unequal (λ v w m. let s = two_args v w x y (not_eq_fact v w) (not_eq_fact x y) refl refl (only_member m) in λ q. h (subst (λ a. IsTheoryEqual e a y) s.0 (subst (λ a. IsTheoryEqual e v a) s.1 q)));
  found = found_quiet full (not_eq_fact x y ∷ []) d.found (λ a b m. other (is_in_fact a b) (not_eq_fact x y) refl m);
  missed = missed_quiet full (not_eq_fact x y ∷ []) d.missed (λ a m. other (is_not_set_fact a) (not_eq_fact x y) refl m);
  lock = lock_more full (not_eq_fact x y ∷ []) d.lock (λ l a m. other (lock_fact l a) (not_eq_fact x y) refl m);
}

pub demands_found : (e : Equations) (full : Trace) (x v : Tree) → MeetsSix e full → Stored full x v → MeetsSix e (full ++ (is_in_fact x v ∷ []) ∷ [])
demands_found e full x v d h = record {
  served = served_quiet full (is_in_fact x v ∷ []) d.served (λ z m. other (input_fact z) (is_in_fact x v) refl m);
  equal = equal_more e full (is_in_fact x v ∷ []) d.equal (λ y z m. absurd (other (eq_fact y z) (is_in_fact x v) refl m));
  unequal = unequal_more e full (is_in_fact x v ∷ []) d.unequal (λ y z m. absurd (other (not_eq_fact y z) (is_in_fact x v) refl m));
  found = found_ok full x v d.found h;
  missed = missed_quiet full (is_in_fact x v ∷ []) d.missed (λ a m. other (is_not_set_fact a) (is_in_fact x v) refl m);
  lock = lock_more full (is_in_fact x v ∷ []) d.lock (λ l a m. other (lock_fact l a) (is_in_fact x v) refl m);
}

pub demands_missed : (e : Equations) (full : Trace) (x : Tree) → MeetsSix e full → NotSet full x → MeetsSix e (full ++ (is_not_set_fact x ∷ []) ∷ [])
demands_missed e full x d h = record {
  served = served_quiet full (is_not_set_fact x ∷ []) d.served (λ z m. other (input_fact z) (is_not_set_fact x) refl m);
  equal = equal_more e full (is_not_set_fact x ∷ []) d.equal (λ y z m. absurd (other (eq_fact y z) (is_not_set_fact x) refl m));
  unequal = unequal_more e full (is_not_set_fact x ∷ []) d.unequal (λ y z m. absurd (other (not_eq_fact y z) (is_not_set_fact x) refl m));
  found = found_quiet full (is_not_set_fact x ∷ []) d.found (λ a b m. other (is_in_fact a b) (is_not_set_fact x) refl m);
  missed = missed_ok full x d.missed h;
  lock = lock_more full (is_not_set_fact x ∷ []) d.lock (λ l a m. other (lock_fact l a) (is_not_set_fact x) refl m);
}

pub demands_lock : (e : Equations) (full : Trace) (n x : Tree) → MeetsSix e full → LockFree full x → MeetsSix e (full ++ (lock_fact n x ∷ []) ∷ [])
demands_lock e full n x d h = record {
  served = served_quiet full (lock_fact n x ∷ []) d.served (λ z m. other (input_fact z) (lock_fact n x) refl m);
  equal = equal_more e full (lock_fact n x ∷ []) d.equal (λ y z m. absurd (other (eq_fact y z) (lock_fact n x) refl m));
  unequal = unequal_more e full (lock_fact n x ∷ []) d.unequal (λ y z m. absurd (other (not_eq_fact y z) (lock_fact n x) refl m));
  found = found_quiet full (lock_fact n x ∷ []) d.found (λ a b m. other (is_in_fact a b) (lock_fact n x) refl m);
  missed = missed_quiet full (lock_fact n x ∷ []) d.missed (λ a m. other (is_not_set_fact a) (lock_fact n x) refl m);
  lock = lock_ok full n x d.lock h;
}

-- a name that is not reserved is none of some reserved ones
abbrev pub all_reserved : List (List ℕ) → Bool
all_reserved [] = true
all_reserved (y ∷ ys) = cond (is_reserved y) (all_reserved ys) false

pub none_of : (n : List ℕ) (ys : List (List ℕ)) → is_reserved n ≡ false → all_reserved ys ≡ true → name_among n ys ≡ false
none_of n [] h a = refl
none_of n (y ∷ ys) h a = go (bytes_eq n y) refl (both_true (is_reserved y) (all_reserved ys) a) (λ z. none_of n ys h z)
  where
    go : (b : Bool) → bytes_eq n y ≡ b → (is_reserved y ≡ true) × (all_reserved ys ≡ true) → (all_reserved ys ≡ true → name_among n ys ≡ false) → cond b true (name_among n ys) ≡ false
    go true e k rest = absurd (let g : is_reserved y ≡ false = subst (λ z. is_reserved z ≡ false) (same_name_true n y e) h in let z : false ≡ true = sym g ∙ k.0 in cc)
    go false e k rest = rest k.1

pub fine_asks_none : (n : List ℕ) → is_reserved n ≡ false → is_demand n ≡ false
fine_asks_none n h = none_of n (codes "InEvent" ∷ codes "Eq" ∷ codes "NotEq" ∷ codes "IsIn" ∷ codes "IsNotSet" ∷ codes "Lock" ∷ []) h refl

pub fine_writes_none : (n : List ℕ) → is_reserved n ≡ false → is_write n ≡ false
fine_writes_none n h = none_of n (codes "Insert" ∷ codes "Delete" ∷ []) h refl

pub fine_locks_none : (n : List ℕ) → is_reserved n ≡ false → is_lock n ≡ false
fine_locks_none n h = none_of n (codes "Lock" ∷ codes "Unlock" ∷ []) h refl
