-- In an annotated process the variable of a lock isn't in scope where the lock stands.
use Rattle.std.proofs.Common.{◌≡◌, ℕ, zero, suc, ◌+◌, ◌<◌, ◌≤◌, ◌^◌, ◌⊎◌, inl, inr, List, [], ◌∷◌, ◌++◌, Some, Bool, true, false, ◌||◌, cond, drop, nat_eq, arith, refl, sym, ap, subst, ◌∙◌}
use Rattle.std.specs.Prelude.{Contains, codes, decimal, slice_get}
use Rattle.std.specs.List.{starts_with}
use Rattle.std.specs.Str.{bytes_eq}
use Rattle.std.proofs.lemmas.Fmt.{decimal_injective}
use Rattle.std.proofs.lemmas.List.{append_assoc}
use Rattle.std.proofs.lemmas.List.Elements.{Contains-append_cases, Contains-append_left, Contains-append_right}
use Rattle.std.proofs.lemmas.Slice.Eq.{bytes_eq-Decides}
use Rattle.sap_terms.specs.Signature.{Sig}
use Rattle.sap_terms.specs.Tree.{Tree, trees_of}
use Rattle.sap_terms.specs.Variables.{tree_vars, trees_vars, facts_vars, is_known, new_vars}
use Rattle.sap_terms.specs.declared.fact.Fact.{Fact}
use Rattle.sap_terms.specs.declared.var.Var.{Var}
use Rattle.sap_process.specs.Action as action
use Rattle.sap_process.specs.Action.{Action}
use Rattle.sap_process.specs.Flaws.{HasReservedVar, IsWellFormed}
use Rattle.sap_process.specs.declared.flaw.Flaw.TheVariants.{ReservedVar}
use Rattle.sap_process.specs.Heads.{head_vars, facts_terms, terms_vars, locks_set}
use Rattle.sap_process.specs.Places.{place}
use Rattle.sap_process.specs.Proc as whole
use Rattle.sap_process.specs.Proc.{Proc, act, node_count}
use Rattle.sap_process.specs.Sites.{Site, above_of, bound_by, message_var, sites_from, sites, var_names}
use Rattle.sap_locks.specs.Annotation.{IsLabelled, IsAnnotated, IsAnnotation, lock_at, unlock_at, unlabelled, unlabelled_action}
use Rattle.sap_process.specs.Scopes.{Spot, lock_var, scope_behind, locks_behind, spot, spots_from, spots, with_new}
use Rattle.sap_locks.specs.Ways.{IsLockOf, LockMark, LockSite, lock_count, lock_sites, way_behind}
use Rattle.sap_locks.proofs.Counts.{locks_below}
use Rattle.sap_locks.proofs.Members.{member-head, member-none, member-cases, member-tail}
use Rattle.sap_locks.proofs.OpenLocks.{open_locks_are}
use Rattle.sap_locks.proofs.Places.{AllAt, in_all, Each, each_first, each_second, each_next, one_of, two_of}

abbrev IsReserved : List ℕ → Type 0
IsReserved n = starts_with nat_eq n (codes "sapic_") ≡ true

-- no variable of the list has a reserved name
abbrev ArePlain : List Var → Type 0
ArePlain vs = (x : Var) → Contains vs x → ¬ IsReserved x.name

-- nor one at any head
abbrev AllPlain : Proc → Type 0
AllPlain whole.nil = Unit {0}
AllPlain (whole.parallel p q) = AllPlain p × AllPlain q
AllPlain (whole.replicated p) = AllPlain p
AllPlain (act a p) = ArePlain (head_vars (act a p)) × AllPlain p
AllPlain (whole.test t u p q) = AllPlain p × AllPlain q
AllPlain (whole.lookup t x p q) = ArePlain (head_vars (whole.lookup t x p q)) × AllPlain p × AllPlain q

abbrev NotReserved : Site → Type 0
NotReserved s = ¬ HasReservedVar s

head_plain : (s : Site) → NotReserved s → ArePlain (head_vars s.body)
head_plain s h x m e = h (record { var = x; stands = m; reserved = e })

all_plain : (p : Proc) (path : List ℕ) (v : List Var) (k : ℕ) → Each NotReserved (sites_from path v k p) → AllPlain p
all_plain whole.nil path v k h = tt
all_plain (whole.parallel p q) path v k h =
    let s = place path (above_of v k) (whole.parallel p q) in
    let xs = sites_from (path ++ 1 ∷ []) v k p in
    let ys = sites_from (path ++ 2 ∷ []) v k q in
    (all_plain p (path ++ 1 ∷ []) v k (each_first NotReserved s xs ys h), all_plain q (path ++ 2 ∷ []) v k (each_second NotReserved s xs ys h))
all_plain (whole.replicated p) path v k h =
    all_plain p (path ++ 1 ∷ []) v k (each_next NotReserved (place path (above_of v k) (whole.replicated p)) (sites_from (path ++ 1 ∷ []) v k p) h)
all_plain (act a p) path v k h =
    let s = place path (above_of v k) (act a p) in
    let xs = sites_from (path ++ 1 ∷ []) (v ++ bound_by v a) (k + locks_set a) p in
    (head_plain s (h s (member-head s xs)), all_plain p (path ++ 1 ∷ []) (v ++ bound_by v a) (k + locks_set a) (each_next NotReserved s xs h))
all_plain (whole.test t u p q) path v k h =
    let s = place path (above_of v k) (whole.test t u p q) in
    let xs = sites_from (path ++ 1 ∷ []) v k p in
    let ys = sites_from (path ++ 2 ∷ []) v k q in
    (all_plain p (path ++ 1 ∷ []) v k (each_first NotReserved s xs ys h), all_plain q (path ++ 2 ∷ []) v k (each_second NotReserved s xs ys h))
all_plain (whole.lookup t x p q) path v k h =
    let s = place path (above_of v k) (whole.lookup t x p q) in
    let xs = sites_from (path ++ 1 ∷ []) (v ++ message_var x ∷ []) k p in
    let ys = sites_from (path ++ 2 ∷ []) v k q in (
      head_plain s (h s (member-head s (xs ++ ys))),
      all_plain p (path ++ 1 ∷ []) (v ++ message_var x ∷ []) k (each_first NotReserved s xs ys h),
      all_plain q (path ++ 2 ∷ []) v k (each_second NotReserved s xs ys h),
    )

-- a variable in scope where k locks stand before: its name isn't reserved, or it is that of one of these locks
abbrev IsOld : ℕ → Var → Type 0
IsOld k x = (¬ IsReserved x.name) ⊎ ((j : ℕ) × (j ≤ k) × (x.name ≡ (lock_var j).name))

abbrev AreOld : ℕ → List Var → Type 0
AreOld k v = (x : Var) → Contains v x → IsOld k x

old_more : (v : List Var) (k n : ℕ) → k ≤ n → AreOld k v → AreOld n v
old_more v k n le h x m = elim (h x m) as (λ _. IsOld n x) [ inl a ↦ inl a | inr b ↦ inr (b.0, (let low : b.0 ≤ k = b.1 in omega (arith, low, le)), b.2) ]

old_join : (v w : List Var) (k : ℕ) → AreOld k v → AreOld k w → AreOld k (v ++ w)
old_join v w k h g x m = elim (Contains-append_cases v w x m) as (λ _. IsOld k x) [ inl a ↦ h x a | inr b ↦ g x b ]

old_one : (y : Var) (k : ℕ) → IsOld k y → AreOld k (y ∷ [])
old_one y k h x m = elim (member-cases y [] x m) as (λ _. IsOld k x) [ inl e ↦ subst (IsOld k) e h | inr n ↦ absurd (member-none x n) ]

old_plain : (v : List Var) (k : ℕ) → ArePlain v → AreOld k v
old_plain v k h x m = inl (h x m)

-- what a pattern binds stands in it
new_in : (known : List (List ℕ)) (ws : List Var) (x : Var) → Contains (new_vars known ws) x → Contains ws x
new_in known [] x m = m
new_in known (w ∷ ws) x m = go (is_known known w.name) m (new_in known ws x) (new_in (known ++ w.name ∷ []) ws x)
  where
    go : (b : Bool) → Contains (cond b (new_vars known ws) (w ∷ new_vars (known ++ w.name ∷ []) ws)) x → (Contains (new_vars known ws) x → Contains ws x)
        → (Contains (new_vars (known ++ w.name ∷ []) ws) x → Contains ws x) → Contains (w ∷ ws) x
    go true m one two = member-tail w ws x (one m)
    go false m one two = elim (member-cases w (new_vars (known ++ w.name ∷ []) ws) x m) [
      | inl e ↦ subst (Contains (w ∷ ws)) e (member-head w ws)
      | inr k ↦ member-tail w ws x (two k)
    ]

old_new : (v ws : List Var) (k : ℕ) → AreOld k v → ArePlain ws → AreOld k (with_new v ws)
old_new v ws k h plain = old_join v (new_vars (var_names v) ws) k h (λ x m. inl (plain x (new_in (var_names v) ws x m)))

-- the variables of facts are those of their terms
trees_are : (ts : List Tree) → trees_vars (trees_of ts) ≡ terms_vars ts
trees_are [] = refl
trees_are (t ∷ ts) = ap (λ vs. tree_vars t ++ vs) (trees_are ts)

terms_joined : (ts us : List Tree) → terms_vars (ts ++ us) ≡ terms_vars ts ++ terms_vars us
terms_joined [] us = refl
terms_joined (t ∷ ts) us = ap (λ vs. tree_vars t ++ vs) (terms_joined ts us) ∙ sym (append_assoc (tree_vars t) (terms_vars ts) (terms_vars us))

facts_are : (fs : List Fact) → facts_vars fs ≡ terms_vars (facts_terms fs)
facts_are [] = refl
facts_are (f ∷ fs) = (λ i. trees_are f.args i ++ facts_are fs i) ∙ sym (terms_joined f.args (facts_terms fs))

old_behind : (v : List Var) (k : ℕ) (a : Action) (p : Proc) → ((t : Tree) (l : ℕ) → lock_at (act a p) ≡ Some (t, l) → l ≡ k + 1) → ArePlain (head_vars (act a p)) → AreOld k v → AreOld (k + locks_set a) (scope_behind v a)
old_behind v k (action.new x) p own plain h = old_more (v ++ _ ∷ []) k (k + 0) (omega arith) (old_join v (_ ∷ []) k h (old_one _ k (inl (plain x (member-head x [])))))
old_behind v k (action.out t) p own plain h = old_more v k (k + 0) (omega arith) h
old_behind v k (action.send t u) p own plain h = old_more v k (k + 0) (omega arith) h
old_behind v k (action.input t) p own plain h =
    old_more (with_new v (tree_vars t)) k (k + 0) (omega arith) (old_new v (tree_vars t) k h (λ x m. plain x (Contains-append_left (tree_vars t) [] x m)))
old_behind v k (action.receive t u) p own plain h =
    old_more (with_new v (tree_vars u)) k (k + 0) (omega arith)
    (old_new v (tree_vars u) k h (λ x m. plain x (Contains-append_right (tree_vars t) (tree_vars u ++ []) x (Contains-append_left (tree_vars u) [] x m))))
old_behind v k (action.event f) p own plain h = old_more v k (k + 0) (omega arith) h
old_behind v k (action.insert t u) p own plain h = old_more v k (k + 0) (omega arith) h
old_behind v k (action.delete t) p own plain h = old_more v k (k + 0) (omega arith) h
old_behind v k (action.lock t l) p own plain h =
    let e : l ≡ k + 1 = own t l refl in
    old_join v (lock_var l ∷ []) (k + 1) (old_more v k (k + 1) (omega arith) h) (old_one (lock_var l) (k + 1) (inr (l, (omega (arith, e)), refl)))
old_behind v k (action.unlock t l) p own plain h = old_more v k (k + 0) (omega arith) h
old_behind v k (action.embedded l e r) p own plain h =
    old_more (with_new v (facts_vars (l ++ (e ++ r)))) k (k + 0) (omega arith)
    (old_new v (facts_vars (l ++ (e ++ r))) k h (λ x m. plain x (subst (λ vs. Contains vs x) (facts_are (l ++ (e ++ r))) m)))

-- a variable that is old isn't that of the next lock
not_next : (x : Var) (k l : ℕ) → l ≡ k + 1 → k + 1 < 2 ^ 64 → IsOld k x → x.name ≡ (lock_var l).name → ⊥
not_next x k l e small (inl plain) same = plain (ap (λ n. starts_with nat_eq n (codes "sapic_")) same)
not_next x k l e small (inr old) same =
    let digits : decimal old.0 ≡ decimal l = ap (drop 10) (sym old.2 ∙ same) in
    let low : old.0 ≤ k = old.1 in
    let one : old.0 ≡ l = decimal_injective old.0 l (omega (arith, low, small)) (omega (arith, e, small)) digits in
    omega (arith, one, low, e)

label_new : (v : List Var) (k l : ℕ) → l ≡ k + 1 → k + 1 < 2 ^ 64 → AreOld k v → is_known (var_names v) (lock_var l).name ≡ false
label_new [] k l e small h = refl
label_new (x ∷ v) k l e small h = go (bytes_eq x.name (lock_var l).name) refl (label_new v k l e small (λ y m. h y (member-tail x v y m)))
  where
    go : (b : Bool) → bytes_eq x.name (lock_var l).name ≡ b → is_known (var_names v) (lock_var l).name ≡ false → (b || is_known (var_names v) (lock_var l).name) ≡ false
    go true same later = absurd (not_next x k l e small (h x (member-head x v)) ((bytes_eq-Decides x.name (lock_var l).name).0 same))
    go false same later = later

abbrev IsNewAt : Spot → Type 0
IsNewAt a = (t : Tree) (l : ℕ) → lock_at a.body ≡ Some (t, l) → is_known (var_names a.above.scope) (lock_var l).name ≡ false

new_from : (p : Proc) (path : List ℕ) (v : List Var) (ls : List ℕ) (way : List LockMark) (k : ℕ) → AllAt IsLabelled path way k p → AllPlain p → AreOld k v → k + lock_count p < 2 ^ 64 → Each IsNewAt (spots_from path v ls p)
new_from whole.nil path v ls way k h plain old small = one_of IsNewAt (spot path v ls whole.nil) [] (λ t l e. cc) (λ u m. absurd (member-none u m))
new_from (whole.parallel p q) path v ls way k h plain old small =
    two_of IsNewAt (spot path v ls (whole.parallel p q)) (spots_from (path ++ 1 ∷ []) v ls p) (spots_from (path ++ 2 ∷ []) v ls q) (λ t l e. cc)
    (new_from p (path ++ 1 ∷ []) v ls way k h.1 plain.0 old (omega (arith, small)))
    (new_from q (path ++ 2 ∷ []) v ls way (k + lock_count p) h.2 plain.1 (old_more v k (k + lock_count p) (omega arith) old) (omega (arith, small)))
new_from (whole.replicated p) path v ls way k h plain old small =
    one_of IsNewAt (spot path v ls (whole.replicated p)) (spots_from (path ++ 1 ∷ []) v ls p) (λ t l e. cc) (new_from p (path ++ 1 ∷ []) v ls way k h.1 plain old small)
new_from (act a p) path v ls way k h plain old small =
    one_of IsNewAt (spot path v ls (act a p)) (spots_from (path ++ 1 ∷ []) (scope_behind v a) (locks_behind ls a) p) (λ t l e. label_here a (h.0.0 t l e) t e small)
    (new_from p (path ++ 1 ∷ []) (scope_behind v a) (locks_behind ls a) (way_behind way k a) (k + locks_set a) h.1 plain.1 (old_behind v k a p h.0.0 plain.0 old) (omega (arith, small)))
  where
    label_here : (a : Action) {l : ℕ} → l ≡ k + 1 → (t : Tree) → lock_at (act a p) ≡ Some (t, l) → k + (locks_set a + lock_count p) < 2 ^ 64 → is_known (var_names v) (lock_var l).name ≡ false
    label_here (action.lock u n) {l} same t e few = label_new v k l same (omega (arith, few)) old
    label_here b same t e few = cc
new_from (whole.test t u p q) path v ls way k h plain old small =
    two_of IsNewAt (spot path v ls (whole.test t u p q)) (spots_from (path ++ 1 ∷ []) v ls p) (spots_from (path ++ 2 ∷ []) v ls q) (λ t l e. cc)
    (new_from p (path ++ 1 ∷ []) v ls way k h.1 plain.0 old (omega (arith, small)))
    (new_from q (path ++ 2 ∷ []) v ls way (k + lock_count p) h.2 plain.1 (old_more v k (k + lock_count p) (omega arith) old) (omega (arith, small)))
new_from (whole.lookup t x p q) path v ls way k h plain old small =
    two_of IsNewAt (spot path v ls (whole.lookup t x p q)) (spots_from (path ++ 1 ∷ []) (v ++ message_var x ∷ []) ls p) (spots_from (path ++ 2 ∷ []) v ls q) (λ t l e. cc)
    (new_from p (path ++ 1 ∷ []) (v ++ message_var x ∷ []) ls way k h.1 plain.1 (old_join v (message_var x ∷ []) k old (old_one (message_var x) k (inl (plain.0 x (member-head x _))))) (omega (arith, small)))
    (new_from q (path ++ 2 ∷ []) v ls way (k + lock_count p) h.2 plain.2 (old_more v k (k + lock_count p) (omega arith) old) (omega (arith, small)))

-- heads have the same variables without labels
same_head : (a : Action) (p r : Proc) → head_vars (act (unlabelled_action a) r) ≡ head_vars (act a p)
same_head (action.lock t l) p r = refl
same_head (action.unlock t l) p r = refl
same_head a p r = refl

plain_bare : (p : Proc) → AllPlain p → AllPlain (unlabelled p)
plain_bare whole.nil h = tt
plain_bare (whole.parallel p q) h = (plain_bare p h.0, plain_bare q h.1)
plain_bare (whole.replicated p) h = plain_bare p h
plain_bare (act a p) h = (subst ArePlain (sym (same_head a p (unlabelled p))) h.0, plain_bare p h.1)
plain_bare (whole.test t u p q) h = (plain_bare p h.0, plain_bare q h.1)
plain_bare (whole.lookup t x p q) h = (h.0, plain_bare p h.1, plain_bare q h.2)

plain_was : (p : Proc) → AllPlain (unlabelled p) → AllPlain p
plain_was whole.nil h = tt
plain_was (whole.parallel p q) h = (plain_was p h.0, plain_was q h.1)
plain_was (whole.replicated p) h = plain_was p h
plain_was (act a p) h = (subst ArePlain (same_head a p (unlabelled p)) h.0, plain_was p h.1)
plain_was (whole.test t u p q) h = (plain_was p h.0, plain_was q h.1)
plain_was (whole.lookup t x p q) h = (h.0, plain_was p h.1, plain_was q h.2)

bare_nodes : (p : Proc) → node_count (unlabelled p) ≡ node_count p
bare_nodes whole.nil = refl
bare_nodes (whole.parallel p q) = λ i. bare_nodes p i + bare_nodes q i + 1
bare_nodes (whole.replicated p) = ap (λ n. n + 1) (bare_nodes p)
bare_nodes (act a p) = ap (λ n. n + 1) (bare_nodes p)
bare_nodes (whole.test t u p q) = λ i. bare_nodes p i + bare_nodes q i + 1
bare_nodes (whole.lookup t x p q) = λ i. bare_nodes p i + bare_nodes q i + 1

where_stands : {X : Type 0} (xs : List X) (x : X) → Contains xs x → (k : ℕ) × (slice_get xs k ≡ Some x)
where_stands [] x m = absurd (member-none x m)
where_stands (y ∷ xs) x m = elim (member-cases y xs x m) [
  | inl e ↦ (0, ap Some e)
  | inr k ↦ (let r = where_stands xs x k in (suc r.0, r.1))
]

-- a well-formed process binds no reserved name
well_plain : (g : Sig) (p : Proc) → IsWellFormed g p → AllPlain p
well_plain g p fine =
    all_plain p [] [] 0 (λ s m h. let r = where_stands (sites p) s m in fine ReservedVar r.0 (record { site = s; stands = r.1; flaw = h }))

pub labels_are_new : (g : Sig) (p q : Proc) (a : Spot) (t : Tree) (l : ℕ) → IsWellFormed g p → node_count p < 2 ^ 64 → IsAnnotation p q → Contains (spots q) a → lock_at a.body ≡ Some (t, l)
    → is_known (var_names a.above.scope) (lock_var l).name ≡ false
labels_are_new g p q a t l fine small h m e =
    let few : lock_count q < node_count q = locks_below q in
    let same : node_count q ≡ node_count p = sym (bare_nodes q) ∙ ap node_count h.same ∙ bare_nodes p in
    let plain : AllPlain q = plain_was q (subst AllPlain (sym h.same) (plain_bare p (well_plain g p fine))) in
    new_from q [] [] [] [] 0 (in_all IsLabelled [] [] 0 q h.annotated.labelled) plain (λ x n. absurd (member-none x n)) (omega (arith, few, same, small)) a m t l e

-- and an unlock's label is that of an open lock of its term
got_in : (xs : List LockSite) (k : ℕ) (s : LockSite) → slice_get xs k ≡ Some s → Contains xs s
got_in [] k s e = absurd (cc)
got_in (x ∷ xs) zero s e = let same : x ≡ s = cc in subst (Contains (x ∷ xs)) same (member-head x xs)
got_in (x ∷ xs) (suc k) s e = member-tail x xs s (got_in xs k s e)

pub labels_are_open : (p : Proc) (k : ℕ) (a : Spot) (s : LockSite) (t : Tree) (n : ℕ) → IsAnnotated p → slice_get (spots p) k ≡ Some a → slice_get (lock_sites p) k ≡ Some s
    → unlock_at a.body ≡ Some (t, n) → Contains a.above.open_locks n × IsLockOf s.above.way n t
labels_are_open p k a s t n annotated e f is =
    let here = open_locks_are p k a s annotated e f in
    let own : IsLockOf s.above.way n t = (annotated.labelled s (got_in (lock_sites p) k s f)).1 t n (ap unlock_at (sym here.body_is) ∙ is) in
    (here.all n own.is_open, own)
