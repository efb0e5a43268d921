-- The code finds the first place that can't be annotated.
use Rattle.std.proofs.Common.{◌≡◌, ℕ, zero, suc, ◌+◌, ◌<◌, ◌≤◌, inl, inr, List, [], ◌∷◌, ◌++◌, Option, Some, None, Bool, true, false, ◌||◌, ◌&&◌, cond, arith, refl, sym, ap, subst, ◌∙◌}
use Rattle.std.specs.Prelude.{Contains, nat_lt, nat_eq, min}
use Rattle.std.proofs.lemmas.Bool.{lt-ltb, ltb-true, le-ltb, ltb-false}
use Rattle.std.proofs.lemmas.Bool.Decides.{Decides-eqb}
use Rattle.std.proofs.lemmas.List.Elements.{Contains-append_left, Contains-append_right}
use Rattle.sap_terms.specs.Tree.{Tree}
use Rattle.sap_terms.proofs.PlainLaws.Tests.{and_left, and_right, and_true}
use Rattle.sap_locks.proofs.Members.{member-head, member-tail}
use Rattle.sap_process.specs.Action.{Action, lock, unlock}
use Rattle.sap_process.specs.Heads.{locks_set}
use Rattle.sap_process.specs.Proc.{Proc, nil, parallel, replicated, act, test, lookup}
use Rattle.sap_locks.specs.Ways.{LockMark, locked, unlocked, IsOpen, IsLockOf, LockSite, lock_count, way_behind, lock_sites_from}
use Rattle.sap_locks.specs.Annotation.{LockFlaw, without, over, HasLockFlaw, IsWithoutLock, is_forking, unlock_at, action_unlock}
use Rattle.sap_held.specs.Held.{found, label_of}
use Rattle.sap_locks.specs.code.Labels.{opened, unlocks, has_unlock, is_low, lesser, own_label, action_lowest, lowest, is_at_most, action_flaw, first_flaw_from, or_else}
use Rattle.sap_locks.proofs.Opened.{Descends, lock_is}
use Rattle.sap_locks.proofs.Places.{lock_site, AllAt, all_in}
use Rattle.sap_locks.proofs.Labelled.{Counted, IsMarked}
use Rattle.sap_locks.proofs.Searched.{FirstIs, first_append, first_none, first_here}

-- what is open on a way
open_below : (way : List LockMark) (k n : ℕ) → Descends k way → IsOpen way n → n < k
open_below [] k n d h = absurd h
open_below (locked j t ∷ way) k n d (inl e) = let less : j < k = d.0 in omega (arith, e, less)
open_below (locked j t ∷ way) k n d (inr m) = let less : j < k = d.0 in let one : n < j = open_below way j n d.1 m in omega (arith, less, one)
open_below (unlocked t ∷ way) k n d h = open_below way k n d h.0

open_counted : (way : List LockMark) (n : ℕ) → Counted way → IsOpen way n → 0 < n
open_counted [] n d h = absurd h
open_counted (locked j t ∷ way) n d (inl e) = let less : 0 < j = d.0 in omega (arith, e, less)
open_counted (locked j t ∷ way) n d (inr m) = open_counted way n d.1 m
open_counted (unlocked t ∷ way) n d h = open_counted way n d h.0

-- locks up to k that are open below a place are open at it
abbrev FromAbove : ℕ → List LockMark → List LockMark → Type 0
FromAbove k top way = (n : ℕ) → n ≤ k → IsOpen way n → IsOpen top n

above_behind : (m : ℕ) (top way : List LockMark) (k : ℕ) (a : Action) → m ≤ k → FromAbove m top way → FromAbove m top (way_behind way k a)
above_behind m top way k (lock t l) le h = λ n small is. elim is [ inl e ↦ absurd (omega (arith, le, small, e)) | inr o ↦ h n small o ]
above_behind m top way k (unlock t l) le h = λ n small is. h n small is.0
above_behind m top way k a le h = h

from_above : (m : ℕ) (top : List LockMark) (p : Proc) (path : List ℕ) (way : List LockMark) (k : ℕ) → m ≤ k → FromAbove m top way → AllAt (λ s. FromAbove m top s.above.way) path way k p
from_above m top nil path way k le h = h
from_above m top (parallel p q) path way k le h = (h, from_above m top p (path ++ 1 ∷ []) way k le h, from_above m top q (path ++ 2 ∷ []) way (k + lock_count p) (omega (arith, le)) h)
from_above m top (replicated p) path way k le h = (h, from_above m top p (path ++ 1 ∷ []) way k le h)
from_above m top (act a p) path way k le h = (h, from_above m top p (path ++ 1 ∷ []) (way_behind way k a) (k + locks_set a) (omega (arith, le)) (above_behind m top way k a le h))
from_above m top (test t u p q) path way k le h = (h, from_above m top p (path ++ 1 ∷ []) way k le h, from_above m top q (path ++ 2 ∷ []) way (k + lock_count p) (omega (arith, le)) h)
from_above m top (lookup t x p q) path way k le h = (h, from_above m top p (path ++ 1 ∷ []) way k le h, from_above m top q (path ++ 2 ∷ []) way (k + lock_count p) (omega (arith, le)) h)

-- an unlock among these places with a label that passes
pub record Passing (f : ℕ → Bool) (ss : List LockSite) : Type 0 where
  pub site : LockSite
  pub stands : Contains ss site
  pub term : Tree
  pub label : ℕ
  pub is : unlock_at site.body ≡ Some (term, label)
  pub small : f label ≡ true

low_first : (f : ℕ → Bool) (s : LockSite) (xs ys : List LockSite) → Passing f xs → Passing f (s ∷ (xs ++ ys))
low_first f s xs ys h = record { site = h.site; stands = member-tail s (xs ++ ys) h.site (Contains-append_left xs ys h.site h.stands); term = h.term; label = h.label; is = h.is; small = h.small }

low_second : (f : ℕ → Bool) (s : LockSite) (xs ys : List LockSite) → Passing f ys → Passing f (s ∷ (xs ++ ys))
low_second f s xs ys h = record { site = h.site; stands = member-tail s (xs ++ ys) h.site (Contains-append_right xs ys h.site h.stands); term = h.term; label = h.label; is = h.is; small = h.small }

low_next : (f : ℕ → Bool) (s : LockSite) (xs : List LockSite) → Passing f xs → Passing f (s ∷ xs)
low_next f s xs h = record { site = h.site; stands = member-tail s xs h.site h.stands; term = h.term; label = h.label; is = h.is; small = h.small }

or_either : {P : Type 0} (a b : Bool) → (a || b) ≡ true → (a ≡ true → P) → (b ≡ true → P) → P
or_either true b h one two = one refl
or_either false b h one two = two h

low_here : (f : ℕ → Bool) (path : List ℕ) (way : List LockMark) (k : ℕ) (a : Action) (p : Proc) (xs : List LockSite) → unlocks f a ≡ true → Passing f (lock_site path way k (act a p) ∷ xs)
low_here f path way k (unlock t l) p xs h = record { site = lock_site path way k (act (unlock t l) p); stands = member-head (lock_site path way k (act (unlock t l) p)) xs; term = t; label = l; is = refl; small = h }
low_here f path way k (lock t l) p xs h = cc
low_here f path way k a p xs h = cc

pub low_site : (f : ℕ → Bool) (p : Proc) (path : List ℕ) (way : List LockMark) (k : ℕ) → has_unlock f p ≡ true → Passing f (lock_sites_from path way k p)
low_site f nil path way k h = cc
low_site f (parallel p q) path way k h =
    let s = lock_site path way k (parallel p q) in
    let xs = lock_sites_from (path ++ 1 ∷ []) way k p in
    let ys = lock_sites_from (path ++ 2 ∷ []) way (k + lock_count p) q in
    or_either (has_unlock f p) (has_unlock f q) h (λ e. low_first f s xs ys (low_site f p (path ++ 1 ∷ []) way k e)) (λ e. low_second f s xs ys (low_site f q (path ++ 2 ∷ []) way (k + lock_count p) e))
low_site f (replicated p) path way k h = low_next f (lock_site path way k (replicated p)) (lock_sites_from (path ++ 1 ∷ []) way k p) (low_site f p (path ++ 1 ∷ []) way k h)
low_site f (act a p) path way k h =
    let xs = lock_sites_from (path ++ 1 ∷ []) (way_behind way k a) (k + locks_set a) p in
    or_either (unlocks f a) (has_unlock f p) h (λ e. low_here f path way k a p xs e) (λ e. low_next f (lock_site path way k (act a p)) xs (low_site f p (path ++ 1 ∷ []) (way_behind way k a) (k + locks_set a) e))
low_site f (test t u p q) path way k h =
    let s = lock_site path way k (test t u p q) in
    let xs = lock_sites_from (path ++ 1 ∷ []) way k p in
    let ys = lock_sites_from (path ++ 2 ∷ []) way (k + lock_count p) q in
    or_either (has_unlock f p) (has_unlock f q) h (λ e. low_first f s xs ys (low_site f p (path ++ 1 ∷ []) way k e)) (λ e. low_second f s xs ys (low_site f q (path ++ 2 ∷ []) way (k + lock_count p) e))
low_site f (lookup t x p q) path way k h =
    let s = lock_site path way k (lookup t x p q) in
    let xs = lock_sites_from (path ++ 1 ∷ []) way k p in
    let ys = lock_sites_from (path ++ 2 ∷ []) way (k + lock_count p) q in
    or_either (has_unlock f p) (has_unlock f q) h (λ e. low_first f s xs ys (low_site f p (path ++ 1 ∷ []) way k e)) (λ e. low_second f s xs ys (low_site f q (path ++ 2 ∷ []) way (k + lock_count p) e))

or_false_left : (a b : Bool) → (a || b) ≡ false → a ≡ false
or_false_left true b h = h
or_false_left false b h = refl

or_false_right : (a b : Bool) → (a || b) ≡ false → b ≡ false
or_false_right true b h = cc
or_false_right false b h = h

-- no unlock has such a label
abbrev NotLow : (ℕ → Bool) → LockSite → Type 0
NotLow f s = (t : Tree) (l : ℕ) → unlock_at s.body ≡ Some (t, l) → f l ≡ false

label_is : (t u : Tree) (l m : ℕ) → ◌≡◌ {A = Option (Tree × ℕ)} (Some (t, l)) (Some (u, m)) → l ≡ m
label_is t u l m e = let same : (t, l) ≡ (u, m) = cc in ap (λ (z : Tree × ℕ). z.1) same

not_low_here : (f : ℕ → Bool) (a : Action) → unlocks f a ≡ false → (t : Tree) (l : ℕ) → action_unlock a ≡ Some (t, l) → f l ≡ false
not_low_here f (unlock u m) h t l e = subst (λ j. f j ≡ false) (label_is u t m l e) h
not_low_here f (lock u m) h t l e = cc
not_low_here f a h t l e = cc

not_low : (f : ℕ → Bool) (p : Proc) (path : List ℕ) (way : List LockMark) (k : ℕ) → has_unlock f p ≡ false → AllAt (NotLow f) path way k p
not_low f nil path way k h = λ t l e. cc
not_low f (parallel p q) path way k h = (λ t l e. cc, not_low f p (path ++ 1 ∷ []) way k (or_false_left (has_unlock f p) (has_unlock f q) h), not_low f q (path ++ 2 ∷ []) way (k + lock_count p) (or_false_right (has_unlock f p) (has_unlock f q) h))
not_low f (replicated p) path way k h = (λ t l e. cc, not_low f p (path ++ 1 ∷ []) way k h)
not_low f (act a p) path way k h = (not_low_here f a (or_false_left (unlocks f a) (has_unlock f p) h), not_low f p (path ++ 1 ∷ []) (way_behind way k a) (k + locks_set a) (or_false_right (unlocks f a) (has_unlock f p) h))
not_low f (test t u p q) path way k h = (λ t l e. cc, not_low f p (path ++ 1 ∷ []) way k (or_false_left (has_unlock f p) (has_unlock f q) h), not_low f q (path ++ 2 ∷ []) way (k + lock_count p) (or_false_right (has_unlock f p) (has_unlock f q) h))
not_low f (lookup t x p q) path way k h = (λ t l e. cc, not_low f p (path ++ 1 ∷ []) way k (or_false_left (has_unlock f p) (has_unlock f q) h), not_low f q (path ++ 2 ∷ []) way (k + lock_count p) (or_false_right (has_unlock f p) (has_unlock f q) h))

found_label : (o : Option ℕ) (l : ℕ) → l ≡ label_of o → 0 < l → o ≡ Some l
found_label None l e h = absurd (omega (arith, e, h))
found_label (Some n) l e h = ap Some (sym e)

-- a place with a label between 1 and k is of a lock that is open above
lowered : (s : LockSite) (k : ℕ) (t : Tree) (l : ℕ) → IsMarked s → unlock_at s.body ≡ Some (t, l) → 0 < l → IsLockOf s.above.way l t
lowered s k t l m e h = (lock_is s.above.way (s.above.before + 1) m.descends l t).1 (found_label (found t (opened s.above.way)) l (m.unlock_label t l e) h)

-- an unlock's label is that of its lock
its_label : (s : LockSite) (t : Tree) (l n : ℕ) → IsMarked s → unlock_at s.body ≡ Some (t, l) → IsLockOf s.above.way n t → l ≡ n
its_label s t l n m e own = m.unlock_label t l e ∙ ap label_of ((lock_is s.above.way (s.above.before + 1) m.descends n t).0 own)

low_of : (n l : ℕ) → is_low n l ≡ true → (0 < l) × (l ≤ n)
low_of n l h = (ltb-true 0 l (and_left (nat_lt 0 l) (nat_lt l (n + 1)) h), (let less : l < n + 1 = ltb-true l (n + 1) (and_right (nat_lt 0 l) (nat_lt l (n + 1)) h) in omega (arith, less)))

of_low : (n l : ℕ) → 0 < l → l ≤ n → is_low n l ≡ true
of_low n l h le = and_true (nat_lt 0 l) (nat_lt l (n + 1)) (lt-ltb 0 l h) (lt-ltb l (n + 1) (omega (arith, le)))

-- forks

no_unlock : (p : Proc) → is_forking p ≡ true → (t : Tree) (l : ℕ) → unlock_at p ≡ Some (t, l) → ⊥
no_unlock (act a p) h t l e = cc
no_unlock nil h t l e = cc
no_unlock (parallel p q) h t l e = cc
no_unlock (replicated p) h t l e = cc
no_unlock (test u w p q) h t l e = cc
no_unlock (lookup u x p q) h t l e = cc

fork_first : (p : Proc) (path : List ℕ) (way : List LockMark) (k : ℕ) → is_forking p ≡ true → Descends (k + 1) way → Counted way → ((s : LockSite) → Contains (lock_sites_from path way k p) s → IsMarked s)
    → (b : Bool) → has_unlock (is_low k) p ≡ b → FirstIs (lock_site path way k p ∷ []) (cond b (Some (over, path)) None)
fork_first p path way k forks d c marks true e =
    let h = low_site (is_low k) p path way k e in
    let r = low_of k h.label h.small in
    let own = lowered h.site k h.term h.label (marks h.site h.stands) h.is r.0 in
    first_here (lock_site path way k p) over path refl (record {
      forks = forks;
      number = h.label;
      is_open = all_in (λ s. FromAbove k way s.above.way) path way k p (from_above k way p path way k (omega arith) (λ n small is. is)) h.site h.stands h.label r.1 own.is_open;
      below = h.site;
      stands = h.stands;
      term = h.term;
      is = (h.label, h.is);
      own = own;
    })
fork_first p path way k forks d c marks false e = first_none (lock_site path way k p) none
  where
    none : (u : LockFlaw) → HasLockFlaw u (lock_site path way k p) → ⊥
    none without f = no_unlock p forks f.term f.is.0 f.is.1
    none over f =
        let m = marks f.below f.stands in
        let same : f.is.0 ≡ f.number = its_label f.below f.term f.is.0 f.number m f.is.1 f.own in
        let less : f.number < k + 1 = open_below way (k + 1) f.number d f.is_open in
        let more : 0 < f.number = open_counted way f.number c f.is_open in
        let small : is_low k f.is.0 ≡ true = of_low k f.is.0 (omega (arith, same, more)) (omega (arith, same, less)) in
        let big : is_low k f.is.0 ≡ false = all_in (NotLow (is_low k)) path way k p (not_low (is_low k) p path way k e) f.below f.stands f.term f.is.0 f.is.1 in
        cc

-- the lowest label tells whether there is one that is low

ltb_min : (a b k : ℕ) → nat_lt (min a b) k ≡ (nat_lt a k || nat_lt b k)
ltb_min a b k = go (nat_lt a k) refl (nat_lt b k) refl
  where
    go : (x : Bool) → nat_lt a k ≡ x → (y : Bool) → nat_lt b k ≡ y → nat_lt (min a b) k ≡ (x || y)
    go true e y f = (let one : a < k = ltb-true a k e in lt-ltb (min a b) k (omega (arith, one)))
    go false e true f = (let two : b < k = ltb-true b k f in lt-ltb (min a b) k (omega (arith, two)))
    go false e false f = (let one : k ≤ a = ltb-false a k e in let two : k ≤ b = ltb-false b k f in le-ltb (min a b) k (omega (arith, one, two)))

or_none : (a : Bool) → a ≡ (a || false)
or_none true = refl
or_none false = refl

at_most_lesser : (a b : Option ℕ) (k : ℕ) → is_at_most (lesser a b) k ≡ (is_at_most a k || is_at_most b k)
at_most_lesser None b k = refl
at_most_lesser (Some a) None k = or_none (nat_lt a (k + 1))
at_most_lesser (Some a) (Some b) k = ltb_min a b (k + 1)

own_low : (l k : ℕ) → is_low k l ≡ is_at_most (own_label l) k
own_low zero k = refl
own_low (suc l) k = ap (λ b. b && nat_lt (suc l) (k + 1)) (lt-ltb 0 (suc l) (omega arith))

action_low : (a : Action) (k : ℕ) → unlocks (is_low k) a ≡ is_at_most (action_lowest a) k
action_low (unlock t l) k = own_low l k
action_low (lock t l) k = refl
action_low a k = refl

low_is : (p : Proc) (k : ℕ) → has_unlock (is_low k) p ≡ is_at_most (lowest p) k
low_is nil k = refl
low_is (parallel p q) k = (λ i. low_is p k i || low_is q k i) ∙ sym (at_most_lesser (lowest p) (lowest q) k)
low_is (replicated p) k = low_is p k
low_is (act a p) k = (λ i. action_low a k i || low_is p k i) ∙ sym (at_most_lesser (action_lowest a) (lowest p) k)
low_is (test t u p q) k = (λ i. low_is p k i || low_is q k i) ∙ sym (at_most_lesser (lowest p) (lowest q) k)
low_is (lookup t x p q) k = (λ i. low_is p k i || low_is q k i) ∙ sym (at_most_lesser (lowest p) (lowest q) k)

-- other places

lone_first : (s : LockSite) → is_forking s.body ≡ false → ((t : Tree) (l : ℕ) → unlock_at s.body ≡ Some (t, l) → ⊥) → FirstIs (s ∷ []) None
lone_first s forks h = first_none s none
  where
    none : (u : LockFlaw) → HasLockFlaw u s → ⊥
    none without f = h f.term f.is.0 f.is.1
    none over f = let g = f.forks in cc

no_lock : (s : LockSite) (t : Tree) (l : ℕ) → IsMarked s → unlock_at s.body ≡ Some (t, l) → l ≡ 0 → IsWithoutLock s
no_lock s t l m e zero_is = record {
  term = t;
  is = (l, e);
  none = λ n own.
      let same : l ≡ n = its_label s t l n m e own in
      let more : 0 < n = open_counted s.above.way n m.counted own.is_open in
      omega (arith, same, more, zero_is);
}

act_first : (path : List ℕ) (way : List LockMark) (k : ℕ) (a : Action) (p : Proc) → IsMarked (lock_site path way k (act a p)) → FirstIs (lock_site path way k (act a p) ∷ []) (action_flaw path a)
act_first path way k (unlock t l) p m = go (nat_eq l 0) refl
  where
    s : LockSite
    s = lock_site path way k (act (unlock t l) p)

    go : (b : Bool) → nat_eq l 0 ≡ b → FirstIs (lock_site path way k (act (unlock t l) p) ∷ []) (cond b (Some (without, path)) None)
    go true e = first_here (lock_site path way k (act (unlock t l) p)) without path refl (no_lock (lock_site path way k (act (unlock t l) p)) t l m refl ((Decides-eqb l 0).0 e))
    go false e = first_none (lock_site path way k (act (unlock t l) p)) none
      where
        positive : 0 < l
        positive = pos l e
          where
            pos : (n : ℕ) → nat_eq n 0 ≡ false → 0 < n
            pos zero h = cc
            pos (suc n) h = omega arith

        none : (u : LockFlaw) → HasLockFlaw u (lock_site path way k (act (unlock t l) p)) → ⊥
        none without f =
            let own : IsLockOf way l t = lowered (lock_site path way k (act (unlock t l) p)) k t l m refl positive in
            let same : t ≡ f.term = term_is t f.term l f.is.0 f.is.1 in
            f.none l (subst (IsLockOf way l) same own)
          where
            term_is : (t u : Tree) (l m : ℕ) → ◌≡◌ {A = Option (Tree × ℕ)} (Some (t, l)) (Some (u, m)) → t ≡ u
            term_is t u l m e = let same : (t, l) ≡ (u, m) = cc in ap (λ (z : Tree × ℕ). z.0) same
        none over f = let g = f.forks in cc
act_first path way k (lock t l) p m = lone_first (lock_site path way k (act (lock t l) p)) refl (λ u n e. cc)
act_first path way k a p m = lone_first (lock_site path way k (act a p)) refl (λ u n e. cc)

pub first_is : (p : Proc) (path : List ℕ) (way : List LockMark) (k : ℕ) → AllAt IsMarked path way k p → FirstIs (lock_sites_from path way k p) (first_flaw_from path k p)
first_is nil path way k m = lone_first (lock_site path way k nil) refl (λ t l e. cc)
first_is (parallel p q) path way k m =
    let s = lock_site path way k (parallel p q) in
    let xs = lock_sites_from (path ++ 1 ∷ []) way k p in
    let ys = lock_sites_from (path ++ 2 ∷ []) way (k + lock_count p) q in
    first_append (s ∷ []) (xs ++ ys) (cond (is_at_most (lowest (parallel p q)) k) (Some (over, path)) None) (or_else (first_flaw_from (path ++ 1 ∷ []) k p) (first_flaw_from (path ++ 2 ∷ []) (k + lock_count p) q))
    (fork_first (parallel p q) path way k refl m.0.descends m.0.counted (all_in IsMarked path way k (parallel p q) m) (is_at_most (lowest (parallel p q)) k) (low_is (parallel p q) k))
    (first_append xs ys (first_flaw_from (path ++ 1 ∷ []) k p) (first_flaw_from (path ++ 2 ∷ []) (k + lock_count p) q) (first_is p (path ++ 1 ∷ []) way k m.1) (first_is q (path ++ 2 ∷ []) way (k + lock_count p) m.2))
first_is (replicated p) path way k m =
    let s = lock_site path way k (replicated p) in
    let xs = lock_sites_from (path ++ 1 ∷ []) way k p in
    first_append (s ∷ []) xs (cond (is_at_most (lowest (replicated p)) k) (Some (over, path)) None) (first_flaw_from (path ++ 1 ∷ []) k p)
    (fork_first (replicated p) path way k refl m.0.descends m.0.counted (all_in IsMarked path way k (replicated p) m) (is_at_most (lowest (replicated p)) k) (low_is (replicated p) k))
    (first_is p (path ++ 1 ∷ []) way k m.1)
first_is (act a p) path way k m =
    let s = lock_site path way k (act a p) in
    let xs = lock_sites_from (path ++ 1 ∷ []) (way_behind way k a) (k + locks_set a) p in
    first_append (s ∷ []) xs (action_flaw path a) (first_flaw_from (path ++ 1 ∷ []) (k + locks_set a) p) (act_first path way k a p m.0) (first_is p (path ++ 1 ∷ []) (way_behind way k a) (k + locks_set a) m.1)
first_is (test t u p q) path way k m =
    let s = lock_site path way k (test t u p q) in
    let xs = lock_sites_from (path ++ 1 ∷ []) way k p in
    let ys = lock_sites_from (path ++ 2 ∷ []) way (k + lock_count p) q in
    first_append (s ∷ []) (xs ++ ys) None (or_else (first_flaw_from (path ++ 1 ∷ []) k p) (first_flaw_from (path ++ 2 ∷ []) (k + lock_count p) q))
    (lone_first s refl (λ t l e. cc))
    (first_append xs ys (first_flaw_from (path ++ 1 ∷ []) k p) (first_flaw_from (path ++ 2 ∷ []) (k + lock_count p) q) (first_is p (path ++ 1 ∷ []) way k m.1) (first_is q (path ++ 2 ∷ []) way (k + lock_count p) m.2))
first_is (lookup t x p q) path way k m =
    let s = lock_site path way k (lookup t x p q) in
    let xs = lock_sites_from (path ++ 1 ∷ []) way k p in
    let ys = lock_sites_from (path ++ 2 ∷ []) way (k + lock_count p) q in
    first_append (s ∷ []) (xs ++ ys) None (or_else (first_flaw_from (path ++ 1 ∷ []) k p) (first_flaw_from (path ++ 2 ∷ []) (k + lock_count p) q))
    (lone_first s refl (λ t l e. cc))
    (first_append xs ys (first_flaw_from (path ++ 1 ∷ []) k p) (first_flaw_from (path ++ 2 ∷ []) (k + lock_count p) q) (first_is p (path ++ 1 ∷ []) way k m.1) (first_is q (path ++ 2 ∷ []) way (k + lock_count p) m.2))
