-- The labels that the code sets are right.
use Rattle.std.proofs.Common.{◌≡◌, ℕ, ◌+◌, ◌<◌, List, [], ◌∷◌, ◌++◌, Option, Some, arith, refl, sym, ap, subst, ◌∙◌}
use Rattle.sap_terms.specs.Tree.{Tree}
use Rattle.sap_process.specs.Action.{Action, lock, unlock}
use Rattle.sap_process.specs.Heads.{locks_set}
use Rattle.sap_process.specs.Proc.{Proc, nil, parallel, replicated, act, test, lookup}
use Rattle.sap_locks.specs.Ways.{LockMark, locked, unlocked, LockSite, lock_count, way_behind}
use Rattle.sap_locks.specs.Annotation.{lock_at, unlock_at, action_lock, action_unlock, unlabelled, unlabelled_action}
use Rattle.sap_held.specs.Held.{Open, found, label_of}
use Rattle.sap_locks.specs.code.Labels.{opened, open_behind, labelled_action, labelled_from}
use Rattle.sap_locks.proofs.Opened.{Descends, descends_more}
use Rattle.sap_locks.proofs.Places.{lock_site, AllAt}

same_count : (o : Open) (k : ℕ) (a : Action) → locks_set (labelled_action o k a) ≡ locks_set a
same_count o k (lock t l) = refl
same_count o k (unlock t l) = refl
same_count o k a = refl

pub counts : (p : Proc) (o : Open) (k : ℕ) → lock_count (labelled_from o k p) ≡ lock_count p
counts nil o k = refl
counts (parallel p q) o k = λ i. counts p o k i + counts q o (k + lock_count p) i
counts (replicated p) o k = counts p o k
counts (act a p) o k = λ i. same_count o k a i + counts p (open_behind o k a) (k + locks_set a) i
counts (test t u p q) o k = λ i. counts p o k i + counts q o (k + lock_count p) i
counts (lookup t x p q) o k = λ i. counts p o k i + counts q o (k + lock_count p) i

-- it is the process but for labels
plain_action : (o : Open) (k : ℕ) (a : Action) → unlabelled_action (labelled_action o k a) ≡ unlabelled_action a
plain_action o k (lock t l) = refl
plain_action o k (unlock t l) = refl
plain_action o k a = refl

pub plain : (p : Proc) (o : Open) (k : ℕ) → unlabelled (labelled_from o k p) ≡ unlabelled p
plain nil o k = refl
plain (parallel p q) o k = λ i. parallel (plain p o k i) (plain q o (k + lock_count p) i)
plain (replicated p) o k = ap replicated (plain p o k)
plain (act a p) o k = λ i. act (plain_action o k a i) (plain p (open_behind o k a) (k + locks_set a) i)
plain (test t u p q) o k = λ i. test t u (plain p o k i) (plain q o (k + lock_count p) i)
plain (lookup t x p q) o k = λ i. lookup t x (plain p o k i) (plain q o (k + lock_count p) i)

-- the numbers on the way are at least 1
abbrev pub Counted : List LockMark → Type 0
Counted [] = Unit {0}
Counted (locked j t ∷ way) = (0 < j) × Counted way
Counted (unlocked t ∷ way) = Counted way

-- the place has the label that the list of open locks says
pub record IsMarked (s : LockSite) : Type 0 where
  pub descends : Descends (s.above.before + 1) s.above.way
  pub counted : Counted s.above.way
  pub lock_label : (t : Tree) (l : ℕ) → lock_at s.body ≡ Some (t, l) → l ≡ s.above.before + 1
  pub unlock_label : (t : Tree) (l : ℕ) → unlock_at s.body ≡ Some (t, l) → l ≡ label_of (found t (opened s.above.way))

pub descends_behind : (way : List LockMark) (k : ℕ) (a : Action) → Descends (k + 1) way → Descends (k + locks_set a + 1) (way_behind way k a)
descends_behind way k (lock t l) d = (omega arith, d)
descends_behind way k (unlock t l) d = descends_more way (k + 1) (k + 0 + 1) (omega arith) d
descends_behind way k a d = descends_more way (k + 1) (k + 0 + 1) (omega arith) d

counted_behind : (way : List LockMark) (k : ℕ) (a : Action) → Counted way → Counted (way_behind way k a)
counted_behind way k (lock t l) d = (omega arith, d)
counted_behind way k (unlock t l) d = d
counted_behind way k a d = d

same_way : (way : List LockMark) (o : Open) (k : ℕ) (a : Action) → way_behind way k (labelled_action o k a) ≡ way_behind way k a
same_way way o k (lock t l) = refl
same_way way o k (unlock t l) = refl
same_way way o k a = refl

opened_behind : (way : List LockMark) (k : ℕ) (a : Action) → opened (way_behind way k a) ≡ open_behind (opened way) k a
opened_behind way k (lock t l) = refl
opened_behind way k (unlock t l) = refl
opened_behind way k a = refl

first_of_two : (t u : Tree) (l m : ℕ) → ◌≡◌ {A = Option (Tree × ℕ)} (Some (t, l)) (Some (u, m)) → (t ≡ u) × (l ≡ m)
first_of_two t u l m e = let same : (t, l) ≡ (u, m) = cc in (ap (λ (z : Tree × ℕ). z.0) same, ap (λ (z : Tree × ℕ). z.1) same)

lock_says : (o : Open) (k : ℕ) (a : Action) (t : Tree) (l : ℕ) → action_lock (labelled_action o k a) ≡ Some (t, l) → l ≡ k + 1
lock_says o k (lock u m) t l e = sym (first_of_two u t (k + 1) l e).1
lock_says o k (unlock u m) t l e = cc
lock_says o k a t l e = cc

unlock_says : (o : Open) (k : ℕ) (a : Action) (t : Tree) (l : ℕ) → action_unlock (labelled_action o k a) ≡ Some (t, l) → l ≡ label_of (found t o)
unlock_says o k (unlock u m) t l e = let r = first_of_two u t (label_of (found u o)) l e in sym r.1 ∙ ap (λ v. label_of (found v o)) r.0
unlock_says o k (lock u m) t l e = cc
unlock_says o k a t l e = cc

here : (path : List ℕ) (way : List LockMark) (k : ℕ) (p : Proc) → Descends (k + 1) way → Counted way
    → ((t : Tree) (l : ℕ) → lock_at p ≡ Some (t, l) → l ≡ k + 1) → ((t : Tree) (l : ℕ) → unlock_at p ≡ Some (t, l) → l ≡ label_of (found t (opened way))) → IsMarked (lock_site path way k p)
here path way k p d c h g = record { descends = d; counted = c; lock_label = h; unlock_label = g }

mark_second : (path : List ℕ) (way : List LockMark) (k n : ℕ) (p : Proc) → n ≡ k → AllAt IsMarked path way k p → AllAt IsMarked path way n p
mark_second path way k n p e h = subst (λ m. AllAt IsMarked path way m p) (sym e) h

pub marked : (p : Proc) (path : List ℕ) (way : List LockMark) (k : ℕ) → Descends (k + 1) way → Counted way → AllAt IsMarked path way k (labelled_from (opened way) k p)
marked nil path way k d c = here path way k nil d c (λ t l e. cc) (λ t l e. cc)
marked (parallel p q) path way k d c = (
  here path way k (labelled_from (opened way) k (parallel p q)) d c (λ t l e. cc) (λ t l e. cc),
  marked p (path ++ 1 ∷ []) way k d c,
  mark_second (path ++ 2 ∷ []) way (k + lock_count p) (k + lock_count (labelled_from (opened way) k p)) (labelled_from (opened way) (k + lock_count p) q) (ap (λ n. k + n) (counts p (opened way) k))
      (marked q (path ++ 2 ∷ []) way (k + lock_count p) (descends_more way (k + 1) (k + lock_count p + 1) (omega arith) d) c),
)
marked (replicated p) path way k d c = (here path way k (labelled_from (opened way) k (replicated p)) d c (λ t l e. cc) (λ t l e. cc), marked p (path ++ 1 ∷ []) way k d c)
marked (act a p) path way k d c = (
  here path way k (labelled_from (opened way) k (act a p)) d c (lock_says (opened way) k a) (unlock_says (opened way) k a),
  subst (λ w. AllAt IsMarked (path ++ 1 ∷ []) w (k + locks_set (labelled_action (opened way) k a)) (labelled_from (open_behind (opened way) k a) (k + locks_set a) p)) (sym (same_way way (opened way) k a))
      (subst (λ o. AllAt IsMarked (path ++ 1 ∷ []) (way_behind way k a) (k + locks_set (labelled_action (opened way) k a)) (labelled_from o (k + locks_set a) p)) (opened_behind way k a)
      (mark_second (path ++ 1 ∷ []) (way_behind way k a) (k + locks_set a) (k + locks_set (labelled_action (opened way) k a)) (labelled_from (opened (way_behind way k a)) (k + locks_set a) p) (ap (λ n. k + n) (same_count (opened way) k a))
      (marked p (path ++ 1 ∷ []) (way_behind way k a) (k + locks_set a) (descends_behind way k a d) (counted_behind way k a c)))),
)
marked (test t u p q) path way k d c = (
  here path way k (labelled_from (opened way) k (test t u p q)) d c (λ t l e. cc) (λ t l e. cc),
  marked p (path ++ 1 ∷ []) way k d c,
  mark_second (path ++ 2 ∷ []) way (k + lock_count p) (k + lock_count (labelled_from (opened way) k p)) (labelled_from (opened way) (k + lock_count p) q) (ap (λ n. k + n) (counts p (opened way) k))
      (marked q (path ++ 2 ∷ []) way (k + lock_count p) (descends_more way (k + 1) (k + lock_count p + 1) (omega arith) d) c),
)
marked (lookup t x p q) path way k d c = (
  here path way k (labelled_from (opened way) k (lookup t x p q)) d c (λ t l e. cc) (λ t l e. cc),
  marked p (path ++ 1 ∷ []) way k d c,
  mark_second (path ++ 2 ∷ []) way (k + lock_count p) (k + lock_count (labelled_from (opened way) k p)) (labelled_from (opened way) (k + lock_count p) q) (ap (λ n. k + n) (counts p (opened way) k))
      (marked q (path ++ 2 ∷ []) way (k + lock_count p) (descends_more way (k + 1) (k + lock_count p + 1) (omega arith) d) c),
)
