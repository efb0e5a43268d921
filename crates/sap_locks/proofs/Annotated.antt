-- Each process has exactly one annotation, or exactly one first flaw of its locks.
use Rattle.std.proofs.Common.{◌≡◌, ℕ, zero, suc, ◌+◌, ◌<◌, ◌⊎◌, inl, inr, true, List, [], ◌∷◌, ◌++◌, Option, Some, None, arith, refl, sym, ap, subst, ◌∙◌}
use Rattle.std.specs.Prelude.{Contains, slice_get}
use Rattle.std.proofs.lemmas.Bool.{cases_lt}
use Rattle.sap_terms.specs.Tree.{Tree}
use Rattle.sap_process.specs.Action.{Action, lock, unlock}
use Rattle.sap_process.specs.Heads.{locks_set}
use Rattle.sap_process.specs.Proc.{Proc, nil, parallel, replicated, act, test, lookup}
use Rattle.sap_locks.proofs.Members.{member-head, member-tail, member-none, member-cases}
use Rattle.sap_locks.specs.Ways.{LockMark, locked, unlocked, LockSite, lock_count, way_behind, lock_sites, IsLockOf}
use Rattle.sap_locks.specs.Annotation.{LockFlaw, without, over, HasLockFlaw, IsWithoutLock, IsFirstLockFlaw, IsLabelled, IsAnnotation, is_forking, unlock_at, action_lock, action_unlock, unlabelled, unlabelled_action}
use Rattle.sap_held.specs.Held.{Open, found, label_of}
use Rattle.sap_locks.specs.code.Labels.{opened, open_behind, labelled_action, labelled_from, labelled, first_flaw}
use Rattle.sap_locks.proofs.Opened.{Descends, lock_is}
use Rattle.sap_locks.proofs.Places.{AllAt, all_in, in_all}
use Rattle.sap_locks.proofs.Labelled.{IsMarked, plain, marked, descends_behind}
use Rattle.sap_locks.proofs.Searched.{FirstIs}
use Rattle.sap_locks.proofs.Flawed.{first_is}
use Rattle.sap_locks.proofs.Bare.{bare_count, first_same}

-- an item of a list stands somewhere in it
where_stands : {X : Type 0} (xs : List X) (x : X) → Contains xs x → (k : ℕ) × (slice_get xs k ≡ Some x)
where_stands [] x m = absurd (member-none x m)
where_stands (y ∷ xs) x m = elim (member-cases y xs x m) [
  | inl e ↦ (0, ap Some e)
  | inr k ↦ (let r = where_stands xs x k in (suc r.0, r.1))
]

stands_there : {X : Type 0} (xs : List X) (k : ℕ) (x : X) → slice_get xs k ≡ Some x → Contains xs x
stands_there [] k x e = absurd (cc)
stands_there (y ∷ xs) zero x e = let same : y ≡ x = cc in subst (Contains (y ∷ xs)) same (member-head y xs)
stands_there (y ∷ xs) (suc k) x e = member-tail y xs x (stands_there xs k x e)

-- what is found where the code finds nothing
right_label : (s : LockSite) → IsMarked s → (IsWithoutLock s → ⊥) → IsLabelled s
right_label s m none = (m.lock_label, λ t l e. go t l e (found t (opened s.above.way)) refl)
  where
    go : (t : Tree) (l : ℕ) → unlock_at s.body ≡ Some (t, l) → (o : Option ℕ) → found t (opened s.above.way) ≡ o → IsLockOf s.above.way l t
    go t l e None f = absurd (none (record { term = t; is = (l, e); none = λ n own. let g : found t (opened s.above.way) ≡ Some n = (lock_is s.above.way (s.above.before + 1) m.descends n t).0 own in cc }))
    go t l e (Some n) f =
        let same : n ≡ l = sym (m.unlock_label t l e ∙ ap label_of f) in
        (lock_is s.above.way (s.above.before + 1) m.descends l t).1 (f ∙ ap Some same)

all_marked : (p : Proc) → AllAt IsMarked [] [] 0 (labelled p)
all_marked p = marked p [] [] 0 tt tt

flaw_of : (p : Proc) → FirstIs (lock_sites (labelled p)) (first_flaw (labelled p))
flaw_of p = first_is (labelled p) [] [] 0 (all_marked p)

pub accepted : (p : Proc) → first_flaw (labelled p) ≡ None → IsAnnotation p (labelled p)
accepted p e = record {
  same = plain p [] 0;
  annotated = record {
    labelled = λ s m. right_label s (all_in IsMarked [] [] 0 (labelled p) (all_marked p) s m) (λ f. none s m without f);
    flawless = none;
  };
}
  where
    none : (s : LockSite) → Contains (lock_sites (labelled p)) s → (w : LockFlaw) → HasLockFlaw w s → ⊥
    none s m w f = let r = where_stands (lock_sites (labelled p)) s m in subst (FirstIs (lock_sites (labelled p))) e (flaw_of p) r.0 s r.1 w f

pub refused : (p : Proc) (w : LockFlaw) (path : List ℕ) → first_flaw (labelled p) ≡ Some (w, path) → IsFirstLockFlaw p w path
refused p w path e = first_same (labelled p) p w path (plain p [] 0) (subst (FirstIs (lock_sites (labelled p))) e (flaw_of p))

-- labels are set by the process without its labels

same_action : (o : Open) (k : ℕ) (a : Action) → labelled_action o k (unlabelled_action a) ≡ labelled_action o k a
same_action o k (lock t l) = refl
same_action o k (unlock t l) = refl
same_action o k a = refl

same_behind : (o : Open) (k : ℕ) (a : Action) → open_behind o k (unlabelled_action a) ≡ open_behind o k a
same_behind o k (lock t l) = refl
same_behind o k (unlock t l) = refl
same_behind o k a = refl

same_set : (a : Action) → locks_set (unlabelled_action a) ≡ locks_set a
same_set (lock t l) = refl
same_set (unlock t l) = refl
same_set a = refl

by_bare : (p : Proc) (o : Open) (k : ℕ) → labelled_from o k (unlabelled p) ≡ labelled_from o k p
by_bare nil o k = refl
by_bare (parallel p q) o k = λ i. parallel (by_bare p o k i) ((ap (λ n. labelled_from o (k + n) (unlabelled q)) (bare_count p) ∙ by_bare q o (k + lock_count p)) i)
by_bare (replicated p) o k = ap replicated (by_bare p o k)
by_bare (act a p) o k = λ i. act (same_action o k a i) (((λ j. labelled_from (same_behind o k a j) (k + same_set a j) (unlabelled p)) ∙ by_bare p (open_behind o k a) (k + locks_set a)) i)
by_bare (test t u p q) o k = λ i. test t u (by_bare p o k i) ((ap (λ n. labelled_from o (k + n) (unlabelled q)) (bare_count p) ∙ by_bare q o (k + lock_count p)) i)
by_bare (lookup t x p q) o k = λ i. lookup t x (by_bare p o k i) ((ap (λ n. labelled_from o (k + n) (unlabelled q)) (bare_count p) ∙ by_bare q o (k + lock_count p)) i)

-- a process with right labels is what the code makes of it

kept_action : (way : List LockMark) (k : ℕ) (a : Action) → Descends (k + 1) way → ((t : Tree) (l : ℕ) → action_lock a ≡ Some (t, l) → l ≡ k + 1) → ((t : Tree) (l : ℕ) → action_unlock a ≡ Some (t, l) → IsLockOf way l t) → labelled_action (opened way) k a ≡ a
kept_action way k (lock t l) d h g = ap (lock t) (sym (h t l refl))
kept_action way k (unlock t l) d h g = ap (λ o. unlock t (label_of o)) ((lock_is way (k + 1) d l t).0 (g t l refl))
kept_action way k a d h g = refl

opened_after : (way : List LockMark) (k : ℕ) (a : Action) → open_behind (opened way) k a ≡ opened (way_behind way k a)
opened_after way k (lock t l) = refl
opened_after way k (unlock t l) = refl
opened_after way k a = refl

pub kept : (p : Proc) (path : List ℕ) (way : List LockMark) (k : ℕ) → Descends (k + 1) way → AllAt IsLabelled path way k p → labelled_from (opened way) k p ≡ p
kept nil path way k d h = refl
kept (parallel p q) path way k d h = λ i. parallel (kept p (path ++ 1 ∷ []) way k d h.1 i) (kept q (path ++ 2 ∷ []) way (k + lock_count p) (further way k (lock_count p) d) h.2 i)
  where
    further : (way : List LockMark) (k n : ℕ) → Descends (k + 1) way → Descends (k + n + 1) way
    further [] k n d = tt
    further (locked j t ∷ way) k n d = (let less : j < k + 1 = d.0 in omega (arith, less), d.1)
    further (unlocked t ∷ way) k n d = further way k n d
kept (replicated p) path way k d h = ap replicated (kept p (path ++ 1 ∷ []) way k d h.1)
kept (act a p) path way k d h = λ i. act (kept_action way k a d h.0.0 h.0.1 i) ((ap (λ o. labelled_from o (k + locks_set a) p) (opened_after way k a) ∙ kept p (path ++ 1 ∷ []) (way_behind way k a) (k + locks_set a) (descends_behind way k a d) h.1) i)
kept (test t u p q) path way k d h = λ i. test t u (kept p (path ++ 1 ∷ []) way k d h.1 i) (kept q (path ++ 2 ∷ []) way (k + lock_count p) (further way k (lock_count p) d) h.2 i)
  where
    further : (way : List LockMark) (k n : ℕ) → Descends (k + 1) way → Descends (k + n + 1) way
    further [] k n d = tt
    further (locked j t ∷ way) k n d = (let less : j < k + 1 = d.0 in omega (arith, less), d.1)
    further (unlocked t ∷ way) k n d = further way k n d
kept (lookup t x p q) path way k d h = λ i. lookup t x (kept p (path ++ 1 ∷ []) way k d h.1 i) (kept q (path ++ 2 ∷ []) way (k + lock_count p) (further way k (lock_count p) d) h.2 i)
  where
    further : (way : List LockMark) (k n : ℕ) → Descends (k + 1) way → Descends (k + n + 1) way
    further [] k n d = tt
    further (locked j t ∷ way) k n d = (let less : j < k + 1 = d.0 in omega (arith, less), d.1)
    further (unlocked t ∷ way) k n d = further way k n d

-- an annotation is what the code makes
pub one_annotation : (p q : Proc) → IsAnnotation p q → q ≡ labelled p
one_annotation p q h = sym (kept q [] [] 0 tt (in_all IsLabelled [] [] 0 q h.annotated.labelled)) ∙ sym (by_bare q [] 0) ∙ ap labelled h.same ∙ by_bare p [] 0

-- one flaw counts, at one place
pub one_first : (p : Proc) (u w : LockFlaw) (a b : List ℕ) → IsFirstLockFlaw p u a → IsFirstLockFlaw p w b → a ≡ b
one_first p u w a b h g = elim (cases_lt h.place g.place) [
  | inl less ↦ absurd (g.first h.place h.site less h.stands u h.flaw)
  | inr le ↦ elim (cases_lt g.place h.place) [
    | inl less ↦ absurd (h.first g.place g.site less g.stands w g.flaw)
    | inr ge ↦ (
        let place : h.place ≡ g.place = omega (arith, le, ge) in
        let both : Some h.site ≡ Some g.site = sym h.stands ∙ ap (slice_get (lock_sites p)) place ∙ g.stands in
        let same : h.site ≡ g.site = cc in
        sym h.path_is ∙ ap (λ (s : LockSite). s.path) same ∙ g.path_is
        )
  ]
]

no_unlock : (p : Proc) → is_forking p ≡ true → (t : Tree) (l : ℕ) → unlock_at p ≡ Some (t, l) → ⊥
no_unlock (act a p) h t l e = cc
no_unlock nil h t l e = cc
no_unlock (parallel p q) h t l e = cc
no_unlock (replicated p) h t l e = cc
no_unlock (test u w p q) h t l e = cc
no_unlock (lookup u x p q) h t l e = cc

-- no place has both
pub one_cause : (s : LockSite) (u w : LockFlaw) → HasLockFlaw u s → HasLockFlaw w s → u ≡ w
one_cause s without without h g = refl
one_cause s over over h g = refl
one_cause s without over h g = absurd (no_unlock s.body g.forks h.term h.is.0 h.is.1)
one_cause s over without h g = absurd (no_unlock s.body h.forks g.term g.is.0 g.is.1)

pub one_first_cause : (p : Proc) (u w : LockFlaw) (a b : List ℕ) → IsFirstLockFlaw p u a → IsFirstLockFlaw p w b → u ≡ w
one_first_cause p u w a b h g = elim (cases_lt h.place g.place) [
  | inl less ↦ absurd (g.first h.place h.site less h.stands u h.flaw)
  | inr le ↦ elim (cases_lt g.place h.place) [
    | inl less ↦ absurd (h.first g.place g.site less g.stands w g.flaw)
    | inr ge ↦ (
        let place : h.place ≡ g.place = omega (arith, le, ge) in
        let both : Some h.site ≡ Some g.site = sym h.stands ∙ ap (slice_get (lock_sites p)) place ∙ g.stands in
        let same : h.site ≡ g.site = cc in
        one_cause g.site u w (subst (HasLockFlaw u) same h.flaw) g.flaw
        )
  ]
]

-- what has an annotation has no flaw
pub not_both : (p q : Proc) (w : LockFlaw) (path : List ℕ) → IsAnnotation p q → IsFirstLockFlaw p w path → ⊥
not_both p q w path h f =
    let g = first_same p q w path (sym h.same) f in
    h.annotated.flawless g.site (stands_there (lock_sites q) g.place g.site g.stands) w g.flaw

-- each process has one or the other
pub some_answer : (p : Proc) → ((q : Proc) × IsAnnotation p q) ⊎ ((w : LockFlaw) × (path : List ℕ) × IsFirstLockFlaw p w path)
some_answer p = go (first_flaw (labelled p)) refl
  where
    go : (o : Option (LockFlaw × List ℕ)) → first_flaw (labelled p) ≡ o → ((q : Proc) × IsAnnotation p q) ⊎ ((w : LockFlaw) × (path : List ℕ) × IsFirstLockFlaw p w path)
    go None e = inl (labelled p, accepted p e)
    go (Some x) e = inr (x.0, x.1, refused p x.0 x.1 e)
