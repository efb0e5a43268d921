-- The labels that places hold are those of the locks that are open by the way to them.
use Rattle.std.proofs.Common.{◌≡◌, ℕ, zero, suc, ◌+◌, List, [], ◌∷◌, ◌++◌, Some, Bool, true, false, not, cond, filter, nat_eq, arith, slice_get, refl, sym, ap, subst, ◌∙◌, inl, inr}
use Rattle.std.specs.Prelude.{◌⊎◌, Contains}
use Rattle.std.proofs.lemmas.Bool.Decides.{Decides-eqb}
use Rattle.std.proofs.lemmas.List.Elements.{Contains-push_cases, Contains-append_left, Contains-push}
use Rattle.sap_terms.specs.Tree.{Tree}
use Rattle.sap_terms.specs.declared.var.Var.{Var}
use Rattle.sap_locks.proofs.Members.{member-head, member-tail, member-none, member-cases}
use Rattle.sap_process.specs.Action as action
use Rattle.sap_process.specs.Action.{Action}
use Rattle.sap_process.specs.Heads.{locks_set}
use Rattle.sap_process.specs.Places.{place}
use Rattle.sap_process.specs.Proc as whole
use Rattle.sap_process.specs.Proc.{Proc, act}
use Rattle.sap_process.specs.Sites.{message_var}
use Rattle.sap_locks.specs.Ways.{way_above, LockMark, IsOpen, IsLockOf, LockSite, lock_count, way_behind, lock_sites_from, lock_sites}
use Rattle.sap_locks.specs.Annotation.{IsLabelled, IsAnnotated, action_lock, action_unlock}
use Rattle.sap_locks.proofs.Opened.{Descends, descends_more, lock_is}
use Rattle.sap_locks.proofs.Places.{AllAt, in_all}
use Rattle.sap_locks.proofs.Labelled.{descends_behind}
use Rattle.sap_locks.specs.OpenLocks.{HasOpenLocks}
use Rattle.sap_process.specs.Scopes.{Spot, locks_behind, scope_behind, spot, spots, spots_from}

abbrev Agree : List ℕ → List LockMark → Type 0
Agree ls way = (n : ℕ) → (Contains ls n → IsOpen way n) × (IsOpen way n → Contains ls n)

kept_in : (f : ℕ → Bool) (xs : List ℕ) (n : ℕ) → Contains (filter f xs) n → Contains xs n × (f n ≡ true)
kept_in f [] n m = absurd (member-none n m)
kept_in f (x ∷ xs) n m = go (f x) refl m (kept_in f xs n)
  where
    go : (b : Bool) → f x ≡ b → Contains (cond b (x ∷ filter f xs) (filter f xs)) n → (Contains (filter f xs) n → Contains xs n × (f n ≡ true)) → Contains (x ∷ xs) n × (f n ≡ true)
    go true e m later = elim (member-cases x (filter f xs) n m) [
      | inl same ↦ (subst (Contains (x ∷ xs)) same (member-head x xs), ap f (sym same) ∙ e)
      | inr k ↦ (let r = later k in (member-tail x xs n r.0, r.1))
    ]
    go false e m later = let r = later m in (member-tail x xs n r.0, r.1)

in_kept : (f : ℕ → Bool) (xs : List ℕ) (n : ℕ) → Contains xs n → f n ≡ true → Contains (filter f xs) n
in_kept f [] n m e = absurd (member-none n m)
in_kept f (x ∷ xs) n m e = go (f x) refl (member-cases x xs n m) (λ k. in_kept f xs n k e)
  where
    go : (b : Bool) → f x ≡ b → ((x ≡ n) ⊎ Contains xs n) → (Contains xs n → Contains (filter f xs) n) → Contains (cond b (x ∷ filter f xs) (filter f xs)) n
    go true d (inl same) later = subst (Contains (x ∷ filter f xs)) same (member-head x (filter f xs))
    go true d (inr k) later = member-tail x (filter f xs) n (later k)
    go false d (inl same) later = absurd (let t : f x ≡ true = ap f same ∙ e in cc)
    go false d (inr k) later = later k

differs : (n l : ℕ) → not (nat_eq n l) ≡ true → n ≡ l → ⊥
differs n l h e = let t : nat_eq n l ≡ true = (Decides-eqb n l).1 e in absurd (go (nat_eq n l) t h)
  where
    go : (b : Bool) → b ≡ true → not b ≡ true → ⊥
    go true e h = cc
    go false e h = cc

differ : (n l : ℕ) → (n ≡ l → ⊥) → not (nat_eq n l) ≡ true
differ n l h = go (nat_eq n l) refl
  where
    go : (b : Bool) → nat_eq n l ≡ b → not b ≡ true
    go true e = absurd (h ((Decides-eqb n l).0 e))
    go false e = refl

some_one : (n l : ℕ) → Some n ≡ Some l → n ≡ l
some_one n l e = cc

agree_behind : (ls : List ℕ) (way : List LockMark) (k : ℕ) (a : Action) → Descends (k + 1) way → Agree ls way
    → ((t : Tree) (l : ℕ) → action_lock a ≡ Some (t, l) → l ≡ k + 1) → ((t : Tree) (l : ℕ) → action_unlock a ≡ Some (t, l) → IsLockOf way l t) → Agree (locks_behind ls a) (way_behind way k a)
agree_behind ls way k (action.lock t l) d g lock_label unlock_label n =
    let e : l ≡ k + 1 = lock_label t l refl in (
      λ m. elim (Contains-push_cases ls l n m) as (λ _. (k + 1 ≡ n) ⊎ IsOpen way n) [ inl a ↦ inr ((g n).0 a) | inr same ↦ inl (sym e ∙ same) ],
      λ o. elim o [ inl same ↦ subst (Contains (ls ++ l ∷ [])) (e ∙ same) (Contains-push ls l) | inr b ↦ Contains-append_left ls (l ∷ []) n ((g n).1 b) ],
    )
agree_behind ls way k (action.unlock t l) d g lock_label unlock_label n =
    let own : IsLockOf way l t = unlock_label t l refl in (
      λ m. (let r = kept_in (λ j. not (nat_eq j l)) ls n m in ((g n).0 r.0, λ other. differs n l r.1 (some_one n l (sym ((lock_is way (k + 1) d n t).0 other) ∙ (lock_is way (k + 1) d l t).0 own)))),
      λ o. in_kept (λ j. not (nat_eq j l)) ls n ((g n).1 o.0) (differ n l (λ e. o.1 (subst (λ j. IsLockOf way j t) (sym e) own))),
    )
agree_behind ls way k (action.new x) d g lock_label unlock_label n = g n
agree_behind ls way k (action.out t) d g lock_label unlock_label n = g n
agree_behind ls way k (action.send t u) d g lock_label unlock_label n = g n
agree_behind ls way k (action.input t) d g lock_label unlock_label n = g n
agree_behind ls way k (action.receive t u) d g lock_label unlock_label n = g n
agree_behind ls way k (action.event f) d g lock_label unlock_label n = g n
agree_behind ls way k (action.insert t u) d g lock_label unlock_label n = g n
agree_behind ls way k (action.delete t) d g lock_label unlock_label n = g n
agree_behind ls way k (action.embedded l e r) d g lock_label unlock_label n = g n

-- one list beside the other
abbrev Both : List Spot → List LockSite → Type 0
Both [] [] = Unit {0}
Both [] (s ∷ ss) = ⊥
Both (a ∷ as') [] = ⊥
Both (a ∷ as') (s ∷ ss) = HasOpenLocks a s × Both as' ss

both_append : (xs ys : List Spot) (us ws : List LockSite) → Both xs us → Both ys ws → Both (xs ++ ys) (us ++ ws)
both_append [] ys [] ws h g = g
both_append [] ys (u ∷ us) ws h g = absurd h
both_append (x ∷ xs) ys [] ws h g = absurd h
both_append (x ∷ xs) ys (u ∷ us) ws h g = (h.0, both_append xs ys us ws h.1 g)

here : (path : List ℕ) (v : List Var) (ls : List ℕ) (way : List LockMark) (k : ℕ) (p : Proc) → Agree ls way → HasOpenLocks (spot path v ls p) (place path (way_above way k) (p))
here path v ls way k p g = record { path_is = refl; body_is = refl; labels = λ n. (g n).0; all = λ n. (g n).1 }

both : (p : Proc) (path : List ℕ) (v : List Var) (ls : List ℕ) (way : List LockMark) (k : ℕ) → Descends (k + 1) way → Agree ls way → AllAt IsLabelled path way k p → Both (spots_from path v ls p) (lock_sites_from path way k p)
both whole.nil path v ls way k d g h = (here path v ls way k whole.nil g, tt)
both (whole.parallel p q) path v ls way k d g h = (
  here path v ls way k (whole.parallel p q) g,
  both_append (spots_from (path ++ 1 ∷ []) v ls p) (spots_from (path ++ 2 ∷ []) v ls q) (lock_sites_from (path ++ 1 ∷ []) way k p) (lock_sites_from (path ++ 2 ∷ []) way (k + lock_count p) q)
      (both p (path ++ 1 ∷ []) v ls way k d g h.1) (both q (path ++ 2 ∷ []) v ls way (k + lock_count p) (descends_more way (k + 1) (k + lock_count p + 1) (omega arith) d) g h.2),
)
both (whole.replicated p) path v ls way k d g h = (here path v ls way k (whole.replicated p) g, both p (path ++ 1 ∷ []) v ls way k d g h.1)
both (act a p) path v ls way k d g h =
    (here path v ls way k (act a p) g, both p (path ++ 1 ∷ []) (scope_behind v a) (locks_behind ls a) (way_behind way k a) (k + locks_set a) (descends_behind way k a d) (agree_behind ls way k a d g h.0.0 h.0.1) h.1)
both (whole.test t u p q) path v ls way k d g h = (
  here path v ls way k (whole.test t u p q) g,
  both_append (spots_from (path ++ 1 ∷ []) v ls p) (spots_from (path ++ 2 ∷ []) v ls q) (lock_sites_from (path ++ 1 ∷ []) way k p) (lock_sites_from (path ++ 2 ∷ []) way (k + lock_count p) q)
      (both p (path ++ 1 ∷ []) v ls way k d g h.1) (both q (path ++ 2 ∷ []) v ls way (k + lock_count p) (descends_more way (k + 1) (k + lock_count p + 1) (omega arith) d) g h.2),
)
both (whole.lookup t x p q) path v ls way k d g h = (
  here path v ls way k (whole.lookup t x p q) g,
  both_append (spots_from (path ++ 1 ∷ []) (v ++ message_var x ∷ []) ls p) (spots_from (path ++ 2 ∷ []) v ls q) (lock_sites_from (path ++ 1 ∷ []) way k p) (lock_sites_from (path ++ 2 ∷ []) way (k + lock_count p) q)
      (both p (path ++ 1 ∷ []) (v ++ message_var x ∷ []) ls way k d g h.1) (both q (path ++ 2 ∷ []) v ls way (k + lock_count p) (descends_more way (k + 1) (k + lock_count p + 1) (omega arith) d) g h.2),
)

both_at : (xs : List Spot) (ss : List LockSite) (k : ℕ) (a : Spot) (s : LockSite) → Both xs ss → slice_get xs k ≡ Some a → slice_get ss k ≡ Some s → HasOpenLocks a s
both_at [] ss k a s h e f = absurd (cc)
both_at (x ∷ xs) [] k a s h e f = absurd h
both_at (x ∷ xs) (y ∷ ys) zero a s h e f = let one : x ≡ a = cc in let two : y ≡ s = cc in subst (λ z. HasOpenLocks z s) one (subst (HasOpenLocks x) two h.0)
both_at (x ∷ xs) (y ∷ ys) (suc k) a s h e f = both_at xs ys k a s h.1 e f

pub open_locks_are : (p : Proc) (k : ℕ) (a : Spot) (s : LockSite) → IsAnnotated p → slice_get (spots p) k ≡ Some a → slice_get (lock_sites p) k ≡ Some s → HasOpenLocks a s
open_locks_are p k a s h e f =
    both_at (spots p) (lock_sites p) k a s (both p [] [] [] [] 0 tt (λ n. (λ m. absurd (member-none n m), λ o. absurd o)) (in_all IsLabelled [] [] 0 p h.labelled)) e f
