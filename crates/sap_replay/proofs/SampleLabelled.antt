-- The labels of the sample's locks.
use Rattle.std.proofs.Common.{◌≡◌, ◌≤◌, ◌+◌, inl, inr, ℕ, zero, suc, true, false, sym, ap, ◌∙◌, List, [], ◌∷◌, Option, Some, None, refl, subst, arith, slice_get}
use Rattle.std.specs.Prelude.{Contains, ⊤}
use Rattle.std.specs.Option.{option_map_or}
use Rattle.sap_terms.proofs.PlainLaws.Items.{first_item, got_contained}
use Rattle.sap_terms.specs.Tree.{Tree}
use Rattle.sap_process.specs.Proc.{replicated}
use Rattle.sap_locks.specs.Ways.{IsLockOf, IsOpen, LockMark, LockSite, locked, lock_sites}
use Rattle.sap_locks.specs.Annotation.{HasLockFlaw, IsAnnotation, IsLabelled, LockFlaw, is_forking, lock_at, unlock_at, without, over}
use Rattle.sap_replay.specs.Sample.{session_process, store_key}

-- the way behind the lock
abbrev behind_lock : List LockMark
behind_lock = locked 1 store_key ∷ []

-- it is the lock of an unlock there
own_lock : IsLockOf behind_lock 1 store_key
own_lock = record { stands = first_item (locked 1 store_key) []; is_open = inl refl; lowest = λ k stands is_open. only k is_open } where
  only : (k : ℕ) → IsOpen behind_lock k → k ≤ 1
  only k (inl e) = omega arith
  only k (inr h) = absurd h

-- the place has its label, and can be annotated
abbrev IsRight : LockSite → Type 0
IsRight s = IsLabelled s × ((w : LockFlaw) → ¬ HasLockFlaw w s)

-- there is neither a lock nor an unlock, and more than one thread goes on only where no lock is open
plain : (s : LockSite) → lock_at s.body ≡ None → unlock_at s.body ≡ None → (is_forking s.body ≡ true → (n : ℕ) → ¬ IsOpen s.above.way n) → IsRight s
plain s no_lock no_unlock none_open = (((λ t l e. absurd (cc (no_lock, e))), (λ t l e. absurd (cc (no_unlock, e)))), flawless) where
  flawless : (w : LockFlaw) → ¬ HasLockFlaw w s
  flawless without h = let e = h.is.1 in cc
  flawless over h = none_open h.forks h.number h.is_open

-- a lock with its number
locks : (s : LockSite) (t : Tree) → lock_at s.body ≡ Some (t, s.above.before + 1) → unlock_at s.body ≡ None → is_forking s.body ≡ false → IsRight s
locks s t is_lock no_unlock one = (((λ u l e. same u l e), (λ u l e. absurd (cc (no_unlock, e)))), flawless) where
  same : (u : Tree) (l : ℕ) → lock_at s.body ≡ Some (u, l) → l ≡ s.above.before + 1
  same u l e = let both : Some (u, l) ≡ Some (t, s.above.before + 1) = sym e ∙ is_lock in ap (λ o. option_map_or (λ (p : Tree × ℕ). p.1) o 0) both

  flawless : (w : LockFlaw) → ¬ HasLockFlaw w s
  flawless without h = let e = h.is.1 in cc
  flawless over h = let e = h.forks in cc

-- the label is that of a lock of the term
abbrev IsOwn : List LockMark → Option (Tree × ℕ) → Type 0
IsOwn way None = ⊤
IsOwn way (Some p) = IsLockOf way p.1 p.0

-- an unlock with the label of its own lock
unlocks : (s : LockSite) (t : Tree) (n : ℕ) → lock_at s.body ≡ None → unlock_at s.body ≡ Some (t, n) → is_forking s.body ≡ false → IsLockOf s.above.way n t → IsRight s
unlocks s t n no_lock is_unlock one own = (((λ u l e. absurd (cc (no_lock, e))), (λ u l e. owned u l e)), flawless) where
  owned : (u : Tree) (l : ℕ) → unlock_at s.body ≡ Some (u, l) → IsLockOf s.above.way l u
  owned u l e =
      let both : Some (t, n) ≡ Some (u, l) = sym is_unlock ∙ e in
      subst (IsOwn s.above.way) both own

  flawless : (w : LockFlaw) → ¬ HasLockFlaw w s
  flawless without h = h.none n (subst (IsLockOf s.above.way n) (ap (λ o. option_map_or (λ (p : Tree × ℕ). p.0) o t) (sym is_unlock ∙ h.is.1)) own)
  flawless over h = let e = h.forks in cc

-- each of these places is right
abbrev AreRight : List LockSite → Type 0
AreRight [] = ⊤
AreRight (s ∷ ss) = IsRight s × AreRight ss

right_at : (ss : List LockSite) (s : LockSite) (k : ℕ) → AreRight ss → slice_get ss k ≡ Some s → IsRight s
right_at [] s k h e = cc
right_at (r ∷ rs) s zero h e = let same : r ≡ s = cc in subst IsRight same h.0
right_at (r ∷ rs) s (suc k) h e = right_at rs s k h.1 e

annotated : (ss : List LockSite) → AreRight ss → (s : LockSite) → Contains ss s → IsRight s
annotated ss h s c = let at = got_contained ss s c in right_at ss s at.0 h at.1

rights : AreRight (lock_sites (replicated (session_process 1)))
rights = (
  plain _ refl refl (λ e n h. h),
  (
    plain _ refl refl (λ e n h. absurd (cc (e))),
    (
      locks _ store_key refl refl refl,
      (
        plain _ refl refl (λ e n h. absurd (cc (e))),
        (
          unlocks _ store_key 1 refl refl refl own_lock,
          (
            plain _ refl refl (λ e n h. absurd (cc (e))),
            (
              plain _ refl refl (λ e n h. absurd (cc (e))),
              (
                plain _ refl refl (λ e n h. absurd (cc (e))),
                (
                  plain _ refl refl (λ e n h. absurd (cc (e))),
                  tt,
                ),
              ),
            ),
          ),
        ),
      ),
    ),
  ),
)

pub sample_annotated : IsAnnotation (replicated (session_process 0)) (replicated (session_process 1))
sample_annotated = record {
  same = refl;
  annotated = record {
    labelled = λ s h. (annotated (lock_sites (replicated (session_process 1))) rights s h).0;
    flawless = λ s h. (annotated (lock_sites (replicated (session_process 1))) rights s h).1;
  };
}
