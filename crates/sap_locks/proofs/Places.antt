-- What holds of all places, part by part.
use Rattle.std.proofs.Common.{ℕ, ◌+◌, inl, inr, List, [], ◌∷◌, ◌++◌, subst}
use Rattle.std.specs.Prelude.{Contains}
use Rattle.std.proofs.lemmas.List.Elements.{Contains-append_cases, Contains-append_left, Contains-append_right}
use Rattle.sap_locks.proofs.Members.{member-head, member-tail, member-none, member-cases}
use Rattle.sap_process.specs.Heads.{locks_set}
use Rattle.sap_process.specs.Places.{place}
use Rattle.sap_process.specs.Proc.{Proc, nil, parallel, replicated, act, test, lookup}
use Rattle.sap_locks.specs.Ways.{way_above, LockMark, LockSite, lock_count, way_behind, lock_sites_from}

abbrev pub lock_site : List ℕ → List LockMark → ℕ → Proc → LockSite
lock_site path way k p = place path (way_above way k) (p)

-- at each place from this one on
abbrev pub AllAt : (LockSite → Type 0) → List ℕ → List LockMark → ℕ → Proc → Type 0
AllAt P path way k nil = P (lock_site path way k nil)
AllAt P path way k (parallel p q) =
    P (lock_site path way k (parallel p q)) × AllAt P (path ++ 1 ∷ []) way k p × AllAt P (path ++ 2 ∷ []) way (k + lock_count p) q
AllAt P path way k (replicated p) = P (lock_site path way k (replicated p)) × AllAt P (path ++ 1 ∷ []) way k p
AllAt P path way k (act a p) = P (lock_site path way k (act a p)) × AllAt P (path ++ 1 ∷ []) (way_behind way k a) (k + locks_set a) p
AllAt P path way k (test t u p q) =
    P (lock_site path way k (test t u p q)) × AllAt P (path ++ 1 ∷ []) way k p × AllAt P (path ++ 2 ∷ []) way (k + lock_count p) q
AllAt P path way k (lookup t x p q) =
    P (lock_site path way k (lookup t x p q)) × AllAt P (path ++ 1 ∷ []) way k p × AllAt P (path ++ 2 ∷ []) way (k + lock_count p) q

-- at each item of a list
abbrev pub Each : {X : Type 0} → (X → Type 0) → List X → Type 0
Each P xs = (u : _) → Contains xs u → P u

pub one_of : {X : Type 0} (P : X → Type 0) (s : X) (xs : List X) → P s → Each P xs → Each P (s ∷ xs)
one_of P s xs h rest u m = elim (member-cases s xs u m) [ inl e ↦ subst P e h | inr k ↦ rest u k ]

pub two_of : {X : Type 0} (P : X → Type 0) (s : X) (xs ys : List X) → P s → Each P xs → Each P ys → Each P (s ∷ (xs ++ ys))
two_of P s xs ys h one two u m = one_of P s (xs ++ ys) h (λ v k. elim (Contains-append_cases xs ys v k) [ inl a ↦ one v a | inr b ↦ two v b ]) u m

pub all_in : (P : LockSite → Type 0) (path : List ℕ) (way : List LockMark) (k : ℕ) (p : Proc) → AllAt P path way k p → (s : LockSite) → Contains (lock_sites_from path way k p) s → P s
all_in P path way k nil h = one_of P (lock_site path way k nil) [] h (λ u m. absurd (member-none u m))
all_in P path way k (parallel p q) h =
    two_of P (lock_site path way k (parallel p q)) (lock_sites_from (path ++ 1 ∷ []) way k p) (lock_sites_from (path ++ 2 ∷ []) way (k + lock_count p) q) h.0
    (all_in P (path ++ 1 ∷ []) way k p h.1) (all_in P (path ++ 2 ∷ []) way (k + lock_count p) q h.2)
all_in P path way k (replicated p) h = one_of P (lock_site path way k (replicated p)) (lock_sites_from (path ++ 1 ∷ []) way k p) h.0 (all_in P (path ++ 1 ∷ []) way k p h.1)
all_in P path way k (act a p) h =
    one_of P (lock_site path way k (act a p)) (lock_sites_from (path ++ 1 ∷ []) (way_behind way k a) (k + locks_set a) p) h.0
    (all_in P (path ++ 1 ∷ []) (way_behind way k a) (k + locks_set a) p h.1)
all_in P path way k (test t u p q) h =
    two_of P (lock_site path way k (test t u p q)) (lock_sites_from (path ++ 1 ∷ []) way k p) (lock_sites_from (path ++ 2 ∷ []) way (k + lock_count p) q) h.0
    (all_in P (path ++ 1 ∷ []) way k p h.1) (all_in P (path ++ 2 ∷ []) way (k + lock_count p) q h.2)
all_in P path way k (lookup t x p q) h =
    two_of P (lock_site path way k (lookup t x p q)) (lock_sites_from (path ++ 1 ∷ []) way k p) (lock_sites_from (path ++ 2 ∷ []) way (k + lock_count p) q) h.0
    (all_in P (path ++ 1 ∷ []) way k p h.1) (all_in P (path ++ 2 ∷ []) way (k + lock_count p) q h.2)

pub each_first : {X : Type 0} (P : X → Type 0) (s : X) (xs ys : List X) → Each P (s ∷ (xs ++ ys)) → Each P xs
each_first P s xs ys h u m = h u (member-tail s (xs ++ ys) u (Contains-append_left xs ys u m))

pub each_second : {X : Type 0} (P : X → Type 0) (s : X) (xs ys : List X) → Each P (s ∷ (xs ++ ys)) → Each P ys
each_second P s xs ys h u m = h u (member-tail s (xs ++ ys) u (Contains-append_right xs ys u m))

pub each_next : {X : Type 0} (P : X → Type 0) (s : X) (xs : List X) → Each P (s ∷ xs) → Each P xs
each_next P s xs h u m = h u (member-tail s xs u m)

pub in_all : (P : LockSite → Type 0) (path : List ℕ) (way : List LockMark) (k : ℕ) (p : Proc) → ((s : LockSite) → Contains (lock_sites_from path way k p) s → P s) → AllAt P path way k p
in_all P path way k nil h = h (lock_site path way k nil) (member-head (lock_site path way k nil) [])
in_all P path way k (parallel p q) h =
    let s = lock_site path way k (parallel p q) in
    let xs = lock_sites_from (path ++ 1 ∷ []) way k p in
    let ys = lock_sites_from (path ++ 2 ∷ []) way (k + lock_count p) q in
    (h s (member-head s (xs ++ ys)), in_all P (path ++ 1 ∷ []) way k p (each_first P s xs ys h), in_all P (path ++ 2 ∷ []) way (k + lock_count p) q (each_second P s xs ys h))
in_all P path way k (replicated p) h =
    let s = lock_site path way k (replicated p) in
    let xs = lock_sites_from (path ++ 1 ∷ []) way k p in
    (h s (member-head s xs), in_all P (path ++ 1 ∷ []) way k p (λ u m. h u (member-tail s xs u m)))
in_all P path way k (act a p) h =
    let s = lock_site path way k (act a p) in
    let xs = lock_sites_from (path ++ 1 ∷ []) (way_behind way k a) (k + locks_set a) p in
    (h s (member-head s xs), in_all P (path ++ 1 ∷ []) (way_behind way k a) (k + locks_set a) p (λ u m. h u (member-tail s xs u m)))
in_all P path way k (test t w p q) h =
    let s = lock_site path way k (test t w p q) in
    let xs = lock_sites_from (path ++ 1 ∷ []) way k p in
    let ys = lock_sites_from (path ++ 2 ∷ []) way (k + lock_count p) q in
    (h s (member-head s (xs ++ ys)), in_all P (path ++ 1 ∷ []) way k p (each_first P s xs ys h), in_all P (path ++ 2 ∷ []) way (k + lock_count p) q (each_second P s xs ys h))
in_all P path way k (lookup t x p q) h =
    let s = lock_site path way k (lookup t x p q) in
    let xs = lock_sites_from (path ++ 1 ∷ []) way k p in
    let ys = lock_sites_from (path ++ 2 ∷ []) way (k + lock_count p) q in
    (h s (member-head s (xs ++ ys)), in_all P (path ++ 1 ∷ []) way k p (each_first P s xs ys h), in_all P (path ++ 2 ∷ []) way (k + lock_count p) q (each_second P s xs ys h))
