-- What holds of places doesn't turn on labels.
use Rattle.std.proofs.Common.{◌≡◌, ℕ, zero, suc, ◌+◌, inl, inr, List, [], ◌∷◌, ◌++◌, Some, map, refl, sym, ap, subst, ◌∙◌}
use Rattle.std.specs.Prelude.{Contains, slice_get}
use Rattle.sap_terms.specs.Tree.{Tree}
use Rattle.sap_process.specs.Action.{Action, lock, unlock}
use Rattle.sap_process.specs.Heads.{locks_set}
use Rattle.sap_process.specs.Places.{place}
use Rattle.sap_process.specs.Proc.{Proc, nil, parallel, replicated, act, test, lookup}
use Rattle.sap_locks.proofs.Members.{member-head, member-tail, member-none, member-cases}
use Rattle.sap_locks.specs.Ways.{way_above, LockMark, LockSite, lock_count, way_behind, lock_sites_from, lock_sites, IsLockOf}
use Rattle.sap_locks.specs.Annotation.{LockFlaw, without, over, HasLockFlaw, IsFirstIn, is_forking, unlock_at, action_unlock, unlabelled, unlabelled_action}

abbrev pub bare : LockSite → LockSite
bare s = place s.path s.above (unlabelled s.body)

pub bare_set : (a : Action) → locks_set (unlabelled_action a) ≡ locks_set a
bare_set (lock t l) = refl
bare_set (unlock t l) = refl
bare_set a = refl

pub bare_count : (p : Proc) → lock_count (unlabelled p) ≡ lock_count p
bare_count nil = refl
bare_count (parallel p q) = λ i. bare_count p i + bare_count q i
bare_count (replicated p) = bare_count p
bare_count (act a p) = λ i. bare_set a i + bare_count p i
bare_count (test t u p q) = λ i. bare_count p i + bare_count q i
bare_count (lookup t x p q) = λ i. bare_count p i + bare_count q i

bare_way : (way : List LockMark) (k : ℕ) (a : Action) → way_behind way k (unlabelled_action a) ≡ way_behind way k a
bare_way way k (lock t l) = refl
bare_way way k (unlock t l) = refl
bare_way way k a = refl

map-append : (f : LockSite → LockSite) (xs ys : List LockSite) → map f (xs ++ ys) ≡ map f xs ++ map f ys
map-append f [] ys = refl
map-append f (x ∷ xs) ys = ap (λ zs. f x ∷ zs) (map-append f xs ys)

pub bare_sites : (p : Proc) (path : List ℕ) (way : List LockMark) (k : ℕ) → lock_sites_from path way k (unlabelled p) ≡ map bare (lock_sites_from path way k p)
bare_sites nil path way k = refl
bare_sites (parallel p q) path way k =
    ap (λ zs. bare (place path (way_above way k) (parallel p q)) ∷ zs)
    ((λ i. bare_sites p (path ++ 1 ∷ []) way k i ++ lock_sites_from (path ++ 2 ∷ []) way (k + bare_count p i) (unlabelled q))
    ∙ ap (λ zs. map bare (lock_sites_from (path ++ 1 ∷ []) way k p) ++ zs) (bare_sites q (path ++ 2 ∷ []) way (k + lock_count p))
    ∙ sym (map-append bare (lock_sites_from (path ++ 1 ∷ []) way k p) (lock_sites_from (path ++ 2 ∷ []) way (k + lock_count p) q)))
bare_sites (replicated p) path way k = ap (λ zs. bare (place path (way_above way k) (replicated p)) ∷ zs) (bare_sites p (path ++ 1 ∷ []) way k)
bare_sites (act a p) path way k =
    ap (λ zs. bare (place path (way_above way k) (act a p)) ∷ zs)
    ((λ i. lock_sites_from (path ++ 1 ∷ []) (bare_way way k a i) (k + bare_set a i) (unlabelled p)) ∙ bare_sites p (path ++ 1 ∷ []) (way_behind way k a) (k + locks_set a))
bare_sites (test t u p q) path way k =
    ap (λ zs. bare (place path (way_above way k) (test t u p q)) ∷ zs)
    ((λ i. bare_sites p (path ++ 1 ∷ []) way k i ++ lock_sites_from (path ++ 2 ∷ []) way (k + bare_count p i) (unlabelled q))
    ∙ ap (λ zs. map bare (lock_sites_from (path ++ 1 ∷ []) way k p) ++ zs) (bare_sites q (path ++ 2 ∷ []) way (k + lock_count p))
    ∙ sym (map-append bare (lock_sites_from (path ++ 1 ∷ []) way k p) (lock_sites_from (path ++ 2 ∷ []) way (k + lock_count p) q)))
bare_sites (lookup t x p q) path way k =
    ap (λ zs. bare (place path (way_above way k) (lookup t x p q)) ∷ zs)
    ((λ i. bare_sites p (path ++ 1 ∷ []) way k i ++ lock_sites_from (path ++ 2 ∷ []) way (k + bare_count p i) (unlabelled q))
    ∙ ap (λ zs. map bare (lock_sites_from (path ++ 1 ∷ []) way k p) ++ zs) (bare_sites q (path ++ 2 ∷ []) way (k + lock_count p))
    ∙ sym (map-append bare (lock_sites_from (path ++ 1 ∷ []) way k p) (lock_sites_from (path ++ 2 ∷ []) way (k + lock_count p) q)))

-- members of a list under a function
in_map : {X Y : Type 0} (f : X → Y) (xs : List X) (x : X) → Contains xs x → Contains (map f xs) (f x)
in_map f [] x m = absurd (member-none x m)
in_map f (y ∷ xs) x m = elim (member-cases y xs x m) [
  | inl e ↦ subst (λ z. Contains (f y ∷ map f xs) (f z)) e (member-head (f y) (map f xs))
  | inr k ↦ member-tail (f y) (map f xs) (f x) (in_map f xs x k)
]

of_map : {X Y : Type 0} (f : X → Y) (xs : List X) (y : Y) → Contains (map f xs) y → (x : X) × Contains xs x × (f x ≡ y)
of_map f [] y m = absurd (member-none y m)
of_map f (x ∷ xs) y m = elim (member-cases (f x) (map f xs) y m) [
  | inl e ↦ (x, member-head x xs, e)
  | inr k ↦ (let r = of_map f xs y k in (r.0, member-tail x xs r.0 r.1, r.2))
]

pub get_map : {X Y : Type 0} (f : X → Y) (xs : List X) (k : ℕ) (x : X) → slice_get xs k ≡ Some x → slice_get (map f xs) k ≡ Some (f x)
get_map f [] k x e = cc
get_map f (y ∷ xs) zero x e = let same : y ≡ x = cc in ap (λ z. Some (f z)) same
get_map f (y ∷ xs) (suc k) x e = get_map f xs k x e

pub got_map : {X Y : Type 0} (f : X → Y) (xs : List X) (k : ℕ) (y : Y) → slice_get (map f xs) k ≡ Some y → (x : X) × (slice_get xs k ≡ Some x) × (f x ≡ y)
got_map f [] k y e = cc
got_map f (x ∷ xs) zero y e = let same : f x ≡ y = cc in (x, refl, same)
got_map f (x ∷ xs) (suc k) y e = got_map f xs k y e

-- unlocks without labels

bare_unlock : (a : Action) (t : Tree) (l : ℕ) → action_unlock a ≡ Some (t, l) → action_unlock (unlabelled_action a) ≡ Some (t, 0)
bare_unlock (unlock u m) t l e = let same : (u, m) ≡ (t, l) = cc in ap (λ (z : Tree × ℕ). Some (z.0, 0)) same
bare_unlock (lock u m) t l e = cc
bare_unlock a t l e = cc

unbare_unlock : (a : Action) (t : Tree) (l : ℕ) → action_unlock (unlabelled_action a) ≡ Some (t, l) → (m : ℕ) × (action_unlock a ≡ Some (t, m))
unbare_unlock (unlock u m) t l e = let same : (u, 0) ≡ (t, l) = cc in (m, ap (λ (z : Tree × ℕ). Some (z.0, m)) same)
unbare_unlock (lock u m) t l e = cc
unbare_unlock a t l e = absurd (cc)

to_bare_at : (p : Proc) (t : Tree) (l : ℕ) → unlock_at p ≡ Some (t, l) → unlock_at (unlabelled p) ≡ Some (t, 0)
to_bare_at (act a p) t l e = bare_unlock a t l e
to_bare_at nil t l e = cc
to_bare_at (parallel p q) t l e = cc
to_bare_at (replicated p) t l e = cc
to_bare_at (test u w p q) t l e = cc
to_bare_at (lookup u x p q) t l e = cc

of_bare_at : (p : Proc) (t : Tree) (l : ℕ) → unlock_at (unlabelled p) ≡ Some (t, l) → (m : ℕ) × (unlock_at p ≡ Some (t, m))
of_bare_at (act a p) t l e = unbare_unlock a t l e
of_bare_at nil t l e = absurd (cc)
of_bare_at (parallel p q) t l e = absurd (cc)
of_bare_at (replicated p) t l e = absurd (cc)
of_bare_at (test u w p q) t l e = absurd (cc)
of_bare_at (lookup u x p q) t l e = absurd (cc)

forks_bare : (p : Proc) → is_forking (unlabelled p) ≡ is_forking p
forks_bare (act a p) = refl
forks_bare nil = refl
forks_bare (parallel p q) = refl
forks_bare (replicated p) = refl
forks_bare (test u w p q) = refl
forks_bare (lookup u x p q) = refl

-- the same flaws

pub to_bare : (u : LockFlaw) (s : LockSite) → HasLockFlaw u s → HasLockFlaw u (bare s)
to_bare without s h = record { term = h.term; is = (0, to_bare_at s.body h.term h.is.0 h.is.1); none = h.none }
to_bare over s h = record {
  forks = forks_bare s.body ∙ h.forks;
  number = h.number;
  is_open = h.is_open;
  below = bare h.below;
  stands = subst (λ xs. Contains xs (bare h.below)) (sym (bare_sites s.body s.path s.above.way s.above.before)) (in_map bare (lock_sites_from s.path s.above.way s.above.before s.body) h.below h.stands);
  term = h.term;
  is = (0, to_bare_at h.below.body h.term h.is.0 h.is.1);
  own = h.own;
}

pub of_bare : (u : LockFlaw) (s : LockSite) → HasLockFlaw u (bare s) → HasLockFlaw u s
of_bare without s h = record { term = h.term; is = of_bare_at s.body h.term h.is.0 h.is.1; none = h.none }
of_bare over s h =
    let r = of_map bare (lock_sites_from s.path s.above.way s.above.before s.body) h.below (subst (λ xs. Contains xs h.below) (bare_sites s.body s.path s.above.way s.above.before) h.stands) in
    record {
      forks = sym (forks_bare s.body) ∙ h.forks;
      number = h.number;
      is_open = h.is_open;
      below = r.0;
      stands = r.1;
      term = h.term;
      is = of_bare_at r.0.body h.term h.is.0 (subst (λ (z : LockSite). unlock_at z.body ≡ Some (h.term, h.is.0)) (sym r.2) h.is.1);
      own = subst (λ (z : LockSite). IsLockOf z.above.way h.number h.term) (sym r.2) h.own;
    }

first_to_bare : (ss : List LockSite) (w : LockFlaw) (path : List ℕ) → IsFirstIn ss w path → IsFirstIn (map bare ss) w path
first_to_bare ss w path h = record {
  place = h.place;
  site = bare h.site;
  stands = get_map bare ss h.place h.site h.stands;
  path_is = h.path_is;
  flaw = to_bare w h.site h.flaw;
  first = λ k s less e u f. (let r = got_map bare ss k s e in h.first k r.0 less r.1 u (of_bare u r.0 (subst (HasLockFlaw u) (sym r.2) f)));
}

first_of_bare : (ss : List LockSite) (w : LockFlaw) (path : List ℕ) → IsFirstIn (map bare ss) w path → IsFirstIn ss w path
first_of_bare ss w path h =
    let r = got_map bare ss h.place h.site h.stands in
    record {
      place = h.place;
      site = r.0;
      stands = r.1;
      path_is = ap (λ (z : LockSite). z.path) r.2 ∙ h.path_is;
      flaw = of_bare w r.0 (subst (HasLockFlaw w) (sym r.2) h.flaw);
      first = λ k s less e u f. h.first k (bare s) less (get_map bare ss k s e) u (to_bare u s f);
    }

-- a process and another with other labels have the same first flaw
pub first_same : (p q : Proc) (w : LockFlaw) (path : List ℕ) → unlabelled p ≡ unlabelled q → IsFirstIn (lock_sites p) w path → IsFirstIn (lock_sites q) w path
first_same p q w path same h =
    first_of_bare (lock_sites q) w path (subst (λ ss. IsFirstIn ss w path) (bare_sites q [] [] 0) (subst (λ z. IsFirstIn (lock_sites z) w path) same (subst (λ ss. IsFirstIn ss w path) (sym (bare_sites p [] [] 0)) (first_to_bare (lock_sites p) w path h))))
