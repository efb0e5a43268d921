-- The first place of a list that can't be annotated, list by list.
use Rattle.std.proofs.Common.{◌≡◌, ℕ, zero, suc, ◌<◌, ◌⊎◌, inl, inr, List, [], ◌∷◌, ◌++◌, Option, Some, None, arith, refl, sym, ap, subst, ◌∙◌}
use Rattle.std.specs.Prelude.{slice_get}
use Rattle.sap_locks.specs.Ways.{LockSite}
use Rattle.sap_locks.specs.Annotation.{LockFlaw, HasLockFlaw, IsFirstIn}
use Rattle.sap_locks.specs.code.Labels.{or_else}

-- what a search of these places finds
abbrev pub FirstIs : List LockSite → Option (LockFlaw × List ℕ) → Type 0
FirstIs ss None = (k : ℕ) (s : LockSite) → slice_get ss k ≡ Some s → (u : LockFlaw) → HasLockFlaw u s → ⊥
FirstIs ss (Some x) = IsFirstIn ss x.0 x.1

-- the place behind a list
abbrev after : List LockSite → ℕ → ℕ
after [] j = j
after (x ∷ xs) j = suc (after xs j)

get_after : (xs ys : List LockSite) (j : ℕ) → slice_get (xs ++ ys) (after xs j) ≡ slice_get ys j
get_after [] ys j = refl
get_after (x ∷ xs) ys j = get_after xs ys j

get_left : (xs ys : List LockSite) (k : ℕ) (s : LockSite) → slice_get xs k ≡ Some s → slice_get (xs ++ ys) k ≡ Some s
get_left [] ys k s e = cc
get_left (x ∷ xs) ys zero s e = e
get_left (x ∷ xs) ys (suc k) s e = get_left xs ys k s e

-- a place of the second list
record Behind (xs ys : List LockSite) (k : ℕ) (s : LockSite) : Type 0 where
  place : ℕ
  is : k ≡ after xs place
  stands : slice_get ys place ≡ Some s

get_cases : (xs ys : List LockSite) (k : ℕ) (s : LockSite) → slice_get (xs ++ ys) k ≡ Some s → (slice_get xs k ≡ Some s) ⊎ Behind xs ys k s
get_cases [] ys k s e = inr (record { place = k; is = refl; stands = e })
get_cases (x ∷ xs) ys zero s e = inl e
get_cases (x ∷ xs) ys (suc k) s e = elim (get_cases xs ys k s e) [ inl h ↦ inl h | inr b ↦ inr (record { place = b.place; is = ap suc b.is; stands = b.stands }) ]

before_end : (xs : List LockSite) (k j : ℕ) (s : LockSite) → slice_get xs k ≡ Some s → k < after xs j
before_end [] k j s e = cc
before_end (x ∷ xs) zero j s e = omega arith
before_end (x ∷ xs) (suc k) j s e = let r : k < after xs j = before_end xs k j s e in omega (arith, r)

after_less : (xs : List LockSite) (i j : ℕ) → after xs i < after xs j → i < j
after_less [] i j h = h
after_less (x ∷ xs) i j h = after_less xs i j (let r : suc (after xs i) < suc (after xs j) = h in omega (arith, r))

pub first_append : (xs ys : List LockSite) (a b : Option (LockFlaw × List ℕ)) → FirstIs xs a → FirstIs ys b → FirstIs (xs ++ ys) (or_else a b)
first_append xs ys None None f g = λ k s e u h. elim (get_cases xs ys k s e) [ inl l ↦ f k s l u h | inr r ↦ g r.place s r.stands u h ]
first_append xs ys None (Some y) f g = record {
  place = after xs g.place;
  site = g.site;
  stands = get_after xs ys g.place ∙ g.stands;
  path_is = g.path_is;
  flaw = g.flaw;
  first = λ k s less e u h. elim (get_cases xs ys k s e) [
    | inl l ↦ f k s l u h
    | inr r ↦ g.first r.place s (after_less xs r.place g.place (subst (λ n. n < after xs g.place) r.is less)) r.stands u h
  ];
}
first_append xs ys (Some x) b f g = record {
  place = f.place;
  site = f.site;
  stands = get_left xs ys f.place f.site f.stands;
  path_is = f.path_is;
  flaw = f.flaw;
  first = λ k s less e u h. elim (get_cases xs ys k s e) [
    | inl l ↦ f.first k s less l u h
    | inr r ↦ (let one : f.place < after xs r.place = before_end xs f.place r.place f.site f.stands in let is : k ≡ after xs r.place = r.is in omega (arith, less, one, is))
  ];
}

pub first_none : (s : LockSite) → ((u : LockFlaw) → HasLockFlaw u s → ⊥) → FirstIs (s ∷ []) None
first_none s h zero t e u f = let same : s ≡ t = cc in h u (subst (HasLockFlaw u) (sym same) f)
first_none s h (suc k) t e u f = cc

pub first_here : (s : LockSite) (w : LockFlaw) (path : List ℕ) → s.path ≡ path → HasLockFlaw w s → FirstIs (s ∷ []) (Some (w, path))
first_here s w path e h = record { place = 0; site = s; stands = refl; path_is = e; flaw = h; first = λ k t less g u f. omega (arith, less) }
