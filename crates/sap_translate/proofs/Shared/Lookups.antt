-- Look-ups in lists after a write and after a push.
use Rattle.sap_translate.specs.Members.{Member}
use Rattle.std.proofs.Common.{◌≡◌, ◌<◌, ℕ, zero, suc, List, [], ◌∷◌, ◌++◌, Option, Some, None, arith, length, refl, ap, slice_get, slice_set, map, subst}
use Rattle.std.specs.Option.{option_map}

-- P holds of each item that is there
abbrev pub Every : {A : Type 0} → (A → Type 0) → List (Option A) → Type 0
Every {A} P xs = (t : ℕ) (a : A) → slice_get xs t ≡ Some (Some a) → P a

pub every-set : {A : Type 0} (P : A → Type 0) (xs : List (Option A)) (t : ℕ) (o : Option A) → Every P xs → ((a : A) → o ≡ Some a → P a) → Every P (slice_set xs t o)
every-set P [] t o all h k a e = cc
every-set P (x ∷ xs) zero o all h zero a e = h a (cc)
every-set P (x ∷ xs) zero o all h (suc k) a e = all (suc k) a e
every-set P (x ∷ xs) (suc t) o all h zero a e = all zero a e
every-set P (x ∷ xs) (suc t) o all h (suc k) a e = every-set P xs t o (λ j b g. all (suc j) b g) h k a e

pub every_push : {A : Type 0} (P : A → Type 0) (xs : List (Option A)) (y : A) → Every P xs → P y → Every P (xs ++ Some y ∷ [])
every_push P [] y all h zero a e = let same : y ≡ a = cc in subst P same h
every_push P [] y all h (suc k) a e = cc
every_push P (x ∷ xs) y all h zero a e = all zero a e
every_push P (x ∷ xs) y all h (suc k) a e = every_push P xs y (λ j b g. all (suc j) b g) h k a e

pub map-set : {A B : Type 0} (f : A → B) (xs : List A) (t : ℕ) (x : A) → map f (slice_set xs t x) ≡ slice_set (map f xs) t (f x)
map-set f [] t x = refl
map-set f (y ∷ xs) zero x = refl
map-set f (y ∷ xs) (suc t) x = ap (λ ys. f y ∷ ys) (map-set f xs t x)

pub map_push : {A B : Type 0} (f : A → B) (xs : List A) (x : A) → map f (xs ++ x ∷ []) ≡ map f xs ++ f x ∷ []
map_push f [] x = refl
map_push f (y ∷ xs) x = ap (λ ys. f y ∷ ys) (map_push f xs x)

-- the item behind an item of a mapped list
pub record Behind {A B : Type 0} (f : A → B) (xs : List (Option A)) (t : ℕ) (y : B) : Type 0 where
  pub item : A
  pub is : slice_get xs t ≡ Some (Some item)
  pub gives : f item ≡ y

pub behind : {A B : Type 0} (f : A → B) (xs : List (Option A)) (t : ℕ) (y : B) → slice_get (map (option_map f) xs) t ≡ Some (Some y) → Behind f xs t y
behind f [] t y e = cc
behind f (None ∷ xs) zero y e = cc
behind f (Some a ∷ xs) zero y e = record { item = a; is = refl; gives = cc }
behind f (x ∷ xs) (suc t) y e = let b = behind f xs t y e in record { item = b.item; is = b.is; gives = b.gives }

pub get-set_same : {A : Type 0} (xs : List A) (t : ℕ) (x y : A) → slice_get xs t ≡ Some x → slice_get (slice_set xs t y) t ≡ Some y
get-set_same [] t x y e = cc
get-set_same (z ∷ xs) zero x y e = refl
get-set_same (z ∷ xs) (suc t) x y e = get-set_same xs t x y e

-- members of joined lists
pub member_left : {A : Type 0} {x : A} {xs : List A} (ys : List A) → Member x xs → Member x (xs ++ ys)
member_left ys Member.here = Member.here
member_left ys (Member.later m) = Member.later (member_left ys m)

pub member_right : {A : Type 0} {x : A} (xs : List A) {ys : List A} → Member x ys → Member x (xs ++ ys)
member_right [] m = m
member_right (y ∷ xs) m = Member.later (member_right xs m)

pub data Either {A : Type 0} (x : A) (xs ys : List A) : Type 0 where
  in_left : Member x xs → Either x xs ys
  in_right : Member x ys → Either x xs ys

pub member_cases : {A : Type 0} {x : A} (xs ys : List A) → Member x (xs ++ ys) → Either x xs ys
member_cases [] ys m = in_right m
member_cases (y ∷ xs) ys Member.here = in_left Member.here
member_cases {x = x} (y ∷ xs) ys (Member.later m) = elim (member_cases xs ys m) [ in_left a ↦ in_left (Member.later a) | in_right b ↦ in_right b ]

-- a write that f can't tell from what was there
pub map-set_same : {A B : Type 0} (f : A → B) (xs : List A) (t : ℕ) (x y : A) → slice_get xs t ≡ Some x → f y ≡ f x → map f (slice_set xs t y) ≡ map f xs
map-set_same f [] t x y e h = refl
map-set_same f (z ∷ xs) zero x y e h = let same : f z ≡ f x = cc in cc
map-set_same f (z ∷ xs) (suc t) x y e h = ap (λ ys. f z ∷ ys) (map-set_same f xs t x y e h)

pub member_last : {A : Type 0} (xs : List A) (x : A) → Member x (xs ++ x ∷ [])
member_last xs x = member_right xs Member.here

-- a member is the last or one before
pub every_member_push : {A : Type 0} (P : A → Type 0) (xs : List A) (y : A) → ((x : A) → Member x xs → P x) → P y → (x : A) → Member x (xs ++ y ∷ []) → P x
every_member_push P [] y all h x Member.here = h
every_member_push P [] y all h x (Member.later m) = elim m [ ]
every_member_push P (z ∷ xs) y all h x Member.here = all z Member.here
every_member_push P (z ∷ xs) y all h x (Member.later m) = every_member_push P xs y (λ w n. all w (Member.later n)) h x m

pub map_get : {A B : Type 0} (f : A → B) (xs : List A) (t : ℕ) (x : A) → slice_get xs t ≡ Some x → slice_get (map f xs) t ≡ Some (f x)
map_get f [] t x e = cc
map_get f (y ∷ xs) zero x e = cc
map_get f (y ∷ xs) (suc t) x e = map_get f xs t x e

pub only_member : {A : Type 0} {x y : A} → Member x (y ∷ []) → x ≡ y
only_member Member.here = refl
only_member (Member.later m) = elim m [ ]

pub get-set_other : {A : Type 0} (xs : List A) (i j : ℕ) (y : A) → (i ≡ j → ⊥) → slice_get (slice_set xs i y) j ≡ slice_get xs j
get-set_other [] i j y h = refl
get-set_other (x ∷ xs) zero zero y h = absurd (h refl)
get-set_other (x ∷ xs) zero (suc j) y h = refl
get-set_other (x ∷ xs) (suc i) zero y h = refl
get-set_other (x ∷ xs) (suc i) (suc j) y h = get-set_other xs i j y (λ e. h (ap suc e))

pub get-append_left : {A : Type 0} (xs ys : List A) (i : ℕ) (x : A) → slice_get xs i ≡ Some x → slice_get (xs ++ ys) i ≡ Some x
get-append_left [] ys i x e = cc
get-append_left (y ∷ xs) ys zero x e = e
get-append_left (y ∷ xs) ys (suc i) x e = get-append_left xs ys i x e

pub get_last : {A : Type 0} (xs : List A) (x : A) → slice_get (xs ++ x ∷ []) (length xs) ≡ Some x
get_last [] x = refl
get_last (y ∷ xs) x = get_last xs x

pub get_within : {A : Type 0} (xs : List A) (i : ℕ) (x : A) → slice_get xs i ≡ Some x → i < length xs
get_within [] i x e = cc
get_within (y ∷ xs) zero x e = omega arith
get_within (y ∷ xs) (suc i) x e = let h = get_within xs i x e in omega arith
