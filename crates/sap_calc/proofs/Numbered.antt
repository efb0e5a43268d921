-- Lists by numbers.
use Rattle.std.proofs.Common.{◌≡◌, ◌<◌, ℕ, zero, suc, List, [], ◌∷◌, ◌++◌, length, map, Option, Some, None, option_map, unwrap_or, refl, sym, ap, ◌⊎◌, inl, inr, arith}
use Rattle.std.specs.Prelude.{slice_get, slice_set}

pub set_twice : {X : Type 0} (xs : List X) (i : ℕ) (x y : X) → slice_set (slice_set xs i x) i y ≡ slice_set xs i y
set_twice [] i x y = refl
set_twice (z ∷ zs) zero x y = refl
set_twice (z ∷ zs) (suc i) x y = ap (λ us. z ∷ us) (set_twice zs i x y)

pub live_got : {X : Type 0} (os : List (Option X)) (t : ℕ) (x : X) → Some x ≡ unwrap_or (slice_get os t) None → slice_get os t ≡ Some (Some x)
live_got [] t x h = cc
live_got (o ∷ os) zero x h = ap Some (sym h)
live_got (o ∷ os) (suc t) x h = live_got os t x h

pub live_none : {X : Type 0} (os : List (Option X)) (t : ℕ) (x : X) → None ≡ unwrap_or (slice_get os t) None → slice_get os t ≡ Some (Some x) → ⊥
live_none [] t x h e = cc
live_none (o ∷ os) zero x h e = let p : o ≡ Some x = cc in cc
live_none (o ∷ os) (suc t) x h e = live_none os t x h e

-- what is there has a number below the length
pub got_below : {X : Type 0} (xs : List X) (k : ℕ) (x : X) → slice_get xs k ≡ Some x → k < length xs
got_below [] k x h = cc
got_below (y ∷ ys) zero x h = omega arith
got_below (y ∷ ys) (suc k) x h = let i = got_below ys k x h in omega arith

-- what stands in a list after a write
pub got_set : {X : Type 0} (xs : List X) (i : ℕ) (x : X) (k : ℕ) (y : X) → slice_get (slice_set xs i x) k ≡ Some y → (slice_get xs k ≡ Some y) ⊎ (y ≡ x)
got_set [] i x k y h = inl h
got_set (z ∷ zs) zero x zero y h = let e : x ≡ y = cc in inr (sym e)
got_set (z ∷ zs) zero x (suc k) y h = inl h
got_set (z ∷ zs) (suc i) x zero y h = inl h
got_set (z ∷ zs) (suc i) x (suc k) y h = got_set zs i x k y h

pub got_last : {X : Type 0} (xs : List X) (x : X) (k : ℕ) (y : X) → slice_get (xs ++ x ∷ []) k ≡ Some y → (slice_get xs k ≡ Some y) ⊎ (y ≡ x)
got_last [] x zero y h = let e : x ≡ y = cc in inr (sym e)
got_last [] x (suc k) y h = cc
got_last (z ∷ zs) x zero y h = inl h
got_last (z ∷ zs) x (suc k) y h = got_last zs x k y h

-- a write stays behind what is put last
pub set_append : {X : Type 0} (xs ys : List X) (i : ℕ) (x : X) → i < length xs → slice_set (xs ++ ys) i x ≡ slice_set xs i x ++ ys
set_append [] ys i x lt = absurd (omega arith)
set_append (z ∷ zs) ys zero x lt = refl
set_append (z ∷ zs) ys (suc i) x lt = let less : i < length zs = omega arith in ap (λ us. z ∷ us) (set_append zs ys i x less)

pub got_append : {X : Type 0} (xs ys : List X) (k : ℕ) (x : X) → slice_get xs k ≡ Some x → slice_get (xs ++ ys) k ≡ Some x
got_append [] ys k x h = cc
got_append (z ∷ zs) ys zero x h = h
got_append (z ∷ zs) ys (suc k) x h = got_append zs ys k x h

pub map_write : {X Y : Type 0} (f : X → Y) (xs : List X) (i : ℕ) (x : X) → map f (slice_set xs i x) ≡ slice_set (map f xs) i (f x)
map_write f [] i x = refl
map_write f (z ∷ zs) zero x = refl
map_write f (z ∷ zs) (suc i) x = ap (λ us. f z ∷ us) (map_write f zs i x)

pub map_last : {X Y : Type 0} (f : X → Y) (xs : List X) (x : X) → map f (xs ++ x ∷ []) ≡ map f xs ++ f x ∷ []
map_last f [] x = refl
map_last f (z ∷ zs) x = ap (λ us. f z ∷ us) (map_last f zs x)

pub got_map : {X Y : Type 0} (f : X → Y) (xs : List X) (k : ℕ) → slice_get (map f xs) k ≡ option_map f (slice_get xs k)
got_map f [] k = refl
got_map f (z ∷ zs) zero = refl
got_map f (z ∷ zs) (suc k) = got_map f zs k

pub some_same : {X : Type 0} {x y : X} → Some x ≡ Some y → x ≡ y
some_same h = cc

pub longer : {X : Type 0} (xs : List X) (x : X) (k : ℕ) → k < length xs → k < length (xs ++ x ∷ [])
longer [] x k lt = absurd (omega arith)
longer (z ∷ zs) x zero lt = omega arith
longer (z ∷ zs) x (suc k) lt = let less : k < length zs = omega arith in let i = longer zs x k less in omega arith
