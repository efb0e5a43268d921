-- Lists by their indices.
use Rattle.std.proofs.Common.{◌≡◌, ℕ, zero, suc, ◌+◌, List, [], ◌∷◌, ◌++◌, Some, length, map, take, drop, add-one, refl, sym, ap, subst, ◌∙◌}
use Rattle.std.specs.Prelude.{All, slice_get}
use Rattle.std.specs.List.{AllZip}
use Rattle.std.proofs.Math.Seq.{take-length}
use Rattle.std.proofs.lemmas.List.Elements.{All-head, All-tail}
use Rattle.sap_terms.proofs.PlainLaws.Lists.{take_got}

pub take_all : {X : Type 0} (xs : List X) (k : ℕ) → k ≡ length xs → take k xs ≡ xs
take_all xs k h = ap (λ n. take n xs) h ∙ take-length xs

pub drop_all : {X : Type 0} (xs : List X) (k : ℕ) → k ≡ length xs → drop k xs ≡ []
drop_all xs k h = ap (λ n. drop n xs) h ∙ at xs where
  at : {X : Type 0} (xs : List X) → drop (length xs) xs ≡ []
  at [] = refl
  at (x ∷ xs) = at xs

-- two lists that are the same up to one index, and there
pub same_further : {X : Type 0} (xs ys : List X) (k : ℕ) (x y : X) → take k xs ≡ take k ys → slice_get xs k ≡ Some x → slice_get ys k ≡ Some y → x ≡ y → take (k + 1) xs ≡ take (k + 1) ys
same_further xs ys k x y h i j e =
    take_got xs k x i ∙ (λ n. h n ++ e n ∷ []) ∙ sym (take_got ys k y j)

pub get_map : {X Y : Type 0} (f : X → Y) (xs : List X) (k : ℕ) (x : X) → slice_get xs k ≡ Some x → slice_get (map f xs) k ≡ Some (f x)
get_map f [] k x h = cc
get_map f (y ∷ ys) zero x h = let e : y ≡ x = cc in ap (λ z. Some (f z)) e
get_map f (y ∷ ys) (suc k) x h = get_map f ys k x h

pub all_at : {X : Type 0} (P : X → Type 0) (xs : List X) (k : ℕ) (x : X) → All P xs → slice_get xs k ≡ Some x → P x
all_at P [] k x a h = cc
all_at P (y ∷ ys) zero x a h = let e : y ≡ x = cc in subst P e (All-head P y ys a)
all_at P (y ∷ ys) (suc k) x a h = all_at P ys k x (All-tail P y ys a) h

pub zip_at : {X Y : Type 0} (R : X → Y → Type 0) (xs : List X) (ys : List Y) (k : ℕ) (x : X) (y : Y) → AllZip R xs ys → slice_get xs k ≡ Some x → slice_get ys k ≡ Some y → R x y
zip_at R [] ys k x y a h i = cc
zip_at R (u ∷ us) [] k x y a h i = cc
zip_at R (u ∷ us) (v ∷ vs) zero x y a h i =
    let e : u ≡ x = cc in
    let f : v ≡ y = cc in
    subst (λ w. R x w) f (subst (λ w. R w v) e a.0)
zip_at R (u ∷ us) (v ∷ vs) (suc k) x y a h i = zip_at R us vs k x y a.1 h i

pub zip_push : {X Y : Type 0} (R : X → Y → Type 0) (xs : List X) (ys : List Y) (x : X) (y : Y) → AllZip R xs ys → R x y → AllZip R (xs ++ x ∷ []) (ys ++ y ∷ [])
zip_push R [] [] x y a r = (r, tt)
zip_push R [] (v ∷ vs) x y a r = absurd a
zip_push R (u ∷ us) [] x y a r = absurd a
zip_push R (u ∷ us) (v ∷ vs) x y a r = (a.0, zip_push R us vs x y a.1 r)

pub zip_further : {X Y : Type 0} (R : X → Y → Type 0) (xs : List X) (ys : List Y) (k : ℕ) (x : X) (y : Y) → AllZip R (take k xs) (take k ys) → slice_get xs k ≡ Some x → slice_get ys k ≡ Some y → R x y → AllZip R (take (k + 1) xs) (take (k + 1) ys)
zip_further R xs ys k x y a h i r =
    subst (λ us. AllZip R us (take (k + 1) ys)) (sym (take_got xs k x h)) (subst (λ vs. AllZip R (take k xs ++ x ∷ []) vs) (sym (take_got ys k y i)) (zip_push R (take k xs) (take k ys) x y a r))

-- what goes by side goes by side up to an index
pub zip_take : {X Y : Type 0} (R : X → Y → Type 0) (xs : List X) (ys : List Y) (k : ℕ) → AllZip R xs ys → AllZip R (take k xs) (take k ys)
zip_take R [] [] k a = at k where
  at : (k : ℕ) → AllZip R (take k []) (take k [])
  at zero = tt
  at (suc k) = tt
zip_take R [] (v ∷ vs) k a = absurd a
zip_take R (u ∷ us) [] k a = absurd a
zip_take R (u ∷ us) (v ∷ vs) zero a = tt
zip_take R (u ∷ us) (v ∷ vs) (suc k) a = (a.0, zip_take R us vs k a.1)

-- the last of those up to an index, and those before it
pub zip_split : {X Y : Type 0} (R : X → Y → Type 0) (xs : List X) (ys : List Y) (k : ℕ) (x : X) (y : Y) → slice_get xs k ≡ Some x → slice_get ys k ≡ Some y → AllZip R (take (k + 1) xs) (take (k + 1) ys) → AllZip R (take k xs) (take k ys) × R x y
zip_split {X} {Y} R xs ys k x y h i = rw add-one (at xs ys k h i) where
  at : (xs : List X) (ys : List Y) (k : ℕ) → slice_get xs k ≡ Some x → slice_get ys k ≡ Some y → AllZip R (take (suc k) xs) (take (suc k) ys) → AllZip R (take k xs) (take k ys) × R x y
  at [] ys k h i a = cc
  at (u ∷ us) [] k h i a = cc
  at (u ∷ us) (v ∷ vs) zero h i a =
      let e : u ≡ x = cc in
      let f : v ≡ y = cc in
      (tt, subst (λ w. R x w) f (subst (λ w. R w v) e a.0))
  at (u ∷ us) (v ∷ vs) (suc k) h i a = let rest = at us vs k h i a.1 in ((a.0, rest.0), rest.1)
