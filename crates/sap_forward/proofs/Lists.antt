-- Lists whose items are set.
use Rattle.std.proofs.Common.{◌≡◌, ℕ, zero, suc, List, [], ◌∷◌, Option, ◌++◌, Some, None, unwrap_or, map, refl, sym, ap, ◌∙◌}
use Rattle.std.specs.Prelude.{slice_get, slice_set, filter_map}

pub set_twice : {A : Type 0} (xs : List A) (i : ℕ) (x y : A) → slice_set (slice_set xs i x) i y ≡ slice_set xs i y
set_twice [] i x y = refl
set_twice (z ∷ zs) zero x y = refl
set_twice (z ∷ zs) (suc i) x y = ap (λ us. z ∷ us) (set_twice zs i x y)

pub some_same : {A : Type 0} {x y : A} → Some x ≡ Some y → x ≡ y
some_same h = cc

pub seat_got : {A : Type 0} (os : List (Option A)) (t : ℕ) (x : A) → Some x ≡ unwrap_or (slice_get os t) None → slice_get os t ≡ Some (Some x)
seat_got [] t x h = absurd (cc)
seat_got (o ∷ os) zero x h = ap Some (sym h)
seat_got (o ∷ os) (suc t) x h = seat_got os t x h

pub seat_none : {A : Type 0} (os : List (Option A)) (t : ℕ) (x : A) → None ≡ unwrap_or (slice_get os t) None → slice_get os t ≡ Some (Some x) → ⊥
seat_none [] t x h e = cc
seat_none (o ∷ os) zero x h e = let p : o ≡ Some x = some_same e in cc
seat_none (o ∷ os) (suc t) x h e = seat_none os t x h e

-- items put last, one after another
pub two_last : {A : Type 0} (xs ys zs : List A) (a b : A) → ys ≡ xs ++ a ∷ [] → zs ≡ ys ++ b ∷ [] → zs ≡ xs ++ a ∷ b ∷ []
two_last xs ys zs a b h i = i ∙ ap (λ us. us ++ b ∷ []) h ∙ joined a b xs where
  joined : {A : Type 0} (a b : A) (us : List A) → (us ++ a ∷ []) ++ b ∷ [] ≡ us ++ a ∷ b ∷ []
  joined a b [] = refl
  joined a b (u ∷ us) = ap (λ vs. u ∷ vs) (joined a b us)

pub lists_last : {A : Type 0} (xs ys zs : List A) (us : List A) (b : A) → ys ≡ xs ++ us → zs ≡ ys ++ b ∷ [] → zs ≡ xs ++ (us ++ b ∷ [])
lists_last xs ys zs us b h i = i ∙ ap (λ vs. vs ++ b ∷ []) h ∙ joined us b xs where
  joined : {A : Type 0} (us : List A) (b : A) (vs : List A) → (vs ++ us) ++ b ∷ [] ≡ vs ++ (us ++ b ∷ [])
  joined us b [] = refl
  joined us b (v ∷ vs) = ap (λ ws. v ∷ ws) (joined us b vs)

-- those that a table has, where it has each
pub all_got : {A : Type 0} (table : List A) (ks : List ℕ) (js : List A) → map (slice_get table) ks ≡ map Some js → filter_map (slice_get table) ks ≡ js
all_got table [] [] h = refl
all_got table [] (j ∷ js) h = absurd (cc)
all_got table (k ∷ ks) [] h = absurd (cc)
all_got table (k ∷ ks) (j ∷ js) h =
    let e : slice_get table k ≡ Some j = cc in
    let f : map (slice_get table) ks ≡ map Some js = cc in
    rw e (ap (λ us. j ∷ us) (all_got table ks js f))
