-- Lists by their indices.
use Rattle.std.proofs.Common.{◌≡◌, ℕ, zero, suc, ◌+◌, List, [], ◌∷◌, ◌++◌, Some, map, take, sym, ap, ◌∙◌}
use Rattle.std.specs.Prelude.{slice_get}
use Rattle.sap_terms.proofs.PlainLaws.Lists.{take_got}

-- two lists that are the same up to one index, and there
pub same_further : {X : Type 0} (xs ys : List X) (k : ℕ) (x y : X) → take k xs ≡ take k ys → slice_get xs k ≡ Some x → slice_get ys k ≡ Some y → x ≡ y → take (k + 1) xs ≡ take (k + 1) ys
same_further xs ys k x y h i j e = take_got xs k x i ∙ (λ n. h n ++ e n ∷ []) ∙ sym (take_got ys k y j)

pub get_map : {X Y : Type 0} (f : X → Y) (xs : List X) (k : ℕ) (x : X) → slice_get xs k ≡ Some x → slice_get (map f xs) k ≡ Some (f x)
get_map f [] k x h = cc
get_map f (y ∷ ys) zero x h = let e : y ≡ x = cc in ap (λ z. Some (f z)) e
get_map f (y ∷ ys) (suc k) x h = get_map f ys k x h
