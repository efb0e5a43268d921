-- What holds of the items of a list.
use Rattle.std.proofs.Common.{◌≡◌, ℕ, zero, suc, List, [], ◌∷◌, length, take, Some, ap, subst, ◌∙◌}
use Rattle.std.specs.Prelude.{All, slice_get}
use Rattle.std.proofs.Math.Seq.{take-length}
use Rattle.std.proofs.lemmas.List.Elements.{All-head, All-tail}

pub take_all : {X : Type 0} (xs : List X) (k : ℕ) → k ≡ length xs → take k xs ≡ xs
take_all xs k h = ap (λ n. take n xs) h ∙ take-length xs

pub all_at : {X : Type 0} (P : X → Type 0) (xs : List X) (k : ℕ) (x : X) → All P xs → slice_get xs k ≡ Some x → P x
all_at P [] k x a h = cc
all_at P (y ∷ ys) zero x a h = let e : y ≡ x = cc in subst P e (All-head P y ys a)
all_at P (y ∷ ys) (suc k) x a h = all_at P ys k x (All-tail P y ys a) h
