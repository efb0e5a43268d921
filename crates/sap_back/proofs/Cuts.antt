-- A list, cut at one of its items.
use Rattle.std.proofs.Common.{◌≡◌, ◌+◌, ◌<◌, ◌≤◌, ℕ, List, ◌∷◌, ◌++◌, Some, get_or, length, take, drop, slice_get, refl, sym, ap, subst, ◌∙◌, arith}
use Rattle.std.proofs.lemmas.List.{take-append-drop, length-take-le}
use Rattle.std.proofs.lemmas.Option.{slice_get_read, slice_get_within}
use Rattle.sap_terms.proofs.PlainLaws.Lists.{drop_got, front_self}

-- the item that a loop over the items has reached
pub item_at : {X : Type 0} (xs ys : List X) (k : ℕ) (x : X) → ys ≡ xs → k < length ys → x ≡ get_or ys k x → slice_get xs k ≡ Some x
item_at xs ys k x same below is = subst (λ zs. slice_get zs k ≡ Some x) same (slice_get_read ys (length ys) k x refl below is)

pub cut_at : {X : Type 0} (xs : List X) (k : ℕ) (x : X) → slice_get xs k ≡ Some x → xs ≡ take k xs ++ x ∷ drop (k + 1) xs
cut_at xs k x e = sym (take-append-drop k xs) ∙ ap (λ zs. take k xs ++ zs) (drop_got xs k x e)

-- so many items stand before it
pub count_at : {X : Type 0} (xs : List X) (k : ℕ) (x : X) → slice_get xs k ≡ Some x → k + 1 ≡ length (take k xs) + 1
count_at xs k x e = let below = slice_get_within xs k x e in let n = length-take-le k xs (omega arith) in omega arith

-- a loop over the items that has reached their end has taken all
pub all_taken : {X : Type 0} (xs ys : List X) (k : ℕ) → ys ≡ xs → length ys ≤ k → k ≤ length ys → take k xs ≡ xs
all_taken xs ys k same above below = let n = ap length same in let e : k ≡ length xs = omega arith in ap (λ m. take m xs) e ∙ front_self xs
