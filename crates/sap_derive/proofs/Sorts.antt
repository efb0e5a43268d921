-- Numbers that are put in order.
use Rattle.std.proofs.Common.{ℕ, List, Some, ap, ◌∙◌, arith}
use Rattle.std.specs.Ordering.{nat_cmp}
use Rattle.std.specs.Prelude.{IsSorted, IsPermutation}
use Rattle.std.proofs.lemmas.List.Sorted.{Contains-permutation, IsPermutation-sym, IsNonDecreasingBy-from_sort}
use Rattle.std.proofs.lemmas.Option.{slice_get_within, slice_get-get_or, get_or_from_slice_get}
use Rattle.sap_terms.proofs.PlainLaws.Items.{contains_got}
use Rattle.sap_derive.specs.code.Listed.{IsListed, Ascend}

listed-moved : (xs ys : List ℕ) → IsPermutation xs ys → (n : ℕ) → IsListed xs n → IsListed ys n
listed-moved xs ys p n l =
    let c = Contains-permutation xs ys n p (contains_got xs n l.0 l.1) in
    (c.0, slice_get-get_or ys c.0 n c.1 ∙ ap (λ (i : ℕ). Some i) c.2)

-- they are the same numbers
pub same-listed : (xs ys : List ℕ) → IsPermutation xs ys → (n : ℕ) → (IsListed ys n → IsListed xs n) × (IsListed xs n → IsListed ys n)
same-listed xs ys p n = (listed-moved ys xs (IsPermutation-sym xs ys p) n, listed-moved xs ys p n)

-- what is sorted ascends
pub ascend : (xs : List ℕ) → IsSorted nat_cmp xs → Ascend xs
ascend xs sorted i j m n l a b =
    let h = IsNonDecreasingBy-from_sort (λ (x : ℕ). x) xs sorted i j 0 l (slice_get_within xs j n b) in
    let p = get_or_from_slice_get xs i m 0 a in
    let q = get_or_from_slice_get xs j n 0 b in
    omega arith
