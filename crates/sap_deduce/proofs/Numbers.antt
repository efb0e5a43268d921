-- The terms at some numbers, and numbers that are all below a count.
use Rattle.std.proofs.Common.{◌≡◌, ◌+◌, ◌<◌, ℕ, Bool, true, false, cond, List, [], ◌∷◌, ◌++◌, map, take, find, nat_le, Some, None, slice_get, refl, ap, sym, ◌∙◌, rules}
use Rattle.std.specs.Prelude.{All}
use Rattle.std.proofs.lemmas.List.{map-append, map_more}
use Rattle.std.proofs.lemmas.List.Elements.{All-nil, All-cons}
use Rattle.std.proofs.lemmas.Option.{slice_get_within, get_or_from_slice_get}
use Rattle.sap_terms.specs.Tree.{Tree}

-- one more number, and its term
pub terms_at-more : (xs : List Tree) (ks : List ℕ) (i k : ℕ) (ts : List Tree) (t : Tree) → map (slice_get xs) (take i ks) ≡ map Some ts
    → slice_get ks i ≡ Some k → slice_get xs k ≡ Some t → map (slice_get xs) (take (i + 1) ks) ≡ map Some (ts ++ t ∷ [])
terms_at-more xs ks i k ts t before number term =
    let got = ap (slice_get xs) (get_or_from_slice_get ks i k k number) ∙ term in
    map_more (slice_get xs) ks i k (slice_get_within ks i k number) ∙ (λ j. before j ++ got j ∷ []) ∙ sym (map-append Some ts (t ∷ []))

one_below : (n k : ℕ) (ks : List ℕ) (b : Bool) → nat_le n k ≡ b → cond b (Some k) (find (nat_le n) ks) ≡ None → (k < n) × (find (nat_le n) ks ≡ None)
one_below n k ks true e h = cc
one_below n k ks false e h = (search (rules, e), h)

-- where none is found, all are below
pub find_none-below : (n : ℕ) (ks : List ℕ) → find (nat_le n) ks ≡ None → All (λ k. k < n) ks
find_none-below n [] h = All-nil (λ k. k < n)
find_none-below n (k ∷ ks) h =
    let both : (k < n) × (find (nat_le n) ks ≡ None) = one_below n k ks (nat_le n k) refl h in
    All-cons (λ j. j < n) k ks both.0 (find_none-below n ks both.1)
