-- Places of numbers where a number is put last, and where the last ones are taken off.
use Rattle.std.proofs.Common.{◌≡◌, ◌<◌, ◌≤◌, ℕ, zero, suc, List, [], ◌∷◌, ◌++◌, length, take, Some, sym, ◌∙◌, ◌⊎◌, inl, inr, arith, subst}
use Rattle.std.specs.Prelude.{slice_get, slice_set}
use Rattle.std.proofs.lemmas.Option.{slice_get_within}
use Rattle.sap_derive.specs.code.Listed.{IsListed, TellPlaces}
use Rattle.sap_derive.proofs.Gets.{get-more, get-last, get-last_cases, get-set, get-set_other}

-- one that is there
pub places-again : (places items : List ℕ) (n : ℕ) → TellPlaces places items → IsListed items n → TellPlaces places (items ++ n ∷ [])
places-again places items n h l m k e = at (get-last_cases items n k m e) where
  there : (j : ℕ) → j ≤ k → slice_get items j ≡ Some m → (p : ℕ) × (p ≤ k) × (slice_get places m ≡ Some p) × (slice_get (items ++ n ∷ []) p ≡ Some m)
  there j b g = let p = h m j g in let low = p.1 in (p.0, omega (arith, b), p.2, get-more items (n ∷ []) p.0 m p.3)

  at : (slice_get items k ≡ Some m) ⊎ ((k ≡ length items) × (m ≡ n)) → (p : ℕ) × (p ≤ k) × (slice_get places m ≡ Some p) × (slice_get (items ++ n ∷ []) p ≡ Some m)
  at (inl g) = there k (omega arith) g
  at (inr r) = let w = slice_get_within items l.0 n l.1 in let q = r.0 in there l.0 (omega arith) (l.1 ∙ (cc))

-- one that isn't, whose place is written
pub places-new : (places items : List ℕ) (n : ℕ) → TellPlaces places items → ¬ IsListed items n → n < length places
    → TellPlaces (slice_set places n (length items)) (items ++ n ∷ [])
places-new places items n h new l m k e = at (get-last_cases items n k m e) where
  at : (slice_get items k ≡ Some m) ⊎ ((k ≡ length items) × (m ≡ n))
      → (p : ℕ) × (p ≤ k) × (slice_get (slice_set places n (length items)) m ≡ Some p) × (slice_get (items ++ n ∷ []) p ≡ Some m)
  at (inl g) =
      let p = h m k g in
      let other : ¬ (m ≡ n) = λ (q : m ≡ n). new (k, subst (λ i. slice_get items k ≡ Some i) q g) in
      (p.0, p.1, get-set_other places n (length items) m other ∙ p.2, get-more items (n ∷ []) p.0 m p.3)
  at (inr r) =
      let q = r.0 in
      (length items, omega arith, subst (λ i. slice_get (slice_set places n (length items)) i ≡ Some (length items)) (sym r.1) (get-set places n (length items) l), subst (λ i. slice_get (items ++ n ∷ []) (length items) ≡ Some i) (sym r.1) (get-last items n))

-- an item of the first ones
pub get-taken : (items : List ℕ) (count k n : ℕ) → slice_get (take count items) k ≡ Some n → (k < count) × (slice_get items k ≡ Some n)
get-taken [] zero k n e = absurd (cc)
get-taken [] (suc count) k n e = absurd (cc)
get-taken (x ∷ items) zero k n e = absurd (cc)
get-taken (x ∷ items) (suc count) zero n e = (omega arith, e)
get-taken (x ∷ items) (suc count) (suc k) n e = let r = get-taken items count k n e in let l = r.0 in (omega arith, r.1)

pub taken-get : (items : List ℕ) (count k n : ℕ) → k < count → slice_get items k ≡ Some n → slice_get (take count items) k ≡ Some n
taken-get [] count k n l e = absurd (cc)
taken-get (x ∷ items) zero k n l e = absurd (omega arith)
taken-get (x ∷ items) (suc count) zero n l e = e
taken-get (x ∷ items) (suc count) (suc k) n l e = taken-get items count k n (omega arith) e

-- the first ones alone
pub places-cut : (places items : List ℕ) (count : ℕ) → TellPlaces places items → TellPlaces places (take count items)
places-cut places items count h n k e =
    let old = get-taken items count k n e in
    let p = h n k old.1 in
    let a = old.0 in
    let b = p.1 in
    (p.0, p.1, p.2, taken-get items count p.0 n (omega arith) p.3)
