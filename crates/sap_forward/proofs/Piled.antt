-- Facts of the process come one after another.
use Rattle.std.proofs.Common.{◌≡◌, ℕ, ◌+◌, zero, suc, List, [], ◌∷◌, ◌++◌, refl, ap, ◌∙◌, sym, arith}
use Rattle.sap_forward.specs.Written.{numbers_from}
use Rattle.sap_forward.specs.code.Steps.{piles}
use Rattle.sap_forward.specs.declared.desk.Desk.{Desk}
use Rattle.sap_forward.proofs.Lists.{lists_last}

numbers_last : (n k : ℕ) → numbers_from n (suc k) ≡ numbers_from n k ++ (n + k) ∷ []
numbers_last n zero = let e : n ≡ n + 0 = omega arith in ap (λ m. m ∷ []) e
numbers_last n (suc k) = let e : n + 1 + k ≡ n + suc k = omega arith in ap (λ ms. n ∷ ms) (numbers_last (n + 1) k ∙ ap (λ m. numbers_from (n + 1) k ++ m ∷ []) e)

pub piles_more : (d m : Desk) (k n : ℕ) (fs : List ℕ) → m ≡ piles d k → fs ≡ m.facts ++ m.count ∷ [] → n ≡ m.count + 1 → record m { facts = fs; count = n } ≡ piles d (k + 1)
piles_more d m k n fs h e f =
    let facts : fs ≡ d.facts ++ (numbers_from d.count k ++ (d.count + k) ∷ []) = lists_last d.facts (d.facts ++ numbers_from d.count k) fs (numbers_from d.count k) (d.count + k) refl (e ∙ ap (λ (z : Desk). z.facts ++ z.count ∷ []) h) in
    let count : n ≡ d.count + k + 1 = f ∙ ap (λ (z : Desk). z.count + 1) h in
    let one : suc k ≡ k + 1 = omega arith in
    let sum : d.count + k + 1 ≡ d.count + (k + 1) = omega arith in
    (λ i. record (h i) { facts = facts i; count = count i })
    ∙ (λ i. record d { facts = d.facts ++ sym (numbers_last d.count k) i; count = sum i })
    ∙ (λ i. record d { facts = d.facts ++ numbers_from d.count (one i); count = d.count + (k + 1) })
