-- Numbers that are looked up and counted one by one.
use Rattle.std.proofs.Common.{◌≡◌, ℕ, ◌+◌, ◌-◌, ◌≤◌, zero, suc, List, [], ◌∷◌, ◌++◌, Option, Some, None, sym, ap, ◌∙◌, arith, append_assoc}
use Rattle.sap_rule_lines.specs.RuleLines.{numbers_from}

-- numbers before those that are there
abbrev pub after_all : List ℕ → Option (List ℕ) → Option (List ℕ)
after_all ns None = None
after_all ns (Some ms) = Some (ns ++ ms)

-- behind the last number is one more
numbers_more : (n k : ℕ) → numbers_from n k ++ (n + k) ∷ [] ≡ numbers_from n (suc k)
numbers_more n zero = let e : n + 0 ≡ n = omega arith in ap (λ (m : ℕ). m ∷ []) e
numbers_more n (suc k) =
    let e : n + suc k ≡ n + 1 + k = omega arith in
    ap (λ (ms : List ℕ). n ∷ ms) (ap (λ (m : ℕ). numbers_from (n + 1) k ++ m ∷ []) e ∙ numbers_more (n + 1) k)

-- the list grows by it
pub count_more : (xs : List ℕ) (first k : ℕ) → first ≤ k → (xs ++ numbers_from first (k - first)) ++ k ∷ [] ≡ xs ++ numbers_from first (k + 1 - first)
count_more xs first k le =
    let here : first + (k - first) ≡ k = omega arith in
    let next : suc (k - first) ≡ k + 1 - first = omega arith in
    let ms = numbers_from first (k - first) in
    append_assoc xs ms (k ∷ []) ∙ ap (λ (ys : List ℕ). xs ++ ys) (ap (λ (m : ℕ). ms ++ m ∷ []) (sym here) ∙ numbers_more first (k - first) ∙ ap (numbers_from first) next)
