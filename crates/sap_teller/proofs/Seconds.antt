-- The second part of a pair, and terms that are none.
use Rattle.std.proofs.Common.{◌≡◌, ◌+◌, ℕ, List, [], ◌∷◌, ◌++◌, length, Some, refl, ap, ◌∙◌, suc, zero, add-one, arith}
use Rattle.std.specs.Prelude.{slice_get}
use Rattle.std.specs.List.{range_with_len}
use Rattle.sap_terms.specs.Equations.{app2, pair_name}
use Rattle.sap_terms.specs.Tree.{Tree, apply, more, none, trees_of}

pub second_of_two : (f : List ℕ) (ts : List Tree) (b : Tree) → f ≡ pair_name → length ts ≡ 2 → slice_get ts 1 ≡ Some b → (a : Tree) × (apply f (trees_of ts) ≡ app2 pair_name a b)
second_of_two f [] b name two at = absurd (omega (arith, two))
second_of_two f (t ∷ []) b name two at = absurd (omega (arith, two))
second_of_two f (t ∷ u ∷ []) b name two at = let same : u ≡ b = cc in (t, λ i. apply (name i) (more t (more (same i) none)))
second_of_two f (t ∷ u ∷ v ∷ ts) b name two at = absurd (omega (arith, two))

pub no_pair : (f : List ℕ) (ts : List Tree) (a b : Tree) → (f ≡ pair_name → length ts ≡ 2 → ⊥) → apply f (trees_of ts) ≡ app2 pair_name a b → ⊥
no_pair f [] a b h e = cc
no_pair f (t ∷ []) a b h e = cc
no_pair f (t ∷ u ∷ []) a b h e = let name : f ≡ pair_name = cc in h name refl
no_pair f (t ∷ u ∷ v ∷ ts) a b h e = cc

-- one number more
pub range_push : (a k : ℕ) → range_with_len a (k + 1) ≡ range_with_len a k ++ (a + k) ∷ []
range_push a zero = let same : a ≡ a + 0 = omega arith in ap (λ n. n ∷ []) same
range_push a (suc k) =
    let rest = rw (add-one k) at (range_push (a + 1) k) in
    let same : (a + 1) + k ≡ a + suc k = omega arith in
    rw (add-one (suc k)) (ap (λ ns. a ∷ ns) (rest ∙ ap (λ n. range_with_len (a + 1) k ++ n ∷ []) same))
