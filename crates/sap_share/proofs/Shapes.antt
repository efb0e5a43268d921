-- Lists of one, two or three numbers.
use Rattle.std.proofs.Common.{◌≡◌, ◌<◌, ℕ, List, [], ◌∷◌, length, Some, refl, sym, ap, ◌∙◌, arith}
use Rattle.std.specs.Prelude.{slice_get}
use Rattle.std.proofs.lemmas.List.{length-map}
use Rattle.std.proofs.lemmas.Option.{slice_get_within, get_or_from_slice_get}
use Rattle.sap_terms.specs.Tree.{Tree, Trees, apply, trees_of, list_of, list_of-trees_of}
use Rattle.sap_share.specs.Shared.{tree_at, trees_at, AreBelow}
use Rattle.sap_share.proofs.Grown.{AreBelow-up}

pub item_below : (n : ℕ) (ks : List ℕ) (i k : ℕ) → AreBelow n ks → slice_get ks i ≡ Some k → k < n
item_below n ks i k h g =
    let e = get_or_from_slice_get ks i k k g in
    let b = h i k (slice_get_within ks i k g) in
    omega (arith, b, e)

pub one-got : (ts : List Tree) (ks : List ℕ) (a : ℕ) → length ks ≡ 1 → slice_get ks 0 ≡ Some a → trees_at ts ks ≡ tree_at ts a ∷ []
one-got ts [] a l g = cc
one-got ts (x ∷ []) a l g = let e : x ≡ a = cc in rw e refl
one-got ts (x ∷ y ∷ ks) a l g = absurd (omega (arith, l))

pub two-got : (ts : List Tree) (ks : List ℕ) (a b : ℕ) → length ks ≡ 2 → slice_get ks 0 ≡ Some a → slice_get ks 1 ≡ Some b → trees_at ts ks ≡ tree_at ts a ∷ tree_at ts b ∷ []
two-got ts [] a b l g h = cc
two-got ts (x ∷ []) a b l g h = absurd (omega (arith, l))
two-got ts (x ∷ y ∷ []) a b l g h = let e : x ≡ a = cc in let f : y ≡ b = cc in rw (e, f) refl
two-got ts (x ∷ y ∷ z ∷ ks) a b l g h = absurd (omega (arith, l))

pub three-got : (ts : List Tree) (ks : List ℕ) (a b c : ℕ) → length ks ≡ 3 → slice_get ks 0 ≡ Some a → slice_get ks 1 ≡ Some b → slice_get ks 2 ≡ Some c → trees_at ts ks ≡ tree_at ts a ∷ tree_at ts b ∷ tree_at ts c ∷ []
three-got ts [] a b c l g h i = cc
three-got ts (x ∷ []) a b c l g h i = absurd (omega (arith, l))
three-got ts (x ∷ y ∷ []) a b c l g h i = absurd (omega (arith, l))
three-got ts (x ∷ y ∷ z ∷ []) a b c l g h i = let e : x ≡ a = cc in let f : y ≡ b = cc in let j : z ≡ c = cc in rw (e, f, j) refl
three-got ts (x ∷ y ∷ z ∷ w ∷ ks) a b c l g h i = absurd (omega (arith, l))

-- numbers that have so many trees are so many
pub as_many : (ts us : List Tree) (ks : List ℕ) → trees_at ts ks ≡ us → length ks ≡ length us
as_many ts us ks h = sym (length-map ks (tree_at ts)) ∙ ap length h

-- what two symbols on trees have in common that are the same
pub same_symbol : (f g : List ℕ) (ts us : Trees) → apply f ts ≡ apply g us → f ≡ g
same_symbol f g ts us h = cc

pub same_args : (f g : List ℕ) (ts : List Tree) (us : Trees) → apply f (trees_of ts) ≡ apply g us → ts ≡ list_of us
same_args f g ts us h = let same : trees_of ts ≡ us = cc in sym (list_of-trees_of ts) ∙ ap list_of same

pub ruleset shape_laws = (as_many, AreBelow-up)
