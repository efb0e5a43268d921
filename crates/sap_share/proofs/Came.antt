-- How many numbers come.
use Rattle.std.proofs.Common.{◌≡◌, ◌≤◌, ◌+◌, ◌*◌, ℕ, zero, suc, List, [], ◌∷◌, ◌++◌, length, take, Some, ap, ◌∙◌, arith, add-one, length-append}
use Rattle.std.specs.Prelude.{slice_get, Result, Ok, Err, IfOk, OnOk, OnErr}
use Rattle.std.proofs.lemmas.List.{length_push}
use Rattle.sap_terms.specs.Tree.{Tree, trees_of, node_count, trees_count}
use Rattle.sap_share.specs.Shared.{Shared, Came, given, alone, second}

-- one tree more, which has the next number
pub came_alone : (old new : Shared) (t : Tree) (k : ℕ) → k ≡ length old.trees → new ≡ record old { trees = old.trees ++ t ∷ [] } → Came old new k
came_alone old new t k last is =
    let l : length new.trees ≡ length old.trees + 1 = ap (λ (s : Shared). length s.trees) is ∙ length_push old.trees t in
    alone last (omega (arith, l, last))

-- two, the second of which has the number
pub came_second : (old new : Shared) (t u : Tree) (k : ℕ) → k ≡ length old.trees + 1 → new ≡ record old { trees = old.trees ++ t ∷ u ∷ [] } → Came old new k
came_second old new t u k last is =
    let l : length new.trees ≡ length old.trees + 2 = ap (λ (s : Shared). length s.trees) is ∙ length-append old.trees (t ∷ u ∷ []) in
    second last (omega (arith, l, last))

-- what is said of a value and where there is one, is said of both
pub if_both : {T E : Type 0} {P R : T → Type 0} {Q : Type 0} (r : Result T E) → ((x : T) → P x → Q → R x) → IfOk r P → OnOk r Q → IfOk r R
if_both (Ok x) f p q = f x p q
if_both (Err e) f p q = tt

-- at most two came
few : (old new : Shared) (k : ℕ) → Came old new k → length new.trees ≤ length old.trees + 2
few old new k (given h same) = let l = ap (λ ts. length ts) same in omega (arith, l)
few old new k (alone h l) = omega (arith, h, l)
few old new k (second h l) = omega (arith, h, l)

-- none where the call was refused
pub at_most_two : {E : Type 0} (old new : Shared) (r : Result ℕ E) → IfOk r (Came old new) → OnErr r (new ≡ old) → length new.trees ≤ length old.trees + 2
at_most_two old new (Ok k) came same = few old new k came
at_most_two old new (Err e) came same = let l = ap (λ (s : Shared). length s.trees) same in omega (arith, l)

-- the nodes of the first trees of a list, one more
pub trees_count-take : (ts : List Tree) (i : ℕ) (t : Tree) → slice_get ts i ≡ Some t → trees_count (trees_of (take (i + 1) ts)) ≡ trees_count (trees_of (take i ts)) + node_count t
trees_count-take ts i t h = rw add-one (at ts i h) where
  at : (ts : List Tree) (i : ℕ) → slice_get ts i ≡ Some t → trees_count (trees_of (take (suc i) ts)) ≡ trees_count (trees_of (take i ts)) + node_count t
  at [] i h = cc
  at (u ∷ us) zero h = let e : u ≡ t = cc in rw e (omega arith)
  at (u ∷ us) (suc i) h = let r = at us i h in omega (arith, r)

-- and all of them
pub trees_count-take_le : (ts : List Tree) (i : ℕ) → trees_count (trees_of (take i ts)) ≤ trees_count (trees_of ts)
trees_count-take_le [] zero = omega arith
trees_count-take_le [] (suc i) = omega arith
trees_count-take_le (t ∷ ts) zero = omega arith
trees_count-take_le (t ∷ ts) (suc i) = let r = trees_count-take_le ts i in omega (arith, r)

-- two for each node of the first trees of a list, and of one more
pub few_more : (ts : List Tree) (i a b c : ℕ) (t : Tree) → slice_get ts i ≡ Some t → b ≤ a + 2 * trees_count (trees_of (take i ts)) → c ≤ b + 2 * node_count t → c ≤ a + 2 * trees_count (trees_of (take (i + 1) ts))
few_more ts i a b c t at h k = let n = trees_count-take ts i t at in omega (arith, n, h, k)

-- so two for each node of all
pub few_of_all : (ts : List Tree) (i a b : ℕ) → b ≤ a + 2 * trees_count (trees_of (take i ts)) → b ≤ a + 2 * trees_count (trees_of ts)
few_of_all ts i a b h = let n = trees_count-take_le ts i in omega (arith, n, h)

pub few_one_more : (ts : List Tree) (i a b c : ℕ) (t : Tree) → slice_get ts i ≡ Some t → b ≤ a + 2 * trees_count (trees_of (take i ts)) → c ≤ b + 2 * node_count t → c ≤ a + 2 * trees_count (trees_of ts)
few_one_more ts i a b c t at h k = few_of_all ts (i + 1) a c (few_more ts i a b c t at h k)
