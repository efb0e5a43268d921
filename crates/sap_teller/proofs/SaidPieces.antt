-- Terms told as they stand, piece by piece.
use Rattle.std.proofs.Common.{◌≡◌, ◌+◌, ℕ, Bool, suc, true, false, ◌&&◌, List, [], ◌∷◌, length, drop, Some, refl, ap}
use Rattle.std.specs.Prelude.{slice_get}
use Rattle.sap_called.specs.Names.{Draw}
use Rattle.sap_tell.specs.Said.{are_few, are_same, is_few, parts_told}
use Rattle.sap_tell.specs.ToldText.{term_told}
use Rattle.sap_terms.specs.Tree.{Tree, apply, node_count, trees_count, trees_of}
use Rattle.sap_terms.specs.Same.{same_tree}
use Rattle.sap_terms.proofs.PlainLaws.Lists.{drop_got}

-- of terms that are as many, or not
pub apart_lengths : (ts us : List Tree) → (length ts ≡ length us → ⊥) → are_same ts us ≡ false
apart_lengths [] [] h = absurd (h refl)
apart_lengths [] (u ∷ us) h = refl
apart_lengths (t ∷ ts) [] h = refl
apart_lengths (t ∷ ts) (u ∷ us) h = by (same_tree t u) (apart_lengths ts us (λ e. h (ap suc e))) where
  by : (b : Bool) → are_same ts us ≡ false → (b && are_same ts us) ≡ false
  by true e = e
  by false e = refl

-- what isn't two terms under a symbol is told whole
pub parts_whole : (ds : List Draw) (f : List ℕ) (ts : List Tree) → (length ts ≡ 2 → ⊥) → parts_told ds (apply f (trees_of ts)) ≡ term_told ds (apply f (trees_of ts)) ∷ []
parts_whole ds f [] h = refl
parts_whole ds f (t ∷ []) h = refl
parts_whole ds f (t ∷ u ∷ []) h = absurd (h refl)
parts_whole ds f (t ∷ u ∷ v ∷ ts) h = refl

-- the nodes of an item and of those behind it
pub nodes_next : (ts : List Tree) (k : ℕ) (t : Tree) → slice_get ts k ≡ Some t → trees_count (trees_of (drop k ts)) ≡ node_count t + trees_count (trees_of (drop (k + 1) ts))
nodes_next ts k t h = ap (λ us. trees_count (trees_of us)) (drop_got ts k t h)

-- behind the last there is none
pub nodes_end : (ts : List Tree) → trees_count (trees_of (drop (length ts) ts)) ≡ 0
nodes_end [] = refl
nodes_end (t ∷ ts) = nodes_end ts

-- an item, and those behind it
pub few_next : (ts : List Tree) (k : ℕ) (t : Tree) → slice_get ts k ≡ Some t → are_few (drop k ts) ≡ (is_few t && are_few (drop (k + 1) ts))
few_next ts k t h = ap are_few (drop_got ts k t h)

pub same_next : (ts us : List Tree) (k : ℕ) (t u : Tree) → slice_get ts k ≡ Some t → slice_get us k ≡ Some u → are_same (drop k ts) (drop k us) ≡ (same_tree t u && are_same (drop (k + 1) ts) (drop (k + 1) us))
same_next ts us k t u h j = λ i. are_same (drop_got ts k t h i) (drop_got us k u j i)

-- behind the last there is none
pub few_end : (ts : List Tree) → are_few (drop (length ts) ts) ≡ true
few_end [] = refl
few_end (t ∷ ts) = few_end ts

pub same_end : (ts us : List Tree) → length ts ≡ length us → are_same (drop (length ts) ts) (drop (length ts) us) ≡ true
same_end [] [] e = refl
same_end [] (u ∷ us) e = absurd (cc)
same_end (t ∷ ts) [] e = absurd (cc)
same_end (t ∷ ts) (u ∷ us) e = same_end ts us (cc)

pub ruleset loop_laws = (few_next, same_next, few_end, same_end)
