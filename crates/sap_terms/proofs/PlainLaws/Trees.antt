-- What the functions on trees are over a list of terms.
use Rattle.std.proofs.Common.{◌≡◌, ℕ, zero, suc, ◌≤◌, List, [], ◌∷◌, map, sum_by, Some, refl, sym, ap, ◌∙◌, arith}
use Rattle.std.specs.Prelude.{slice_get}
use Rattle.std.proofs.lemmas.List.Recursion.{is_sum_by}
use Rattle.sap_terms.specs.Tree.{Tree, more, node_count, trees_of, trees_count}
use Rattle.sap_terms.specs.View.{tree, term, term-tree}
use Rattle.sap_terms.specs.Subst.{subst_tree, subst_trees}
use Rattle.sap_terms.specs.declared.term.Term.{Term}
use Rattle.sap_terms.specs.declared.binding.Binding.{Binding}
use Rattle.sap_terms.proofs.PlainLaws.Lists.{map_got}

pub trees_count-map : (ts : List Term) → trees_count (trees_of (map tree ts)) ≡ sum_by (λ t. node_count (tree t)) ts
trees_count-map ts = is_sum_by (λ xs. trees_count (trees_of (map tree xs))) (λ t. node_count (tree t)) refl (λ _ _. refl) ts

map-term : (ts : List Term) → map term (map tree ts) ≡ ts
map-term [] = refl
map-term (t ∷ ts) = λ i. term-tree t i ∷ map-term ts i

-- lists of terms with the same trees are the same
pub same_terms : (ts us : List Term) → map tree ts ≡ map tree us → ts ≡ us
same_terms ts us e = sym (map-term ts) ∙ ap (map term) e ∙ map-term us

-- a tree of a list has no more nodes than the list
pub item_le-trees_count : (ts : List Tree) (k : ℕ) (t : Tree) → slice_get ts k ≡ Some t → node_count t ≤ trees_count (trees_of ts)
item_le-trees_count [] k t h = cc
item_le-trees_count (u ∷ us) zero t h = let e : u ≡ t = cc in rw e (omega arith)
item_le-trees_count (u ∷ us) (suc k) t h = omega (arith, item_le-trees_count us k t h)

-- substitution in each tree of a list
pub subst_trees-trees_of : (b : List Binding) (ts : List Tree) → subst_trees b (trees_of ts) ≡ trees_of (map (subst_tree b) ts)
subst_trees-trees_of b [] = refl
subst_trees-trees_of b (t ∷ ts) = ap (more (subst_tree b t)) (subst_trees-trees_of b ts)

pub ruleset list_laws = (trees_count-map, item_le-trees_count, subst_trees-trees_of, map_got)
