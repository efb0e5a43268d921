-- What a walk over a pattern and a tree says of bindings, so that walks can follow one another.
use Rattle.std.specs.Prelude.{◌≡◌, List, ◌++◌}
use Rattle.sap_terms.specs.Choice.{Choice, IsSorted, instance, instances}
use Rattle.sap_terms.specs.Subst.{subst_tree, subst_trees}
use Rattle.sap_terms.specs.Tree.{Tree, Trees}
use Rattle.sap_terms.specs.Variables.{tree_vars, trees_vars}
use Rattle.sap_terms.specs.declared.binding.Binding.{Binding}
use Rattle.sap_terms.specs.declared.var.Var.{Var}
use Rattle.sap_rewrite.specs.Match.{Extends, Agrees, HaveOneSort, bound_vars}

-- c extends b on the pattern's variables, and with more bindings behind it turns the pattern into the tree; what extends b
-- on these and more variables and does so extends c on the others, and so it is with each sorted choice
pub record Finds (p t : Tree) (b c : List Binding) : Type 0 where
  pub extends : Extends b (tree_vars p) c
  pub turns : (d : List Binding) → subst_tree (c ++ d) p ≡ t
  pub only : (ws : List Var) (d : List Binding) → Extends b (tree_vars p ++ ws) d → subst_tree d p ≡ t → Extends c ws d
  pub of_all : (σ : Choice) → IsSorted σ → Agrees b σ → instance σ p ≡ t → Agrees c σ

-- nothing that extends b on the pattern's and more variables turns the pattern into the tree, and no sorted choice does, if
-- no name has two sorts
pub record Fails (p t : Tree) (b : List Binding) : Type 0 where
  pub none : (ws : List Var) (d : List Binding) → Extends b (tree_vars p ++ ws) d → subst_tree d p ≡ t → ⊥
  pub of_none : HaveOneSort (bound_vars b ++ tree_vars p) → (σ : Choice) → IsSorted σ → Agrees b σ → instance σ p ≡ t → ⊥

-- the same of patterns and trees side by side
pub record FindsAll (ps ts : Trees) (b c : List Binding) : Type 0 where
  pub extends : Extends b (trees_vars ps) c
  pub turns : (d : List Binding) → subst_trees (c ++ d) ps ≡ ts
  pub only : (ws : List Var) (d : List Binding) → Extends b (trees_vars ps ++ ws) d → subst_trees d ps ≡ ts → Extends c ws d
  pub of_all : (σ : Choice) → IsSorted σ → Agrees b σ → instances σ ps ≡ ts → Agrees c σ

pub record FailsAll (ps ts : Trees) (b : List Binding) : Type 0 where
  pub none : (ws : List Var) (d : List Binding) → Extends b (trees_vars ps ++ ws) d → subst_trees d ps ≡ ts → ⊥
  pub of_none : HaveOneSort (bound_vars b ++ trees_vars ps) → (σ : Choice) → IsSorted σ → Agrees b σ → instances σ ps ≡ ts → ⊥
