-- Matches of a pattern.
use Rattle.std.specs.Prelude.{◌≡◌, ℕ, true, List, [], ◌∷◌, ◌++◌, map, Contains}
use Rattle.sap_terms.specs.declared.var.Var.{Var}
use Rattle.sap_terms.specs.declared.binding.Binding.{Binding}
use Rattle.sap_terms.specs.Tree.{Tree}
use Rattle.sap_terms.specs.View.{tree}
use Rattle.sap_terms.specs.Choice.{Choice, fits_sort, IsSorted, instance}
use Rattle.sap_terms.specs.Subst.{subst_tree}
use Rattle.sap_terms.specs.Variables.{tree_vars, new_vars}

-- each variable is bound to a term that its sort allows
abbrev pub AllSorted : List Binding → Type 0
AllSorted [] = Unit {0}
AllSorted (e ∷ es) = (fits_sort e.var.sort (tree e.term) ≡ true) × AllSorted es

-- the names of the bound variables
abbrev pub names : List Binding → List (List ℕ)
names b = map (λ (e : Binding). e.var.name) b

-- c is b and then a term that its sort allows for each of these variables that b doesn't bind, in order of first
-- occurrence
pub record Extends (b : List Binding) (vs : List Var) (c : List Binding) : Type 0 where
  pub added : List Binding
  pub is : c ≡ b ++ added
  pub on : map (λ (e : Binding). e.var) added ≡ new_vars (names b) vs
  pub sorted : AllSorted added

-- c extends b on the pattern's variables, and turns the pattern p into the tree t
pub record IsMatch (p t : Tree) (b c : List Binding) : Type 0 where
  pub extends : Extends b (tree_vars p) c
  pub turns : subst_tree c p ≡ t

-- the substitution gives each bound variable the term that it is bound to
abbrev pub Agrees : List Binding → Choice → Type 0
Agrees [] σ = Unit {0}
Agrees (e ∷ es) σ = (σ e.var ≡ tree e.term) × Agrees es σ

-- the bound variables
abbrev pub bound_vars : List Binding → List Var
bound_vars b = map (λ (e : Binding). e.var) b

-- no name stands with two sorts
abbrev pub HaveOneSort : List Var → Type 0
HaveOneSort vs = (v w : Var) → Contains vs v → Contains vs w → v.name ≡ w.name → v ≡ w

-- a sorted substitution agrees with b and turns the pattern into the tree
pub record Turns (p t : Tree) (b : List Binding) (σ : Choice) : Type 0 where
  pub sorted : IsSorted σ
  pub agrees : Agrees b σ
  pub is : instance σ p ≡ t

-- c is the one match; and every sorted substitution that agrees with b and turns the pattern into the tree agrees with c,
-- if no name has two sorts
pub record IsOnlyMatch (p t : Tree) (b c : List Binding) : Type 0 where
  pub is_match : IsMatch p t b c
  pub only : (d : List Binding) → IsMatch p t b d → d ≡ c
  pub of_all : HaveOneSort (bound_vars b ++ tree_vars p) → (σ : Choice) → Turns p t b σ → Agrees c σ

-- there is no match, and no such substitution
pub record HasNoMatch (p t : Tree) (b : List Binding) : Type 0 where
  pub none : (c : List Binding) → IsMatch p t b c → ⊥
  pub of_none : HaveOneSort (bound_vars b ++ tree_vars p) → (σ : Choice) → Turns p t b σ → ⊥
