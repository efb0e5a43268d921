-- What stands for variables, by numbers.
use Rattle.std.specs.Prelude.{◌<◌, ◌≤◌, ℕ, List, [], ◌∷◌, length, if◌then◌else◌, map, All}
use Rattle.std.specs.Str.{bytes_eq}
use Rattle.sap_terms.specs.Choice.{Choice}
use Rattle.sap_terms.specs.Equations.{Equations}
use Rattle.sap_terms.specs.Normal.{IsNormal}
use Rattle.sap_terms.specs.Tree.{Tree, variable, node_count}
use Rattle.sap_terms.specs.View.{term}
use Rattle.sap_terms.specs.declared.binding.Binding.{Binding}
use Rattle.sap_share.specs.Shared.{tree_at}
use Rattle.sap_share.specs.declared.env.Bound.{Bound}

-- what the variables stand for: the tree of the first number bound to the name, and the variable itself where there is none
abbrev pub given : List Tree → List Bound → Choice
given ts [] v = variable v
given ts (e ∷ es) v = if bytes_eq e.var.name v.name then tree_at ts e.id else given ts es v

-- the number is given, and its tree is normal and has at most so many nodes
pub record IsSmallForm (e : Equations) (most : ℕ) (ts : List Tree) (k : ℕ) : Type 0 where
  pub below : k < length ts
  pub normal : IsNormal e (tree_at ts k)
  pub within : node_count (tree_at ts k) ≤ most

-- so it is with all that is bound
abbrev pub AreSmallForms : Equations → ℕ → List Tree → List Bound → Type 0
AreSmallForms e most ts env = All (λ (b : Bound). IsSmallForm e most ts b.id) env

-- the numbers that are bound are below the count
abbrev pub AreBound : ℕ → List Bound → Type 0
AreBound count env = All (λ (b : Bound). b.id < count) env

-- the variables bound to the numbers' trees
abbrev pub bindings_of : List Tree → List Bound → List Binding
bindings_of ts env = map (λ (b : Bound). record { var = b.var; term = term (tree_at ts b.id) }) env
