-- What is bound by numbers, and what more is bound by a choice.
use Rattle.std.specs.Prelude.{◌≡◌, ℕ, List, [], ◌∷◌, ◌++◌, map}
use Rattle.sap_terms.specs.Choice.{Choice}
use Rattle.sap_terms.specs.Equations.{equations}
use Rattle.sap_terms.specs.Variables.{new_vars}
use Rattle.sap_terms.specs.declared.limits.TheConstants.{MOST_TERM_NODES}
use Rattle.sap_terms.specs.declared.var.Var.{Var}
use Rattle.sap_process.specs.Instance.{process_instance, without}
use Rattle.sap_process.specs.Proc.{Proc}
use Rattle.sap_process.specs.ProcessSteps.{with_choice, with_term}
use Rattle.sap_process.specs.Sites.{var_names}
use Rattle.sap_share.specs.Env.{given, AreSmallForms}
use Rattle.sap_share.specs.Shared.{Shared, tree_at}
use Rattle.sap_share.specs.declared.env.Bound.{Bound}

-- the names that are bound
abbrev pub names_of : List Bound → List (List ℕ)
names_of env = map (λ (b : Bound). b.var.name) env

-- Behind what was bound, names are bound that are new among those of these variables. Each name stands for a normal form of at
-- most 256 nodes, and what a process stands for is what the choice for the other variables makes of what it stood for.
pub record IsExtended (s : Shared) (env : List Bound) (σ : Choice) (vs ws : List Var) (new : List Bound) : Type 0 where
  pub names : names_of new ≡ names_of env ++ var_names (new_vars (names_of env) vs)
  pub small : AreSmallForms (equations s.sig) MOST_TERM_NODES s.trees new
  pub goes : (p : Proc) → process_instance (given s.trees new) p ≡ with_choice σ ws (process_instance (given s.trees env) p)

-- behind what was bound, this variable is bound to the term of the number
pub record IsBoundTo (s : Shared) (env : List Bound) (x : Var) (k : ℕ) (new : List Bound) : Type 0 where
  pub names : names_of new ≡ names_of env ++ x.name ∷ []
  pub small : AreSmallForms (equations s.sig) MOST_TERM_NODES s.trees new
  pub goes : (p : Proc) → process_instance (given s.trees new) p ≡ with_term x (tree_at s.trees k) (process_instance (without (given s.trees env) x) p)
