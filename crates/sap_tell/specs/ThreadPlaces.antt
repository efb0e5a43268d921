-- What a thread's path says of it: it runs what stands there, with some variables replaced.
use Rattle.std.specs.Prelude.{◌≡◌, ◌⊎◌, ℕ, List, Some}
use Rattle.sap_terms.specs.Choice.{Choice}
use Rattle.sap_terms.specs.Ground.{IsGround}
use Rattle.sap_terms.specs.Tree.{variable}
use Rattle.sap_terms.specs.declared.var.Var.{Var}
use Rattle.sap_process.specs.Instance.{process_instance}
use Rattle.sap_process.specs.Places.{Descent, Place, place_at}
use Rattle.sap_process.specs.Proc.{Proc}

-- places to which nothing is handed down
abbrev pub nothing_down : Descent (Unit {0})
nothing_down u p digit = tt

-- each variable stands for a term without variables, or for itself
abbrev pub IsPartlyGround : Choice → Type 0
IsPartlyGround σ = (v : Var) → IsGround (σ v) ⊎ (σ v ≡ variable v)

-- the second process is what stands at the path in the first, with some variables replaced by terms without variables
pub record IsInstanceAt (p : Proc) (path : List ℕ) (q : Proc) : Type 0 where
  pub place : Place (Unit {0})
  pub there : place_at nothing_down tt p path ≡ Some place
  pub choice : Choice
  pub replaces : IsPartlyGround choice
  pub is : q ≡ process_instance choice place.body
