-- The place that a rule of a process is of.
use Rattle.std.specs.Prelude.{◌≡◌, ℕ, List, Some, Contains}
use Rattle.sap_terms.specs.declared.var.Var.{Var}
use Rattle.sap_process.specs.Places.{place}
use Rattle.sap_process.specs.Proc.{Proc}
use Rattle.sap_rule.specs.declared.rule.Rule.{Rule}
use Rattle.sap_templates.specs.Places.{root, scoped_place_at}
use Rattle.sap_templates.specs.Templates.{own_rules}

-- the rule is one of the place that this path leads to, where these variables are in scope
pub record IsOfPlace (p : Proc) (r : Rule) : Type 0 where
  pub path : List ℕ
  pub scope : List Var
  pub body : Proc
  pub stands : scoped_place_at (root p) path ≡ Some (place path scope body)
  pub own : Contains (own_rules path scope body) r
