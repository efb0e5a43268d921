-- Silent rules: those by which nothing happens but that control moves on.
use Rattle.std.specs.Prelude.{◌≡◌, ℕ, List, Option, Some, None}
use Rattle.sap_terms.specs.declared.var.Var.{Var}
use Rattle.sap_process.specs.Action.{out}
use Rattle.sap_process.specs.Places.{place}
use Rattle.sap_process.specs.Proc.{Proc, nil, parallel, replicated, act}
use Rattle.sap_rule.specs.declared.rule.Rule.{Rule}
use Rattle.sap_templates.specs.Places.{root, scoped_place_at}
use Rattle.sap_templates.specs.Templates.{nil_rule, out_rule, parallel_rule, rep_start_rule}

-- the rule by which control moves on from a silent place, where these variables are in scope: of `0`, of `|`, of an output that the
-- adversary is given, and of a replication the one that starts it; other places have none
abbrev pub silent_rule : List ℕ → List Var → Proc → Option Rule
silent_rule path v nil = Some (nil_rule path v)
silent_rule path v (parallel p q) = Some (parallel_rule path v)
silent_rule path v (replicated p) = Some (rep_start_rule path v)
silent_rule path v (act (out t) p) = Some (out_rule path v t)
silent_rule path v _ = None

-- it is that of a place of the process
pub record IsSilentRule (p : Proc) (r : Rule) : Type 0 where
  pub path : List ℕ
  pub scope : List Var
  pub body : Proc
  pub stands : scoped_place_at (root p) path ≡ Some (place path scope body)
  pub is : silent_rule path scope body ≡ Some r
