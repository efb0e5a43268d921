-- Rules made ready to be used, and looked up by their names.
use Rattle.std.specs.Prelude.{◌≡◌, ℕ, List, Option, map, All, IsTrue}
use Rattle.sap_terms.specs.Named.{first_named}
use Rattle.sap_terms.specs.Signature.{Sig}
use Rattle.sap_rule.specs.Variables.{open_variables}
use Rattle.sap_rule.specs.WellMade.{IsWellMade}
use Rattle.sap_rule.specs.declared.rule.Rule.{Rule}
use Rattle.sap_sides.specs.Messages.{HasNoDestructor}
use Rattle.sap_steps.specs.declared.prepared.Prepared.{Prepared}

-- the rule can be run, its open variables stand beside it, and no destructor stands in its left side if it is called plain
pub record IsReady (g : Sig) (p : Prepared) : Type 0 where
  pub well_made : IsWellMade g p.rule
  pub open_vars : p.open_vars ≡ open_variables g p.rule
  pub plain : IsTrue p.plain → All (HasNoDestructor g) p.rule.left

-- the rules themselves
abbrev pub rules_of : List Prepared → List Rule
rules_of ps = map (λ (p : Prepared). p.rule) ps

-- the first of this name
abbrev pub ready_named : List Prepared → List ℕ → Option Prepared
ready_named ps n = first_named (λ (p : Prepared). p.rule.name) ps n
