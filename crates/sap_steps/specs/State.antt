-- A state of rules over a signature.
use Rattle.std.specs.Prelude.{List}
use Rattle.sap_terms.specs.Signature.{Sig}
use Rattle.sap_rule.specs.RuleSteps.{RuleState}
use Rattle.sap_rule.specs.declared.rule.Rule.{Rule}

-- the signature, the rules, and where their run stands
pub record State : Type 0 where
  pub sig : Sig
  pub rules : List Rule
  pub at : RuleState
