-- Rules that can be run: what is asked of their facts and variables.
use Rattle.std.specs.Prelude.{◌≡◌, ◌⊎◌, ℕ, false, List, length, All, codes}
use Rattle.sap_terms.specs.Message.{IsFactOver}
use Rattle.sap_terms.specs.Signature.{Sig}
use Rattle.sap_terms.specs.declared.fact.Fact.{Fact}
use Rattle.sap_rewrite.specs.Match.{HaveOneSort}
use Rattle.sap_rule.specs.Variables.{rule_vars}
use Rattle.sap_rule.specs.declared.rule.Rule.{Rule}

-- the fact is linear and has one argument
pub record IsSingle (f : Fact) : Type 0 where
  pub linear : f.persistent ≡ false
  pub one : length f.args ≡ 1

-- what the adversary knows, which rules show nowhere
abbrev pub IsKnowledge : List ℕ → Type 0
IsKnowledge n = (n ≡ codes "K") ⊎ (n ≡ codes "KU") ⊎ (n ≡ codes "KD")

-- no knowledge and no Out stands on a left side; Fr and In stand there, linear and with one argument
pub record IsLeftFact (f : Fact) : Type 0 where
  pub no_knowledge : ¬ IsKnowledge f.name
  pub no_out : ¬ (f.name ≡ codes "Out")
  pub fr : f.name ≡ codes "Fr" → IsSingle f
  pub in_ : f.name ≡ codes "In" → IsSingle f

-- Out stands on right sides, linear and with one argument; knowledge, Fr and In don't
pub record IsRightFact (f : Fact) : Type 0 where
  pub no_knowledge : ¬ IsKnowledge f.name
  pub no_fr : ¬ (f.name ≡ codes "Fr")
  pub no_in : ¬ (f.name ≡ codes "In")
  pub out : f.name ≡ codes "Out" → IsSingle f

-- none of these is shown
pub record IsActFact (f : Fact) : Type 0 where
  pub no_knowledge : ¬ IsKnowledge f.name
  pub no_fr : ¬ (f.name ≡ codes "Fr")
  pub no_in : ¬ (f.name ≡ codes "In")
  pub no_out : ¬ (f.name ≡ codes "Out")

-- each symbol of the rule is held with its arity
pub record IsRuleOver (g : Sig) (r : Rule) : Type 0 where
  pub left : All (IsFactOver g) r.left
  pub acts : All (IsFactOver g) r.acts
  pub right : All (IsFactOver g) r.right

-- each fact stands where it may, and no name of a variable stands with two sorts
pub record IsWellShaped (r : Rule) : Type 0 where
  pub left : All IsLeftFact r.left
  pub acts : All IsActFact r.acts
  pub right : All IsRightFact r.right
  pub sorts : HaveOneSort (rule_vars r)

-- the rule can be run: it is over the signature, and well-shaped
pub record IsWellMade (g : Sig) (r : Rule) : Type 0 where
  pub over : IsRuleOver g r
  pub shape : IsWellShaped r
