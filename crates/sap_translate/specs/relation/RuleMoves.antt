-- What a step of rules chooses, by its case, and steps one after another.
use Rattle.std.specs.Prelude.{◌≡◌, ℕ, List, [], ◌∷◌}
use Rattle.sap_terms.specs.Choice.{Choice}
use Rattle.sap_terms.specs.Signature.{Sig}
use Rattle.sap_terms.specs.Trace.{Trace}
use Rattle.sap_terms.specs.Tree.{Tree}
use Rattle.sap_terms.specs.declared.fact.Fact.{Fact}
use Rattle.sap_rule.specs.RuleSteps.{RuleState, RuleStep}
use Rattle.sap_rule.specs.declared.rule.Rule.{Rule}

-- the case of a step with the names, numbers of facts, terms, rule and choice that it chooses; the state says the rest
pub data RuleMove : Type 0 where
  makes_name : (name : ℕ) → RuleMove
  learns : (fact : ℕ) (t : Tree) → RuleMove
  owns : (fact name : ℕ) → RuleMove
  knows_public : (name : List ℕ) → RuleMove
  applies : (symbol : List ℕ) (terms : List Tree) (t : Tree) → RuleMove
  gives : (t : Tree) → RuleMove
  uses : (rule : Rule) (taken : List ℕ) (σ : Choice) → RuleMove

-- what this step chooses
abbrev pub rule_move : {g : Sig} {rules : List Rule} {s z : RuleState} {acts : List Fact} → RuleStep g rules s acts z → RuleMove
rule_move (RuleStep.makes_name n u) = makes_name n
rule_move (RuleStep.learns k t h) = learns k t
rule_move (RuleStep.owns k n h) = owns k n
rule_move (RuleStep.knows_public a) = knows_public a
rule_move (RuleStep.applies f ts t p a all n) = applies f ts t
rule_move (RuleStep.gives t m) = gives t
rule_move (RuleStep.uses r ks σ left acts right m h u) = uses r ks σ

-- a step from the first state to the second shows this, and chooses this
pub record IsRuleMove (g : Sig) (rules : List Rule) (s : RuleState) (move : RuleMove) (acts : List Fact) (z : RuleState) : Type 0 where
  pub step : RuleStep g rules s acts z
  pub chooses : rule_move step ≡ move

-- steps that choose this, one after another, lead from the first state to the second and show this, time by time
pub data RuleMoves (g : Sig) (rules : List Rule) : RuleState → List RuleMove → Trace → RuleState → Type 0 where
  stays : {s : RuleState} → RuleMoves g rules s [] [] s
  further : {s y z : RuleState} {move : RuleMove} {acts : List Fact} {moves : List RuleMove} {full : Trace}
      → IsRuleMove g rules s move acts y → RuleMoves g rules y moves full z → RuleMoves g rules s (move ∷ moves) (acts ∷ full) z
