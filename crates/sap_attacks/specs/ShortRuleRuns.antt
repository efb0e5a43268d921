-- Short runs of rules.
use Rattle.std.specs.Prelude.{◌≡◌, ℕ, ◌+◌, List, [], ◌∷◌, ◌++◌, length}
use Rattle.sap_terms.specs.Signature.{Sig}
use Rattle.sap_terms.specs.Tree.{Tree}
use Rattle.sap_process.specs.Proc.{Proc}
use Rattle.sap_restrict.specs.ReservedFacts.{init_fact}
use Rattle.sap_runs.specs.Limits.{HasFewNodes}
use Rattle.sap_templates.specs.Templates.{init_rule}
use Rattle.sap_attacks.specs.RuleRefusals.{IsShortRuleRefused}
use Rattle.sap_attacks.specs.ShortRuleLines.{IsShortRuleLine}
use Rattle.sap_attacks.specs.ShortRuleStates.{Adds, ShortState}
use Rattle.sap_attacks.specs.SilentUses.{init_use}
use Rattle.sap_attacks.specs.declared.rule_fill_fault.RuleFillFault.{RuleFillFault}
use Rattle.sap_attacks.specs.declared.short_rule_step.ShortRuleStep.{ShortRuleStep}

-- nothing stands, and the rule that starts the run was used, which no line has named
abbrev pub unstarted : ShortState
unstarted = record { facts = []; known = []; made = []; unnamed = init_use ∷ []; shown = [] }

-- a short run begins behind that use: it showed that the run starts, and what it added has settled
abbrev pub Begins : Sig → (Tree → Type 0) → Proc → ShortState → Type 0
Begins g W p z = Adds g W p unstarted init_rule.right ((init_fact ∷ []) ∷ []) z

-- each of these lines in turn is possible, and they lead from the first state to the last
pub data LeadOn (g : Sig) (W : Tree → Type 0) (p : Proc) : ShortState → List ShortRuleStep → ShortState → Type 0 where
  ends : {s : ShortState} → LeadOn g W p s [] s
  further : {s z : ShortState} {l : ShortRuleStep} {ls : List ShortRuleStep} (y : ShortState) → IsShortRuleLine g W p s l y
      → LeadOn g W p y ls z → LeadOn g W p s (l ∷ ls) z

-- the short run of rules is legal, and leads to this state
pub record IsLegalShortRuleRun (g : Sig) (W : Tree → Type 0) (p : Proc) (run : List ShortRuleStep) (z : ShortState) : Type 0 where
  pub start : ShortState
  pub begins : Begins g W p start
  pub lines : LeadOn g W p start run z

-- those before the line with this number, from 1, are a legal short run of rules within the limit, and that one is refused for this cause
pub record IsFirstRefusedRuleLine (g : Sig) (p : Proc) (run : List ShortRuleStep) (number : ℕ) (fault : RuleFillFault) : Type 0 where
  pub before : List ShortRuleStep
  pub line : ShortRuleStep
  pub behind : List ShortRuleStep
  pub cut : run ≡ before ++ line ∷ behind
  pub counts : number ≡ length before + 1
  pub state : ShortState
  pub legal : IsLegalShortRuleRun g HasFewNodes p before state
  pub refused : IsShortRuleRefused g HasFewNodes p state line fault
