-- What a run of rules opposite to a written run of a process is.
use Rattle.std.specs.Prelude.{ℕ, ◌≡◌, ◌≤◌, ◌+◌, ◌*◌, List, [], ◌∷◌, length}
use Rattle.sap_terms.specs.Signature.{Sig}
use Rattle.sap_terms.specs.Trace.{Trace}
use Rattle.sap_terms.specs.Tree.{Tree}
use Rattle.sap_formula.specs.Hide.{hide}
use Rattle.sap_process.specs.Configuration.{Config}
use Rattle.sap_process.specs.Proc.{Proc}
use Rattle.sap_restrict.specs.Standard.{IsAdmitted}
use Rattle.sap_rule.specs.RuleSteps.{RuleState}
use Rattle.sap_runs.specs.Limits.{HasFewNodes}
use Rattle.sap_runs.specs.Marks.{Mark}
use Rattle.sap_runs.specs.declared.process_step.PStep.{PStep}
use Rattle.sap_runs.specs.declared.rule_step.RStep.{RStep}
use Rattle.sap_lines.specs.Runs.{IsLegalProcessRun}
use Rattle.sap_steps.specs.Marks.{marks}
use Rattle.sap_steps.specs.Runs.{IsLegalRun}
use Rattle.sap_translate.specs.LineCounts.{back_count}
use Rattle.sap_templates.specs.Templates.{rules_of}
use Rattle.sap_forward.specs.Counted.{rule_count}
use Rattle.sap_rule_lines.specs.Least.{names_drawn, AreLeast}
use Rattle.sap_rule_lines.specs.RuleLines.{init_line}
use Rattle.sap_forward.specs.LinesFor.{AreRuleLinesForAll}

-- the first line starts the rules, and behind it stand those for each line of the process in turn
pub record RuleLinesStandInTurn (lines : List PStep) (rule_lines : List RStep) : Type 0 where
  pub rest : List RStep
  pub given : List ℕ
  pub starts : rule_lines ≡ init_line ∷ rest
  pub each : AreRuleLinesForAll lines rest given
  -- the names that locks and tags get in turn are the least that no line of the process draws, in ascending order
  pub least : AreLeast (names_drawn lines) given

-- there are no lines where the process has none, and elsewhere they stand in turn
abbrev pub StandOpposite : List PStep → List RStep → Type 0
StandOpposite [] rule_lines = rule_lines ≡ []
StandOpposite (line ∷ lines) rule_lines = RuleLinesStandInTurn (line ∷ lines) rule_lines

-- These lines of rules are opposite to the lines of the process, which leave the adversary with these entries and have this trace
-- and these marks.
pub record IsOppositeRuleRun (g : Sig) (start : Proc) (lines : List PStep) (es : List Tree) (tr : Trace)
    (ms : List Mark) (rule_lines : List RStep) : Type 0 where
  pub state : RuleState
  pub full : Trace
  -- they are legal within the limit, and their full trace is admitted
  pub legal : IsLegalRun g (rules_of start) HasFewNodes rule_lines state full
  pub admitted : IsAdmitted g full
  -- they show the same, have the same marks, and leave the adversary with the same
  pub shows : hide full ≡ tr
  pub marked : marks full ≡ ms
  pub entries : state.known ≡ es
  -- they stand in turn, and are at most four for each and one that starts the rules
  pub turns : StandOpposite lines rule_lines
  pub short : length rule_lines ≤ 4 * length lines + 1

-- each legal run of the process has lines opposite, exactly so many, and as many lines as there are stand opposite to these
abbrev pub HasOppositeRuleRuns : Sig → Proc → Type 0
HasOppositeRuleRuns g start =
    (lines : List PStep) (c : Config) (es : List Tree) (tr : Trace) (ms : List Mark)
    → IsLegalProcessRun g HasFewNodes start lines c es tr ms
    → (rule_lines : List RStep) × IsOppositeRuleRun g start lines es tr ms rule_lines
    × (length rule_lines ≡ rule_count lines) × (back_count rule_lines ≡ length lines)
