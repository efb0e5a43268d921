-- What the conversion of a written run of a process answers.
use Rattle.std.specs.Prelude.{◌≡◌, List, length}
use Rattle.sap_terms.specs.Signature.{Sig}
use Rattle.sap_terms.specs.Trace.{Trace}
use Rattle.sap_terms.specs.Tree.{Tree}
use Rattle.sap_process.specs.Configuration.{Config}
use Rattle.sap_process.specs.Proc.{Proc}
use Rattle.sap_runs.specs.Limits.{HasFewNodes}
use Rattle.sap_runs.specs.Marks.{Mark}
use Rattle.sap_runs.specs.declared.process_step.PStep.{PStep}
use Rattle.sap_runs.specs.declared.rule_step.RStep.{RStep}
use Rattle.sap_lines.specs.Runs.{IsLegalProcessRun}
use Rattle.sap_translate.specs.LineCounts.{back_count}
use Rattle.sap_forward.specs.Counted.{rule_count}
use Rattle.sap_forward.specs.Opposite.{IsOppositeRuleRun}
use Rattle.sap_forward.specs.RuleLinesPass.{BringNoName}

-- the lines are a legal run of the process within the limit, with this trace
pub record IsShownByLines (g : Sig) (start : Proc) (lines : List PStep) (tr : Trace) : Type 0 where
  pub config : Config
  pub entries : List Tree
  pub marks : List Mark
  pub legal : IsLegalProcessRun g HasFewNodes start lines config entries tr marks

-- the lines are a legal run of the process within the limit, and these of the rules are opposite to them
pub record IsConvertedToRules (g : Sig) (start : Proc) (lines : List PStep)
    (rule_lines : List RStep) : Type 0 where
  pub config : Config
  pub entries : List Tree
  pub trace : Trace
  pub marks : List Mark
  pub legal : IsLegalProcessRun g HasFewNodes start lines config entries trace marks
  pub opposite : IsOppositeRuleRun g start lines entries trace marks rule_lines
  -- there are exactly so many, and as many lines as these stand opposite to them
  pub counted : length rule_lines ≡ rule_count lines
  pub back : back_count rule_lines ≡ length lines
  -- no name in what they write down and bind comes from elsewhere than the process and its lines
  pub names : BringNoName start lines rule_lines
