-- Lines behind the head of a short run, taken one after another.
use Rattle.std.specs.Prelude.{◌≡◌, ◌≤◌, ℕ, List, ◌++◌, length}
use Rattle.sap_runs.specs.declared.limits.TheConstants.{MOST_SHORT_STEPS}
use Rattle.sap_runs.specs.declared.short_step.SStep.{SStep}
use Rattle.sap_run_lines.specs.ShortLines.{IsShortStepLine}
use Rattle.sap_run_texts.specs.RunTexts.{lines_text, AreStepLines}

-- the body is the lines of these steps, not more than may come, and these bytes behind them
pub record IsBehind (ss : List SStep) (rest body : List ℕ) : Type 0 where
  pub lines : List (List ℕ)
  pub whole : body ≡ lines_text lines ++ rest
  pub steps : AreStepLines IsShortStepLine ss lines
  pub within : length ss ≤ MOST_SHORT_STEPS
