-- Which short run a text is, and why it is none.
use Rattle.std.specs.Prelude.{ℕ, codes, List, Result}
use Rattle.sap_runs.specs.declared.limits.TheConstants.{MOST_SHORT_STEPS}
use Rattle.sap_runs.specs.declared.short_step.SStep.{SStep}
use Rattle.sap_run_lines.specs.ShortLines.{IsShortStepLine}
use Rattle.sap_run_texts.specs.RunTexts.{IsText}
use Rattle.sap_run_texts.specs.declared.run_fault.RunFault.{RunFault}

-- the head of a short run
abbrev pub short_head : List ℕ
short_head = codes "short-run"

-- what a text is as a short run, of at most 500 steps
abbrev pub IsShortRunText : List ℕ → Result (List SStep) RunFault → Type 0
IsShortRunText = IsText short_head IsShortStepLine MOST_SHORT_STEPS
