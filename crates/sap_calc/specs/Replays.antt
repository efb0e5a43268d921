-- Lines that are done one after the other, and the written runs that they are.
use Rattle.std.specs.Prelude.{◌≡◌, List, [], ◌∷◌, ◌++◌}
use Rattle.sap_terms.specs.Signature.{Sig}
use Rattle.sap_terms.specs.Trace.{Trace, shown}
use Rattle.sap_terms.specs.declared.fact.Fact.{Fact}
use Rattle.sap_deduce.specs.Entries.{terms_of}
use Rattle.sap_process.specs.Configuration.{initial}
use Rattle.sap_process.specs.Proc.{Proc}
use Rattle.sap_runs.specs.Limits.{HasFewNodes}
use Rattle.sap_runs.specs.Marks.{Mark}
use Rattle.sap_runs.specs.declared.process_step.PStep.{PStep}
use Rattle.sap_lines.specs.Runs.{IsLegalProcessRun}
use Rattle.sap_calc.specs.Running.{Running, configuration, IsDone}

-- These lines in turn lead from the one to the other; the labels that aren't empty are this trace.
pub data AreDone (r : Running) : List PStep → Running → Trace → Type 0 where
  none_yet : AreDone r [] r []
  one_more : {lines : List PStep} {y z : Running} {tr : Trace} (step : PStep) (label : List Fact)
      → AreDone r lines y tr → IsDone y z step label → AreDone r (lines ++ step ∷ []) z (tr ++ shown label)

-- they are a legal run of the process within the limit, over this signature
pub record IsReplayed (g : Sig) (p : Proc) (lines : List PStep) (z : Running) (tr : Trace) : Type 0 where
  pub marks : List Mark
  pub run : IsLegalProcessRun g HasFewNodes p lines (configuration z) (terms_of z.known) tr marks
  pub sig : z.sig ≡ g

-- from where the process runs and nothing else is there, lines that are done in turn are such a run
abbrev pub DoneLinesAreLegal : Type 0
DoneLinesAreLegal =
    (p : Proc) (r z : Running) (lines : List PStep) (tr : Trace) → r.known ≡ [] → configuration r ≡ initial p → AreDone r lines z tr → IsReplayed r.sig p lines z tr
