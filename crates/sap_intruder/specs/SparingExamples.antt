-- Lines that fill the step `know 'a'` and have no idle line among them, and lines that have one, by hand.
use Rattle.std.specs.Prelude.{ℕ, List, [], ◌∷◌, codes}
use Rattle.sap_terms.specs.Trace.{Trace}
use Rattle.sap_terms.specs.Tree.{Tree}
use Rattle.sap_process.specs.Configuration.{Config, initial}
use Rattle.sap_process.specs.Proc.{nil}
use Rattle.sap_process.specs.StepExamples.{a, b}
use Rattle.sap_runs.specs.Limits.{HasFewNodes}
use Rattle.sap_runs.specs.Marks.{Mark}
use Rattle.sap_runs.specs.declared.process_step.PStep.{PStep}
use Rattle.sap_runs.specs.declared.process_step.PStep.TheVariants as line
use Rattle.sap_runs.specs.declared.short_step.SStep.{SStep}
use Rattle.sap_intruder.specs.FilledRuns.{IsFilledRun, IsSparingRun}
use Rattle.sap_intruder.specs.ShortExamples.{bare, know_a, know_a_lines, know_a_trace}

-- `pub 'b'`, `pub 'a'` and `know 1`: 'b' stands in no entry, and not in 'a'
abbrev pub idle_lines : List PStep
idle_lines = line.Public (codes "b") ∷ line.Public (codes "a") ∷ line.Know 1 ∷ []

-- `pub 'a'`, `pub 'a'` and `know 1`: the second gives an entry
abbrev pub repeated_lines : List PStep
repeated_lines = line.Public (codes "a") ∷ line.Public (codes "a") ∷ line.Know 1 ∷ []

-- of a process that is nothing these lines fill these steps without an idle line, wherever they lead
abbrev pub AreSparing : List SStep → List PStep → Type 0
AreSparing ss lines =
    (c : Config) × (es : List Tree) × (tr : Trace) × (marks : List Mark)
    × IsSparingRun bare nil ss lines c es tr marks

pub record SparingByHand : Type 0 where
  pub sparing : IsSparingRun bare nil know_a know_a_lines (initial nil) (a ∷ []) know_a_trace []
  -- what is idle fills the short run nevertheless
  pub filled : IsFilledRun bare HasFewNodes nil know_a idle_lines (initial nil) (b ∷ a ∷ [])
      know_a_trace []
  pub idle : ¬ AreSparing know_a idle_lines
  pub repeated : ¬ AreSparing know_a repeated_lines
  -- a line before no step, whatever its name: with this name its text would be three lines
  pub alone : ¬ AreSparing [] (line.Public (codes "b'\nknow 0\npub 'c") ∷ [])
