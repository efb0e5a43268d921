-- The lines of a process that write what is pending.
use Rattle.std.specs.Prelude.{ℕ, List, [], ◌∷◌, Option, Some, None}
use Rattle.sap_runs.specs.declared.process_step.PStep.{PStep}
use Rattle.sap_runs.specs.declared.process_step.PStep.TheVariants as line

-- the lines that write what is pending: an entry that a line gave, and that no input has taken
abbrev pub pending_lines : Option ℕ → List PStep
pending_lines None = []
pending_lines (Some e) = line.Know e ∷ []
