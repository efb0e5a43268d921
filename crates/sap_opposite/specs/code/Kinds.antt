-- Which lines of rules are counted, and which of them is told.
use Rattle.std.specs.Option.{unwrap_or}
use Rattle.std.specs.Prelude.{ℕ, Bool, List, if◌then◌else◌, slice_get}
use Rattle.sap_runs.specs.declared.process_step.PStep.{PStep}
use Rattle.sap_runs.specs.declared.rule_step.RStep.{RStep}
use Rattle.sap_opposite.specs.Steps.{gives, has_own, is_know}
use Rattle.sap_opposite.specs.declared.steps.Kind.{Kind}
use Rattle.sap_opposite.specs.declared.steps.Kind.TheVariants.{Own, Given}

-- a line of this kind
abbrev pub is_of : Kind → RStep → Bool
is_of Own step = has_own step
is_of Given step = gives step

-- the one of these numbers to which the line is opposite, behind so many lines of either kind
abbrev pub step_at : (own given : List ℕ) → (moved ended : ℕ) → PStep → ℕ
step_at own given moved ended step = if is_know step then unwrap_or (slice_get given ended) 0 else unwrap_or (slice_get own moved) 0
