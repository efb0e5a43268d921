-- Which steps stand in a short run.
use Rattle.sap_terms.specs.Ground.{IsGround}
use Rattle.sap_terms.specs.View.{tree}
use Rattle.sap_runs.specs.Limits.{HasFewNodes}
use Rattle.sap_runs.specs.declared.process_step.PStep.{PStep}
use Rattle.sap_runs.specs.declared.process_step.PStep.TheVariants as step
use Rattle.sap_runs.specs.declared.short_step.SStep.{SStep}
use Rattle.sap_runs.specs.declared.short_step.SStep.TheVariants as short

-- a short run has the line as it is: the line doesn't write down a public name, apply a symbol, or cite an entry
abbrev pub MayStand : PStep → Type 0
MayStand (step.Public a) = ⊥
MayStand (step.Apply f entries) = ⊥
MayStand (step.In t k) = ⊥
MayStand (step.Send t k) = ⊥
MayStand (step.Know k) = ⊥
MayStand _ = Unit {0}

-- the step may be one of a short run: a line that it has as it is may stand there, and its term is ground and has at most 256 nodes
abbrev pub IsShortStep : SStep → Type 0
IsShortStep (short.Act line) = MayStand line
IsShortStep (short.In t term) = IsGround (tree term) × HasFewNodes (tree term)
IsShortStep (short.Send t) = Unit {0}
IsShortStep (short.Know term) = IsGround (tree term) × HasFewNodes (tree term)
