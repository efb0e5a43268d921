-- What the fields of a reader hold.
use Rattle.std.specs.Prelude.{◌≡◌, ℕ, List, []}
use Rattle.sap_runs.specs.declared.process_step.PStep.{PStep}
use Rattle.sap_runs.specs.declared.rule_step.RStep.{RStep}
use Rattle.sap_run_texts.specs.declared.run_fault.RunFault.{RunFault}
use Rattle.sap_run_texts.specs.declared.phase.Phase.{Phase}
use Rattle.sap_run_texts.specs.declared.phase.Phase.TheVariants as phase
use Rattle.sap_run_texts.specs.RunReading.{Held, Reading, failed, faulty, in_head, in_process, in_rules}

-- a phase, the bytes of the line that hasn't ended, and the steps of both kinds
abbrev pub held_of : Phase → List ℕ → List PStep → List RStep → Held
held_of phase.Failed line ps rs = failed
held_of (phase.Faulty e) line ps rs = faulty e
held_of phase.Head line ps rs = in_head line
held_of phase.Process line ps rs = in_process ps line
held_of phase.Rules line ps rs = in_rules rs line

-- the head has ended
abbrev pub IsPastHead : Phase → Type 0
IsPastHead phase.Head = ⊥
IsPastHead _ = Unit {0}

-- in the head there are no steps yet
abbrev pub EmptyAtHead : Phase → List PStep → List RStep → Type 0
EmptyAtHead phase.Head ps rs = (ps ≡ []) × (rs ≡ [])
EmptyAtHead _ ps rs = Unit {0}

-- the text has a fault
abbrev pub IsFaulty : Reading → Type 0
IsFaulty r = (e : RunFault) × (r.held ≡ faulty e)
