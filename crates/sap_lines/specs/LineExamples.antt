-- A small process and its lines, to see by hand which marks a run has, and in which order.
use Rattle.std.specs.Prelude.{List, [], ◌∷◌}
use Rattle.sap_process.specs.Action as action
use Rattle.sap_process.specs.Configuration.{Config}
use Rattle.sap_process.specs.Proc as whole
use Rattle.sap_process.specs.Proc.{Proc, act}
use Rattle.sap_process.specs.StepExamples.{a, alone, just, shown_fact}
use Rattle.sap_runs.specs.Inner.{locked}
use Rattle.sap_runs.specs.Marks.{Mark, inside, showing}
use Rattle.sap_runs.specs.declared.process_step.PStep.{PStep}
use Rattle.sap_runs.specs.declared.process_step.PStep.TheVariants as line
use Rattle.sap_terms.specs.Trace.{Trace}

-- event A('a'); 0
abbrev pub then_event : Proc
then_event = act (action.event (shown_fact a)) whole.nil

-- lock 'a'; event A('a'); 0
abbrev pub lock_event : Proc
lock_event = act (action.lock a 1) then_event

-- `lock 0` and `event 0`
abbrev pub lock_event_lines : List PStep
lock_event_lines = line.Lock 0 ∷ line.Event 0 ∷ []

-- where they lead, 'a' is held
abbrev pub lock_event_end : Config
lock_event_end = record (alone whole.nil) { held = just a }

-- what they show
abbrev pub lock_event_trace : Trace
lock_event_trace = (shown_fact a ∷ []) ∷ []

-- the lock, and then the event; and the other way round
abbrev pub lock_event_marks : List Mark
lock_event_marks = inside (locked a) ∷ showing (shown_fact a ∷ []) ∷ []

abbrev pub turned_marks : List Mark
turned_marks = showing (shown_fact a ∷ []) ∷ inside (locked a) ∷ []
