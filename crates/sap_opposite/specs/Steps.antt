-- Which line of a run of rules each line of a run of the process is opposite to that it is converted to, by what is written alone.
use Rattle.std.specs.List.{count_by, starts_with}
use Rattle.std.specs.Option.{unwrap_or}
use Rattle.std.specs.Prelude.{ℕ, ◌+◌, ◌||◌, Bool, true, false, not, List, [], ◌∷◌, ◌++◌, codes, if◌then◌else◌, nat_eq, slice_get}
use Rattle.std.specs.Str.{bytes_eq}
use Rattle.sap_runs.specs.declared.process_step.PStep.{PStep}
use Rattle.sap_runs.specs.declared.process_step.PStep.TheVariants as line
use Rattle.sap_runs.specs.declared.rule_step.RStep.{RStep}
use Rattle.sap_runs.specs.declared.rule_step.RStep.TheVariants.{Fresh, Learn, Own, Public, Apply, Know, Rule}

-- no line of the process is written for a rule of this name: it starts all or a replication, or a message comes under way or is
-- acknowledged
abbrev pub starts_or_waits : List ℕ → Bool
starts_or_waits name =
    bytes_eq name (codes "Init")
    || (starts_with nat_eq name (codes "RepStart_") || (starts_with nat_eq name (codes "OutMsg_") || starts_with nat_eq name (codes "OutAck_")))

-- for this line of rules one of the process is written that is no `know`
abbrev pub has_own : RStep → Bool
has_own (Fresh n) = false
has_own (Learn k) = false
has_own (Own k) = true
has_own (Public a) = true
has_own (Apply f ks) = true
has_own (Know k) = false
has_own (Rule name ks b) = not (starts_or_waits name)

-- by this one the adversary gives an entry
abbrev pub gives : RStep → Bool
gives (Know k) = true
gives other = false

-- the line of the process shows an entry that was given
abbrev pub is_know : PStep → Bool
is_know (line.Know e) = true
is_know other = false

abbrev pub is_no_know : PStep → Bool
is_no_know step = not (is_know step)

-- or a thread takes it: behind either it isn't waiting any more
abbrev pub ends_wait : PStep → Bool
ends_wait (line.Know e) = true
ends_wait (line.In t e) = true
ends_wait (line.Send t e) = true
ends_wait other = false

-- the numbers of those of these lines of rules of which this is so, where the first has this number
abbrev pub numbers_where : (RStep → Bool) → ℕ → List RStep → List ℕ
numbers_where p n [] = []
numbers_where p n (step ∷ steps) = if p step then n ∷ numbers_where p (n + 1) steps else numbers_where p (n + 1) steps

-- Of the lines of rules, numbered from 1, the one to which this line of the process is opposite, behind these before it. A `know` has the
-- one that gave its entry: entries are shown or taken in the order in which they are given, so it is the next behind as many as were
-- shown or taken. Each other line has the next that has one of its own. 0 where there is none.
abbrev pub opposite_step : List RStep → List PStep → PStep → ℕ
opposite_step run before step =
    if is_know step then unwrap_or (slice_get (numbers_where gives 1 run) (count_by ends_wait before)) 0
    else unwrap_or (slice_get (numbers_where has_own 1 run) (count_by is_no_know before)) 0

-- for each of these lines, behind those before them
abbrev pub steps_behind : List RStep → List PStep → List PStep → List ℕ
steps_behind run before [] = []
steps_behind run before (step ∷ lines) = opposite_step run before step ∷ steps_behind run (before ++ step ∷ []) lines

-- for each line of the process
abbrev pub opposite_steps : List RStep → List PStep → List ℕ
opposite_steps run lines = steps_behind run [] lines
