-- The steps with a first word and numbers alone behind it.
use Rattle.std.specs.Prelude.{ℕ, codes, if◌then◌else◌, List, Option, Some, None}
use Rattle.std.specs.Str.{bytes_eq}
use Rattle.sap_runs.specs.declared.process_step.PStep.{PStep}
use Rattle.sap_runs.specs.declared.process_step.PStep.TheVariants as step
use Rattle.sap_runs.specs.declared.rule_step.RStep.{RStep}
use Rattle.sap_runs.specs.declared.rule_step.RStep.TheVariants as rstep

-- the step of a process with this word and this number
abbrev pub process_one : List ℕ → ℕ → Option PStep
process_one x t =
    if bytes_eq x (codes "nil") then Some (step.Nil t)
    else if bytes_eq x (codes "par") then Some (step.Par t)
    else if bytes_eq x (codes "rep") then Some (step.Rep t)
    else if bytes_eq x (codes "out") then Some (step.Out t)
    else if bytes_eq x (codes "then") then Some (step.Then t)
    else if bytes_eq x (codes "else") then Some (step.Else t)
    else if bytes_eq x (codes "event") then Some (step.Event t)
    else if bytes_eq x (codes "insert") then Some (step.Insert t)
    else if bytes_eq x (codes "delete") then Some (step.Delete t)
    else if bytes_eq x (codes "found") then Some (step.Found t)
    else if bytes_eq x (codes "missing") then Some (step.Missing t)
    else if bytes_eq x (codes "lock") then Some (step.Lock t)
    else if bytes_eq x (codes "unlock") then Some (step.Unlock t)
    else if bytes_eq x (codes "know") then Some (step.Know t)
    else None

-- with these two numbers
abbrev pub process_two : List ℕ → ℕ → ℕ → Option PStep
process_two x a b =
    if bytes_eq x (codes "send") then Some (step.Send a b)
    else if bytes_eq x (codes "in") then Some (step.In a b)
    else if bytes_eq x (codes "sync") then Some (step.Sync a b)
    else None

-- the step of rules with this word and this number
abbrev pub rule_one : List ℕ → ℕ → Option RStep
rule_one x f =
    if bytes_eq x (codes "learn") then Some (rstep.Learn f)
    else if bytes_eq x (codes "own") then Some (rstep.Own f)
    else if bytes_eq x (codes "know") then Some (rstep.Know f)
    else None
