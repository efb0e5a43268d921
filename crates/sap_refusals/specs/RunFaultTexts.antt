-- Why a run is refused, in words.
use Rattle.std.specs.Prelude.{ℕ, codes, decimal, List, ◌++◌}
use Rattle.sap_lines.specs.declared.fault.PFault.{PFault}
use Rattle.sap_lines.specs.declared.fault.PFault.TheVariants as process
use Rattle.sap_restrict.specs.Restrictions.{restriction_name}
use Rattle.sap_restrict.specs.declared.which.Which.{Which}
use Rattle.sap_steps.specs.declared.fault.RFault.{RFault}
use Rattle.sap_steps.specs.declared.fault.RFault.TheVariants as rule
use Rattle.sap_json.specs.declared.json_fault.JsonFault.{JsonFault}
use Rattle.sap_json.specs.declared.json_fault.JsonFault.TheVariants as json
use Rattle.sap_outside.specs.declared.run_refusal.RunRefusal.{RunRefusal}
use Rattle.sap_outside.specs.declared.run_refusal.RunRefusal.TheVariants as refusal
use Rattle.sap_refusals.specs.Refusals.{between}

-- why bytes are no run, in words
abbrev pub run_refusal_text : RunRefusal → List ℕ
run_refusal_text refusal.TooLong = codes "longer than 16777216 bytes"
run_refusal_text refusal.BadHead = codes "wrong head"
run_refusal_text (refusal.BadLine line) =
    between (codes "line ") (decimal line) (codes " is not a step")
run_refusal_text (refusal.TooManySteps most) =
    between (codes "more than ") (decimal most) (codes " steps")

-- why bytes of JSON are no run, in words; that memory was wanting is no such cause, and refuses no run
abbrev pub json_fault_text : JsonFault → List ℕ
json_fault_text json.Mem = codes "out of memory"
json_fault_text json.NotJson = codes "not JSON"
json_fault_text json.NotRun = codes "not a run"
json_fault_text (json.BadStep step) =
    between (codes "step ") (decimal step) (codes " is not a step")
json_fault_text (json.TooManySteps most) =
    between (codes "more than ") (decimal most) (codes " steps")

-- what is wrong with the step of this number
abbrev pub at_step : ℕ → List ℕ → List ℕ
at_step number what = codes "step " ++ (decimal number ++ (codes ": " ++ what))

-- why a line of a process is refused; that memory was wanting is no such cause, and refuses no run
abbrev pub process_fault_text : PFault → List ℕ
process_fault_text process.Mem = codes "out of memory"
process_fault_text (process.NoThread t) = codes "no thread " ++ decimal t
process_fault_text (process.WrongForm t) =
    between (codes "thread ") (decimal t) (codes " has another form")
process_fault_text (process.NoEntry k) = codes "no entry " ++ decimal k
process_fault_text (process.UsedName n) = between (codes "name ") (decimal n) (codes " is used")
process_fault_text (process.NotPublic f) = between (codes "function ") f (codes " is not public")
process_fault_text (process.Arity f) = between (codes "function ") f (codes " has another arity")
process_fault_text process.FactCount = codes "wrong number of facts"
process_fault_text (process.FactMissing index) = codes "no fact at place " ++ decimal index
process_fault_text process.BadBinding = codes "bad binding"
process_fault_text process.NoMatch = codes "no match"
process_fault_text process.TermLarge = codes "term is too large"
process_fault_text process.Unequal = codes "the terms differ"
process_fault_text process.Equal = codes "the terms are equal"
process_fault_text process.Held = codes "the lock is held"
process_fault_text process.Unset = codes "the key is not set"
process_fault_text process.Set = codes "the key is set"

-- why a line of rules is refused; that memory was wanting is no such cause
abbrev pub rule_fault_text : RFault → List ℕ
rule_fault_text rule.Mem = codes "out of memory"
rule_fault_text rule.NoRule = codes "no such rule"
rule_fault_text rule.FactCount = codes "wrong number of facts"
rule_fault_text (rule.FactMissing index) = codes "no fact at place " ++ decimal index
rule_fault_text rule.BadBinding = codes "bad binding"
rule_fault_text rule.NoMatch = codes "no match"
rule_fault_text rule.TermLarge = codes "term is too large"
rule_fault_text rule.Unequal = codes "the terms differ"
rule_fault_text (rule.UsedName n) = between (codes "name ") (decimal n) (codes " is used")
rule_fault_text (rule.WrongFact f) = between (codes "fact ") (decimal f) (codes " cannot be used")
rule_fault_text (rule.NoEntry k) = codes "no entry " ++ decimal k
rule_fault_text (rule.NotPublic f) = between (codes "function ") f (codes " is not public")
rule_fault_text (rule.Arity f) = between (codes "function ") f (codes " has another arity")

-- which restriction a line makes false
abbrev pub broken_text : Which → List ℕ
broken_text which = codes "breaks " ++ restriction_name which

-- the line that says why
abbrev pub run_refused_line : List ℕ → List ℕ
run_refused_line why = codes "run refused: " ++ (why ++ codes "\n")
