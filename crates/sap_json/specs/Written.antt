-- How runs are written as JSON. Byte 10 is a line feed.
use Rattle.std.specs.Prelude.{◌≤◌, ℕ, List, [], ◌∷◌, ◌++◌, length, map}
use Rattle.serde_json.specs.Data.{Data, string, array, unsigned}
use Rattle.serde_json.specs.Data as datum
use Rattle.serde_json.specs.View.{items_of}
use Rattle.serde_json.specs.Written.{compact_text}
use Rattle.sap_grammar.specs.TermText.{variable_text, tree_text}
use Rattle.sap_runs.specs.declared.process_step.PStep.{PStep}
use Rattle.sap_runs.specs.declared.rule_step.RStep.{RStep}
use Rattle.sap_run_lines.specs.LineWords.{LineWord, identifier, number, fresh_name, public_name, bound}
use Rattle.sap_run_lines.specs.LineText.{word_text}
use Rattle.sap_run_lines.specs.Spellable.{IsWritableProcess, IsWritableRule}
use Rattle.sap_run_texts.specs.declared.run.Run.{Run}
use Rattle.sap_run_texts.specs.declared.run.Run.TheVariants as run
use Rattle.sap_run_texts.specs.declared.limits.TheConstants.{MOST_PROCESS_STEPS, MOST_RULE_STEPS}
use Rattle.sap_run_texts.specs.RunTexts.{process_head, rule_head}
use Rattle.sap_run_texts.specs.RunPrinted.{Each}
use Rattle.sap_json.specs.Arrays.{Cell, one, many, process_cells, rule_cells}
use Rattle.sap_json.specs.RunValues.{run_object}

-- a word: a number; a binding as the array of its variable's and its term's text; of any other its text
abbrev pub word_data : LineWord → Data
word_data (identifier x) = string (word_text (identifier x))
word_data (number n) = datum.number (unsigned n)
word_data (fresh_name n) = string (word_text (fresh_name n))
word_data (public_name s) = string (word_text (public_name s))
word_data (bound v t) = array (items_of (string (variable_text v) ∷ string (tree_text t) ∷ []))

-- an item of a step's array
abbrev pub cell_data : Cell → Data
cell_data (one w) = word_data w
cell_data (many ws) = array (items_of (map word_data ws))

-- a step
abbrev pub process_data : PStep → Data
process_data s = array (items_of (map cell_data (process_cells s)))

abbrev pub rule_data : RStep → Data
rule_data s = array (items_of (map cell_data (rule_cells s)))

-- a run
abbrev pub run_data : Run → Data
run_data (run.Process ss) = run_object process_head (map process_data ss)
run_data (run.Rules ss) = run_object rule_head (map rule_data ss)

-- its text, without blanks and ended by a line feed
abbrev pub json_text : Run → List ℕ
json_text r = compact_text (run_data r) ++ 10 ∷ []

-- each of its steps can be written
abbrev pub CanBeWritten : Run → Type 0
CanBeWritten (run.Process ss) = Each IsWritableProcess ss
CanBeWritten (run.Rules ss) = Each IsWritableRule ss

-- it has no more steps than a run may have
abbrev pub HasFewSteps : Run → Type 0
HasFewSteps (run.Process ss) = length ss ≤ MOST_PROCESS_STEPS
HasFewSteps (run.Rules ss) = length ss ≤ MOST_RULE_STEPS
