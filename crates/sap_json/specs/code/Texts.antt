-- Pieces of the text that is written.
-- Bytes by their codes: 44 is a comma, 58 a colon, 91 and 93 are brackets, 123 `{`.
use Rattle.std.specs.Prelude.{ℕ, codes, List, [], ◌∷◌, ◌++◌, map}
use Rattle.json.specs.Print.{quoted}
use Rattle.serde_json.specs.Data.{Items, string, array}
use Rattle.serde_json.specs.View.{items_of}
use Rattle.serde_json.specs.Written.{compact_text}
use Rattle.sap_terms.specs.declared.binding.Binding.{Binding}
use Rattle.sap_runs.specs.declared.process_step.PStep.{PStep}
use Rattle.sap_runs.specs.declared.rule_step.RStep.{RStep}
use Rattle.sap_run_lines.specs.LineWords.{number}
use Rattle.sap_run_lines.specs.StepLines.{bound_word}
use Rattle.sap_json.specs.Written.{word_data, cell_data, process_data, rule_data}
use Rattle.sap_json.specs.declared.operands.Operands.{Operands}
use Rattle.sap_json.specs.code.Operands.{operand_cells}

-- the items of an array of numbers, of bindings, of steps
abbrev pub number_items : List ℕ → Items
number_items ns = items_of (map word_data (map number ns))

abbrev pub binding_items : List Binding → Items
binding_items bs = items_of (map word_data (map bound_word bs))

abbrev pub process_items : List PStep → Items
process_items ss = items_of (map process_data ss)

abbrev pub rule_items : List RStep → Items
rule_items ss = items_of (map rule_data ss)

-- up to the items of the steps
abbrev pub head_text : List ℕ → List ℕ
head_text kind = 123 ∷ (quoted (codes "kind") ++ (58 ∷ (quoted kind ++ (44 ∷ (quoted (codes "steps") ++ (58 ∷ 91 ∷ []))))))

-- the array of a step with this first word and these operands
abbrev pub step_text : List ℕ → Operands → List ℕ
step_text w o = compact_text (array (items_of (string w ∷ map cell_data (operand_cells o))))

-- the last two items of the array of a rule's step, each behind a comma, and its end
abbrev pub uses_text : List ℕ → List Binding → List ℕ
uses_text facts bindings = 44 ∷ (compact_text (array (number_items facts)) ++ (44 ∷ (compact_text (array (binding_items bindings)) ++ (93 ∷ []))))
