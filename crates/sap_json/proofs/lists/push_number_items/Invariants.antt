use Rattle.std.proofs.Common.{◌≡◌, ◌++◌, false, drop}
use Rattle.serde_json.specs.Written.{items_text}
use Rattle.sap_json.specs.code.Texts.{number_items}
use Rattle.sap_json.proofs.lists.push_number_items.Given as goal

abbrev pub invariant-loop-number : goal.invariant-loop-number
invariant-loop-number l = l.text ++ items_text l.later (number_items (drop l.number-index l.numbers)) ≡ l.initial.text ++ items_text false (number_items l.numbers)
