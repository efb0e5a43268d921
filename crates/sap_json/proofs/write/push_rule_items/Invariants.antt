use Rattle.std.proofs.Common.{◌≡◌, ◌++◌, false, drop}
use Rattle.serde_json.specs.Written.{items_text}
use Rattle.sap_json.specs.code.Texts.{rule_items}
use Rattle.sap_json.proofs.write.push_rule_items.Given as goal

abbrev pub invariant-loop-step : goal.invariant-loop-step
invariant-loop-step l = l.text ++ items_text l.later (rule_items (drop l.step-index l.steps)) ≡ l.initial.text ++ items_text false (rule_items l.steps)
