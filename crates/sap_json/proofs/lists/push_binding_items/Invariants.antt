use Rattle.std.proofs.Common.{◌≡◌, ◌++◌, false, drop}
use Rattle.serde_json.specs.Written.{items_text}
use Rattle.sap_json.specs.code.Texts.{binding_items}
use Rattle.sap_json.proofs.lists.push_binding_items.Given as goal

abbrev pub invariant-loop-binding : goal.invariant-loop-binding
invariant-loop-binding l = l.text ++ items_text l.later (binding_items (drop l.binding-index l.bindings)) ≡ l.initial.text ++ items_text false (binding_items l.bindings)
