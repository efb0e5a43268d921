use Rattle.std.proofs.Common.{◌≡◌, ◌++◌, drop}
use Rattle.std.specs.List.{flat_map}
use Rattle.sap_run_texts.specs.code.StepText.{binding_text}
use Rattle.sap_run_texts.proofs.step_text.push_each_binding.Given as goal

abbrev pub invariant-loop-binding : goal.invariant-loop-binding
invariant-loop-binding l = l.text ++ flat_map binding_text (drop l.binding-index l.bindings) ≡ l.initial.text ++ flat_map binding_text l.bindings
