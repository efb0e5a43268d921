use Rattle.std.proofs.Common.{◌≡◌, ◌<◌, [], List, length, Option, Some, IfOk, sym, ap, subst, ◌∙◌, arith}
use Rattle.std.proofs.lemmas.Grind.{common_steps}
use Rattle.sap_terms.specs.declared.binding.Binding.{Binding}
use Rattle.sap_run_lines.specs.code.StepTaking.{behind_with}
use Rattle.sap_run_lines.proofs.WordsOn.{with_none, with_some}
use Rattle.sap_run_lines.proofs.take_steps.take_with.Goals as goal

pub returns-then-is_empty : goal.returns-then-is_empty
returns-then-is_empty c =
    let none : c.args.bytes.now ≡ [] = grind (arith, common_steps) in
    ap Some c.new.ensures ∙ with_none c.args.bytes.now none

pub returns-in-Some : goal.returns-in-Some
returns-in-Some c =
    let some : 0 < length c.args.bytes.now = grind (arith, common_steps) in
    let is : Some c.in-Some.rest.now ≡ behind_with c.args.bytes.now = rw c.in-Some.is at c.behind_with.ensures in
    subst (λ (x : Option (List Binding)). IfOk c.take_some_bindings.result (λ o. o ≡ x)) (sym (with_some _ _ some is)) c.take_some_bindings.ensures
