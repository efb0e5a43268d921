use Rattle.std.proofs.Common.{◌≡◌, ◌<◌, ◌++◌, ◌∷◌, [], List, length, Some, None, sym, ap, ◌∙◌, arith}
use Rattle.std.proofs.lemmas.Grind.{common_steps}
use Rattle.sap_terms.specs.declared.binding.Binding.{Binding}
use Rattle.sap_run_lines.specs.code.WordTaking.{on_words}
use Rattle.sap_run_lines.specs.code.StepTaking.{binding_behind, bindings_onto}
use Rattle.sap_run_lines.proofs.WordsOn.{bindings_end, bindings_stop, bindings_go, binding_shorter}
use Rattle.sap_run_lines.proofs.take_steps.take_bindings.Goals as goal

pub returns-in_default : goal.returns-in_default
returns-in_default c =
    let some : 0 < length c.loop-rest.rest.now = grind (arith, common_steps) in
    let none : binding_behind c.loop-rest.rest.now ≡ None = rw c.in_default.is at c.in_ok-binding.ensures in
    sym (c.loop-rest.invariant ∙ bindings_stop _ _ some none)

pub loop-rest-smaller : goal.loop-rest-smaller
loop-rest-smaller c =
    let is : binding_behind c.loop-rest.rest.now ≡ Some (c.in-Some.binding, c.in-Some.next.now) = rw c.in-Some.is at c.in_ok-binding.ensures in
    binding_shorter _ _ _ is

pub loop-rest-preserved : goal.loop-rest-preserved
loop-rest-preserved c =
    let some : 0 < length c.loop-rest.rest.now = grind (arith, common_steps) in
    let is : binding_behind c.loop-rest.rest.now ≡ Some (c.in-Some.binding, c.in-Some.next.now) = rw c.in-Some.is at c.in_ok-binding.ensures in
    let pushed : c.push.new.self ≡ c.loop-rest.bindings ++ c.in-Some.binding ∷ [] = c.in_ok-push.ensures.ok in
    c.loop-rest.invariant ∙ (bindings_go _ _ _ _ some is ∙ ap (λ (bs : List Binding). on_words (bindings_onto bs) c.in-Some.next.now) (sym pushed))

pub returns : goal.returns
returns c =
    let none : c.loop-rest.rest.now ≡ [] = grind (arith, common_steps) in
    sym (c.loop-rest.invariant ∙ bindings_end _ _ none)
