use Rattle.std.proofs.Common.{◌≡◌, arith, subst}
use Rattle.std.proofs.lemmas.Grind.{common_steps}
use Rattle.sap_calc.specs.Replays.{AreDone}
use Rattle.sap_forward.specs.code.Taken.{AreDoneUntil}
use Rattle.sap_lines.specs.declared.at.At.TheVariants.{Step as StepOf}
use Rattle.sap_forward.proofs.Looped.{refused_there, all_shown}
use Rattle.sap_forward.proofs.trace.process_trace.Goals as goal

pub returns-in_err-show_each-clause-refused : goal.returns-in_err-show_each-clause-refused
returns-in_err-show_each-clause-refused c = λ n fault is.
    let here : c.deref_mut.result.now ≡ c.in_ok-config.config.value = cc in
    let same : c.in_err-show_each.field-0.0 ≡ StepOf n fault = grind (arith, common_steps, is, c.from_residual-in_err-show_each.ensures) in
    let until = c.in_err-show_each.ensures.refused n fault (grind (arith, common_steps, same)) in
    refused_there c.replays_are_legal.ensures c.in_ok-config.ensures.sig c.in_ok-config.ensures.known c.in_ok-config.ensures.configuration c.args.run.now n fault (subst (λ x. AreDoneUntil x c.args.run.now n fault) here until)

pub returns-clause-ok : goal.returns-clause-ok
returns-clause-ok c =
    let here : c.deref_mut.result.now ≡ c.in_ok-config.config.value = cc in
    all_shown c.replays_are_legal.ensures c.in_ok-config.ensures.sig c.in_ok-config.ensures.known c.in_ok-config.ensures.configuration c.args.run.now (subst (λ x. AreDone x c.args.run.now c.show_each.new.config c.show_each.new.trace) here c.in_ok-show_each.ensures.ok)
