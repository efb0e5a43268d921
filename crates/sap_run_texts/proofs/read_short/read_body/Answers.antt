use Rattle.std.proofs.Common.{◌≡◌, List, [], sym, subst, arith}
use Rattle.std.proofs.lemmas.Grind.{common_steps}
use Rattle.sap_runs.specs.declared.short_step.SStep.{SStep}
use Rattle.sap_run_texts.specs.code.ShortReading.{IsBehind}
use Rattle.sap_run_texts.proofs.ShortRuns.{behind_none, behind_all}
use Rattle.sap_run_texts.proofs.read_short.read_body.Goals as goal

pub loop-rest-init : goal.loop-rest-init
loop-rest-init c = subst (λ (ss : List SStep). IsBehind ss c.args.bytes.now c.args.bytes.now) (sym c.new-steps.ensures) (behind_none c.args.bytes.now)

pub returns : goal.returns
returns c =
    let none : c.loop-rest.rest.now ≡ [] = grind (arith, common_steps) in
    behind_all c.loop-rest.steps c.loop-rest.rest.now c.args.bytes.now c.loop-rest.invariant none
