use Rattle.std.proofs.Common.{◌≡◌, arith}
use Rattle.std.proofs.lemmas.Grind.{common_steps}
use Rattle.sap_process.specs.Proc.{proc}
use Rattle.sap_intruder.specs.declared.fill_at.FillAt.TheVariants.{Step as StepOf}
use Rattle.sap_intruder.proofs.EachFilled.{filled_more, refused_first}
use Rattle.sap_intruder.proofs.filled.fill_each.Goals as goal

pub loop-k-preserved : goal.loop-k-preserved
loop-k-preserved c =
    filled_more c.args.f.now.signature (proc c.args.f.now.process) c.args.run.now c.loop-k.k c.at.result.now c.loop-k.filling c.fill_step.new.filling c.at.ensures c.loop-k.invariant c.in_ok-fill_step.ensures.ok

pub returns-in_err-fill_step-clause-refused : goal.returns-in_err-fill_step-clause-refused
returns-in_err-fill_step-clause-refused c = λ n fault is.
    let same : c.in_err-fill_step.field-0.0 ≡ StepOf n fault = grind (arith, common_steps, is, c.from_residual.ensures) in
    refused_first c.filled_runs_are_legal.ensures.small_runs c.args.f.now.signature (proc c.args.f.now.process) c.args.run.now c.loop-k.k n c.at.result.now fault c.loop-k.filling c.at.ensures
    c.loop-k.invariant (c.in_err-fill_step.ensures.refused n fault (grind (arith, common_steps, same)))
