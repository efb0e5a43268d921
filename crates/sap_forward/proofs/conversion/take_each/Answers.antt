use Rattle.std.proofs.Common.{◌≡◌, arith, subst}
use Rattle.std.proofs.lemmas.Grind.{common_steps}
use Rattle.sap_rule_lines.specs.Least.{names_drawn}
use Rattle.sap_forward.specs.code.Begun.{IsBegun}
use Rattle.sap_lines.specs.declared.at.At.TheVariants.{Step as StepOf}
use Rattle.sap_forward.proofs.Looped.{one_more_taken, refused_here, take_all}
use Rattle.sap_forward.proofs.conversion.take_each.Goals as goal

pub loop-k-preserved : goal.loop-k-preserved
loop-k-preserved c = λ g q goes b. one_more_taken goes c.args.run.now c.loop-k.k c.at.result.now c.at.ensures (c.loop-k.invariant g q goes b) c.in_ok-take.ensures.ok

pub returns-in_err-take-clause-refused : goal.returns-in_err-take-clause-refused
returns-in_err-take-clause-refused c = λ n fault is g q goes b.
    let same : c.in_err-take.field-0.0 ≡ StepOf n fault = grind (arith, common_steps, is, c.from_residual.ensures) in
    refused_here c.args.run.now c.loop-k.k n c.at.result.now fault c.at.ensures (c.loop-k.invariant g q goes b) (c.in_err-take.ensures.refused n fault (grind (arith, common_steps, same)))

pub returns-clause-ok : goal.returns-clause-ok
returns-clause-ok c = λ g q goes b. subst (λ x. IsBegun g q (names_drawn c.args.run.now) x c.loop-k.config c.loop-k.desk c.loop-k.lines) (take_all c.args.run.now c.loop-k.k (omega arith)) (c.loop-k.invariant g q goes b)
