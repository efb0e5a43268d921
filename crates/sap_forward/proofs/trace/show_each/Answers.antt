use Rattle.std.proofs.Common.{◌≡◌, [], arith, subst, sym}
use Rattle.std.proofs.lemmas.Grind.{common_steps}
use Rattle.sap_calc.specs.Replays.{AreDone}
use Rattle.sap_lines.specs.declared.at.At.TheVariants.{Step as StepOf}
use Rattle.sap_forward.proofs.Looped.{one_more_shown, take_all}
use Rattle.sap_forward.proofs.trace.show_each.Goals as goal

pub loop-k-init : goal.loop-k-init
loop-k-init c = subst (λ x. AreDone c.args.config.now [] c.args.config.now x) (sym c.requires) AreDone.none_yet

pub loop-k-preserved : goal.loop-k-preserved
loop-k-preserved c = one_more_shown c.args.run.now c.loop-k.k c.at.result.now c.at.ensures c.loop-k.invariant c.in_ok-show_line.ensures.ok

pub returns-in_err-show_line-clause-refused : goal.returns-in_err-show_line-clause-refused
returns-in_err-show_line-clause-refused c = λ n fault is.
    let same : c.in_err-show_line.field-0.0 ≡ StepOf n fault = grind (arith, common_steps, is, c.from_residual.ensures) in
    record {
      before = c.loop-k.k;
      line = c.at.result.now;
      there = c.at.ensures;
      behind = c.loop-k.config;
      trace = c.loop-k.trace;
      done = c.loop-k.invariant;
      refused = c.in_err-show_line.ensures.refused n fault (grind (arith, common_steps, same));
    }

pub returns-clause-ok : goal.returns-clause-ok
returns-clause-ok c = subst (λ x. AreDone c.args.config.now x c.loop-k.config c.loop-k.trace) (take_all c.args.run.now c.loop-k.k (omega arith)) c.loop-k.invariant
