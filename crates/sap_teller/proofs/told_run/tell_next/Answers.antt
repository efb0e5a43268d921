use Rattle.std.proofs.Common.{◌≡◌, subst, sym}
use Rattle.sap_calc.specs.Running.{IsDenied}
use Rattle.sap_lines.specs.declared.at.At.TheVariants.{Step as StepOf}
use Rattle.sap_teller.proofs.told_run.tell_next.Goals as goal

pub returns-in-Err-clause-refused : goal.returns-in-Err-clause-refused
returns-in-Err-clause-refused c = λ n fault e.
    let is : c.at_line.result ≡ StepOf n fault = cc in
    let h = c.at_line.ensures n fault is in
    record {
      same = h.0;
      denied = subst (λ x. IsDenied c.args.config.now c.args.step.now x) (sym h.1) c.in-Err.ensures.refused;
      cause = h.2;
    }
