use Rattle.std.proofs.Common.{ap, Err}
use Rattle.sap_steps.specs.code.Firing.{IsEvaluationFault}
use Rattle.sap_terms.specs.Subst.{bound_to}
use Rattle.sap_steps.proofs.Evaluated.{fault_large, in_left, in_acts, in_right, none_large, passed}
use Rattle.sap_steps.proofs.evaluation.evaluate.Goals as goal

pub returns-in_err-same-clause-refused : goal.returns-in_err-same-clause-refused
returns-in_err-same-clause-refused c =
    let g = c.args.sig.now in
    let τ = bound_to c.args.c.now in
    let r = c.args.rule.now in
    let hs = c.args.cited.now in
    let k = c.in_err-same.field-0.0 in
    passed c.from_residual.result (IsEvaluationFault g τ r hs) k (fault_large g τ r hs k (λ e. in_left c.large_facts_are_in_parts.ensures g τ r (c.in_err-same.ensures.large (ap Err e)))) c.from_residual.ensures.1

pub returns-in_err-acts-clause-refused : goal.returns-in_err-acts-clause-refused
returns-in_err-acts-clause-refused c =
    let g = c.args.sig.now in
    let τ = bound_to c.args.c.now in
    let r = c.args.rule.now in
    let hs = c.args.cited.now in
    let k = c.in_err-acts.field-0.0 in
    passed c.from_residual-in_err-acts.result (IsEvaluationFault g τ r hs) k (fault_large g τ r hs k (λ e. in_acts c.large_facts_are_in_parts.ensures g τ r (c.in_err-acts.ensures.large (ap Err e)))) c.from_residual-in_err-acts.ensures.1

pub returns-in_err-right-clause-refused : goal.returns-in_err-right-clause-refused
returns-in_err-right-clause-refused c =
    let g = c.args.sig.now in
    let τ = bound_to c.args.c.now in
    let r = c.args.rule.now in
    let hs = c.args.cited.now in
    let k = c.in_err-right.field-0.0 in
    passed c.from_residual-in_err-right.result (IsEvaluationFault g τ r hs) k (fault_large g τ r hs k (λ e. in_right c.large_facts_are_in_parts.ensures g τ r (c.in_err-right.ensures.large (ap Err e)))) c.from_residual-in_err-right.ensures.1

pub returns-then-not-same-clause-refused : goal.returns-then-not-same-clause-refused
returns-then-not-same-clause-refused c =
    let left = c.in_ok-same.ensures.same in
    record {
      left = left.left;
      left_forms = left.forms;
      other = λ h. let same = left.same.1 h in cc (same, c.if-not-same.true);
      small = none_large c.large_facts_are_in_parts.ensures c.args.sig.now (bound_to c.args.c.now) c.args.rule.now left.small c.in_ok-acts.ensures.within c.in_ok-right.ensures.within;
    }

pub returns-clause-evaluates : goal.returns-clause-evaluates
returns-clause-evaluates c =
    let left = c.in_ok-same.ensures.same in
    record {
      left = left.left;
      left_forms = left.forms;
      same = left.same.0 c.if-not-same.false;
      acts_forms = c.in_ok-acts.ensures.forms;
      right_forms = c.in_ok-right.ensures.forms;
      small = none_large c.large_facts_are_in_parts.ensures c.args.sig.now (bound_to c.args.c.now) c.args.rule.now left.small c.in_ok-acts.ensures.within c.in_ok-right.ensures.within;
    }
