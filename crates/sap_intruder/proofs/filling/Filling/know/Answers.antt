use Rattle.std.proofs.lemmas.Result.{err_from_is_err_and, IfErr-weaker, on_ok_weaker}
use Rattle.sap_calc.specs.Running.{configuration}
use Rattle.sap_intruder.proofs.StepsFilled.{know_filled, know_refused, know_not_given}
use Rattle.sap_intruder.proofs.filling.Filling.know.Goals as goal

pub returns-in_err-k-clause-refused : goal.returns-in_err-k-clause-refused
returns-in_err-k-clause-refused c =
    let a = c.args.self.now in
    let p = err_from_is_err_and c.from_residual.result c.from_residual.ensures.1 in
    rw (p.1, p.2) (know_not_given a.config.sig (configuration a.config) c.args.u.now c.in_err-k.field-0.0 c.in_err-k.ensures.refused)

pub returns-clause-ok : goal.returns-clause-ok
returns-clause-ok c =
    on_ok_weaker c.follow.result (λ h. know_filled c.args.self.now c.give.new.self c.follow.new.self c.args.u.now c.in_ok-k.k c.in_ok-k.ensures.ok h) c.follow.ensures.ok

pub returns-clause-refused : goal.returns-clause-refused
returns-clause-refused c =
    IfErr-weaker c.follow.result _ _ (λ v h. know_refused c.args.self.now c.give.new.self c.args.u.now c.in_ok-k.k v c.in_ok-k.ensures.ok h) c.follow.ensures.refused
