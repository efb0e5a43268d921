use Rattle.std.proofs.Common.{subst}
use Rattle.std.proofs.lemmas.Result.{err_from_is_err_and, IfErr-weaker, on_ok_weaker}
use Rattle.sap_calc.specs.Running.{configuration}
use Rattle.sap_intruder.specs.Refusals.{IsNotGiven}
use Rattle.sap_intruder.specs.code.Filled.{HasGiven, OrMem}
use Rattle.sap_intruder.specs.declared.filling.Filling.{Filling}
use Rattle.sap_intruder.proofs.StepsFilled.{input_filled, input_line_refused, input_term_refused, taker_refused}
use Rattle.sap_intruder.proofs.filling.Filling.input.Goals as goal

pub returns-in_err-takes-clause-refused : goal.returns-in_err-takes-clause-refused
returns-in_err-takes-clause-refused c =
    let a = c.args.self.now in
    let p = err_from_is_err_and c.from_residual.result c.from_residual.ensures.1 in
    rw (p.1, p.2) (taker_refused a.config.sig (configuration a.config) c.args.t c.args.u.now c.in_err-takes.field-0.0 c.in_err-takes.ensures.refused)

pub returns-in_err-k-clause-refused : goal.returns-in_err-k-clause-refused
returns-in_err-k-clause-refused c =
    let a = c.args.self.now in
    let v = c.in_err-k.field-0.0 in
    let p = err_from_is_err_and c.from_residual-in_err-k.result c.from_residual-in_err-k.ensures.1 in
    let fails : OrMem (IsNotGiven a.config.sig (configuration a.config) c.args.u.now) v =
    subst (λ (x : Filling). OrMem (IsNotGiven x.config.sig (configuration x.config) c.args.u.now) v) c.in_ok-takes.ensures.kept c.in_err-k.ensures.refused in
    rw (p.1, p.2) (input_term_refused a.config.sig (configuration a.config) c.args.t c.args.u.now v c.in_ok-takes.ensures.ok fails)

pub returns-clause-ok : goal.returns-clause-ok
returns-clause-ok c =
    let a = c.args.self.now in
    let b = c.give.new.self in
    let given : HasGiven a b c.args.u.now c.in_ok-k.k = subst (λ (x : Filling). HasGiven x b c.args.u.now c.in_ok-k.k) c.in_ok-takes.ensures.kept c.in_ok-k.ensures.ok in
    on_ok_weaker c.follow.result (λ h. input_filled a b c.follow.new.self c.args.t c.args.u.now c.in_ok-k.k given h) c.follow.ensures.ok

pub returns-clause-refused : goal.returns-clause-refused
returns-clause-refused c =
    let a = c.args.self.now in
    let b = c.give.new.self in
    let given : HasGiven a b c.args.u.now c.in_ok-k.k = subst (λ (x : Filling). HasGiven x b c.args.u.now c.in_ok-k.k) c.in_ok-takes.ensures.kept c.in_ok-k.ensures.ok in
    IfErr-weaker c.follow.result _ _ (λ v h. input_line_refused c.lines_look_at_one_entry.ensures.refused a b c.args.t c.args.u.now c.in_ok-k.k v given h) c.follow.ensures.refused
