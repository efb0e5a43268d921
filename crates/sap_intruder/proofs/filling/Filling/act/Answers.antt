use Rattle.std.proofs.Common.{◌≡◌, subst}
use Rattle.std.proofs.lemmas.Result.{IfErr-weaker, on_ok_weaker}
use Rattle.sap_runs.specs.declared.process_step.PStep.{PStep}
use Rattle.sap_intruder.specs.code.Filled.{IsBlamedFor, IsFollowed, OrMem}
use Rattle.sap_intruder.proofs.StepsFilled.{act_filled, act_refused}
use Rattle.sap_intruder.proofs.filling.Filling.act.Goals as goal

pub returns-clause-ok : goal.returns-clause-ok
returns-clause-ok c =
    let a = c.args.self.now in
    let d = c.follow.new.self in
    let is : c.in_ok-step.step ≡ c.args.s.now = c.in_ok-step.ensures in
    on_ok_weaker c.follow.result (λ h. act_filled a d c.args.s.now c.requires.stands (subst (λ (x : PStep). IsFollowed a d x) is h)) c.follow.ensures.ok

pub returns-clause-refused : goal.returns-clause-refused
returns-clause-refused c =
    let a = c.args.self.now in
    let is : c.in_ok-step.step ≡ c.args.s.now = c.in_ok-step.ensures in
    IfErr-weaker c.follow.result _ _ (λ v h. act_refused c.lines_look_at_one_entry.ensures.refused a c.args.s.now v c.requires.stands (subst (λ (x : PStep). OrMem (IsBlamedFor a x) v) is h)) c.follow.ensures.refused
