use Rattle.std.proofs.Common.{◌≡◌, subst, sym}
use Rattle.sap_teller.specs.code.Heads.{IsFoundOut}
use Rattle.sap_teller.specs.declared.doing.Doing.{Doing}
use Rattle.sap_teller.proofs.OneLine.{on_ok_one}
use Rattle.sap_teller.proofs.telling.push_line.Goals as goal

pub returns : goal.returns
returns c =
    let same : c.deref.result.now ≡ c.in_ok-doing.doing.value = cc in
    let does = subst (λ (x : Doing). IsFoundOut c.args.kept.now c.args.config.now c.args.step.now x) (sym same) c.in_ok-doing.ensures in
    on_ok_one c.push_body.result _ _ (λ text. record { doing = c.deref.result.now; does = does; text = text }) c.push_body.ensures
