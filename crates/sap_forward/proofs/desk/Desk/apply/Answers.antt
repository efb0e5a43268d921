use Rattle.std.proofs.lemmas.Result.{on_ok_weaker}
use Rattle.std.proofs.Common.{[], ◌∷◌, ◌++◌, ◌∙◌}
use Rattle.sap_runs.specs.declared.rule_step.RStep.TheVariants.{Apply}
use Rattle.sap_forward.proofs.WritesKnown.{writes_apply}
use Rattle.sap_forward.proofs.desk.Desk.apply.Goals as goal

pub returns : goal.returns
returns c =
    let f = c.in_ok-symbol.ensures in
    let ks = c.in_ok-copy.ensures in
    on_ok_weaker c.push.result (λ put. writes_apply c.args.self.now c.args.f.now c.args.entries.now c.args.lines.now c.push.new.self (put ∙ (λ i. c.args.lines.now ++ Apply (f i) (ks i) ∷ []))) c.push.ensures.ok
