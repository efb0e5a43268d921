use Rattle.std.proofs.lemmas.Result.{on_ok_weaker}
use Rattle.std.proofs.Common.{[], ◌∷◌, ◌++◌, ap, ◌∙◌}
use Rattle.sap_runs.specs.declared.rule_step.RStep.TheVariants.{Public}
use Rattle.sap_forward.proofs.WritesKnown.{writes_public}
use Rattle.sap_forward.proofs.desk.Desk.public.Goals as goal

pub returns : goal.returns
returns c = on_ok_weaker c.push.result (λ put. writes_public c.args.self.now c.args.a.now c.args.lines.now c.push.new.self (put ∙ ap (λ a. c.args.lines.now ++ Public a ∷ []) c.in_ok-copy.ensures)) c.push.ensures.ok
