use Rattle.std.proofs.lemmas.Result.{on_ok_weaker}
use Rattle.std.proofs.Common.{◌+◌, [], ◌∷◌, ◌++◌, ap, ◌∙◌}
use Rattle.std.specs.Prelude.{codes}
use Rattle.sap_runs.specs.declared.rule_step.RStep.TheVariants.{Learn, Know}
use Rattle.sap_forward.specs.LinesFor.{uses}
use Rattle.sap_forward.proofs.Keeping.{goes_then}
use Rattle.sap_forward.proofs.WritesTalk.{writes_send}
use Rattle.sap_forward.proofs.desk.Desk.send.Goals as goal

pub returns : goal.returns
returns c = on_ok_weaker c.push.result
    (λ put. writes_send c.args.self.now c.go_with.new.self c.args.t c.args.k c.args.lines.now c.push.new.self
    (goes_then c.args.self.now c.go_with.new.self c.args.t 1 2 (λ x. x.first) c.args.lines.now c.go_with.new.lines c.push.new.self (λ path j n. Know c.args.k ∷ uses (codes "OutAdv_") path (j ∷ n ∷ []) [] ∷ []) (λ n. Learn (n + 1)) c.in_ok-go_with.ensures
    (put ∙ ap (λ n. c.go_with.new.lines ++ Learn n ∷ []) c.in_ok-fact.ensures)))
    c.push.ensures.ok
