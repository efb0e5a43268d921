use Rattle.std.proofs.lemmas.Result.{on_ok_weaker}
use Rattle.std.proofs.Common.{[], ◌∷◌}
use Rattle.std.specs.Prelude.{codes}
use Rattle.sap_runs.specs.declared.rule_step.RStep.TheVariants.{Learn}
use Rattle.sap_forward.specs.LinesFor.{uses}
use Rattle.sap_forward.proofs.Keeping.{goes_then}
use Rattle.sap_forward.proofs.WritesTalk.{writes_out}
use Rattle.sap_forward.proofs.desk.Desk.output.Goals as goal

pub returns : goal.returns
returns c = on_ok_weaker c.push.result
    (λ put. writes_out c.args.self.now c.go_on.new.self c.args.t c.args.lines.now c.push.new.self
    (goes_then c.args.self.now c.go_on.new.self c.args.t 1 1 (λ x. x.first) c.args.lines.now c.go_on.new.lines c.push.new.self (λ path k n. uses (codes "Out_") path (k ∷ []) [] ∷ []) (λ n. Learn n) c.in_ok-go_on.ensures put))
    c.push.ensures.ok
