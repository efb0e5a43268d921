use Rattle.std.proofs.Common.{ap}
use Rattle.sap_runs.specs.declared.rule_step.RStep.TheVariants.{Fresh, Own}
use Rattle.sap_forward.proofs.Lists.{two_last}
use Rattle.sap_forward.proofs.WritesKnown.{writes_name}
use Rattle.sap_forward.proofs.desk.Desk.name.Goals as goal

pub returns : goal.returns
returns c = writes_name c.args.self.now _ c.args.n c.args.lines.now c.push-2.new.self (ap (λ n. record c.args.self.now { count = n }) c.in_ok-count.ensures)
    (two_last c.args.lines.now c.push.new.self c.push-2.new.self (Fresh c.args.n) (Own c.args.self.now.count) c.in_ok-push.ensures.ok c.in_ok-push-2.ensures.ok)
