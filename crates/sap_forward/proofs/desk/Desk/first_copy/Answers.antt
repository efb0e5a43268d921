use Rattle.std.proofs.lemmas.Result.{on_ok_weaker}
use Rattle.sap_forward.proofs.WritesSplit.{starts_then}
use Rattle.sap_forward.proofs.desk.Desk.first_copy.Goals as goal

pub returns : goal.returns
returns c = on_ok_weaker c.copy.result
    (λ h. starts_then c.args.self.now c.start_copying.new.self c.copy.new.self c.args.t c.args.lines.now c.push_rule_on_one.new.lines c.copy.new.lines c.in-Some.seat.now c.in-Some.field-0-1.now c.in-Some.ensures
    c.in_ok-start_copying.ensures c.in_ok-push_rule_on_one.ensures h)
    c.copy.ensures
