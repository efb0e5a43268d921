use Rattle.std.proofs.lemmas.Result.{on_ok_weaker}
use Rattle.sap_forward.proofs.WritesSplit.{writes_copy, writes_first_copy, no_copy}
use Rattle.sap_forward.proofs.desk.Desk.rep.Goals as goal

pub returns-in_default : goal.returns-in_default
returns-in_default c = no_copy c.args.self.now c.args.t c.args.lines.now c.in_default.ensures

pub returns-then-seat : goal.returns-then-seat
returns-then-seat c = on_ok_weaker c.copy.result
    (writes_copy c.args.self.now c.copy.new.self c.args.t c.in-Some.seat.now c.in-Some.field-0-1.now c.args.lines.now c.copy.new.lines c.in-Some.ensures c.if-seat.true) c.copy.ensures

pub returns-else-seat : goal.returns-else-seat
returns-else-seat c = on_ok_weaker c.first_copy.result
    (writes_first_copy c.args.self.now c.first_copy.new.self c.args.t c.in-Some.seat.now c.in-Some.field-0-1.now c.args.lines.now c.first_copy.new.lines c.in-Some.ensures c.if-seat.false) c.first_copy.ensures
