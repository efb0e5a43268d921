use Rattle.std.proofs.lemmas.Result.{on_ok_weaker}
use Rattle.std.proofs.Common.{sym}
use Rattle.sap_forward.proofs.WritesTalk.{writes_input, writes_input_on, no_input}
use Rattle.sap_forward.proofs.desk.Desk.input.Goals as goal

pub returns-in_default : goal.returns-in_default
returns-in_default c = no_input c.args.self.now c.args.t c.args.k c.args.lines.now c.in_default.ensures

pub returns-then-has_channel : goal.returns-then-has_channel
returns-then-has_channel c = on_ok_weaker c.go_with.result
    (writes_input_on c.args.self.now c.go_with.new.self c.args.t c.args.k c.in-Some.field-0-0.now c.in-Some.place.now c.args.lines.now c.go_with.new.lines c.in-Some.ensures (sym c.if-has_channel.ensures)) c.go_with.ensures

pub returns-else-has_channel : goal.returns-else-has_channel
returns-else-has_channel c = on_ok_weaker c.go_with-else-has_channel.result
    (writes_input c.args.self.now c.go_with-else-has_channel.new.self c.args.t c.args.k c.in-Some.field-0-0.now c.in-Some.place.now c.args.lines.now c.go_with-else-has_channel.new.lines c.in-Some.ensures (sym c.if-has_channel.ensures)) c.go_with-else-has_channel.ensures
