use Rattle.std.proofs.lemmas.Result.{on_ok_weaker}
use Rattle.sap_forward.proofs.WritesTalk.{writes_lock}
use Rattle.sap_forward.proofs.desk.Desk.lock.Goals as goal

pub returns : goal.returns
returns c = on_ok_weaker c.go_with.result (writes_lock c.args.self.now c.give_name.new.self c.go_with.new.self c.args.t c.in_ok-name.name c.args.lines.now c.go_with.new.lines c.in_ok-name.ensures) c.go_with.ensures
