use Rattle.std.proofs.lemmas.Result.{on_ok_weaker}
use Rattle.sap_forward.proofs.WritesMeet.{writes_sync}
use Rattle.sap_forward.proofs.desk.Desk.sync.Goals as goal

pub returns : goal.returns
returns c = on_ok_weaker c.meet.result (writes_sync c.args.self.now c.give_name.new.self c.meet.new.self c.args.from c.args.to c.in_ok-tag.tag c.args.lines.now c.meet.new.lines c.in_ok-tag.ensures) c.meet.ensures
