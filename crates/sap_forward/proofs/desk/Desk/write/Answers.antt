use Rattle.std.proofs.lemmas.Result.{on_ok_weaker}
use Rattle.sap_forward.proofs.WritesAll.{plain_writes}
use Rattle.sap_forward.proofs.WritesFound.{writes_found}
use Rattle.sap_forward.proofs.desk.Desk.write.Goals as goal

pub returns-in_default : goal.returns-in_default
returns-in_default c = on_ok_weaker c.write_plain.result
    (λ h. plain_writes c.args.self.now c.write_plain.new.self c.args.step.now c.args.lines.now c.write_plain.new.lines c.in_default.not-Found h c.args.found) c.write_plain.ensures

pub returns-in-Found : goal.returns-in-Found
returns-in-Found c =
    rw c.in-Found.is (on_ok_weaker c.bind.result (writes_found c.args.self.now c.bind.new.self c.in-Found.t c.args.found c.args.lines.now c.bind.new.lines) c.bind.ensures)
