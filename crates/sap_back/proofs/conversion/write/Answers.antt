use Rattle.std.proofs.lemmas.Result.{on_ok_weaker}
use Rattle.sap_back.proofs.DeskLines.{gives_writes}
use Rattle.sap_back.proofs.conversion.write.Goals as goal

pub returns : goal.returns
returns c =
    let a = c.args in
    on_ok_weaker c.tell.result (gives_writes a.desk.now c.tell.new.self a.line.now a.shows a.count a.lines.now c.tell.new.lines) c.tell.ensures
