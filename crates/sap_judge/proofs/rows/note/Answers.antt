use Rattle.std.proofs.lemmas.Result.{on_ok_weaker}
use Rattle.sap_judge.proofs.RowLaws.{behind_row}
use Rattle.sap_judge.proofs.rows.note.Goals as goal

pub returns : goal.returns
returns c = on_ok_weaker c.push.result (behind_row c.args.rows.now c.push.new.self c.args.s) c.push.ensures.ok
