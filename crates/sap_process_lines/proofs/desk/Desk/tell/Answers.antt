use Rattle.sap_process_lines.proofs.desk.Desk.tell.Goals as goal

pub returns-in-Learn : goal.returns-in-Learn
returns-in-Learn c = rw c.in-Learn.is (c.learn.ensures c.args.lines.now)
