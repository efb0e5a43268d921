use Rattle.std.proofs.Common.{map}
use Rattle.sap_read.specs.Entries.{body}
use Rattle.sap_read.proofs.SaidFiles.{cause_of_items, said_refused}
use Rattle.sap_read.proofs.said.check_said.Goals as goal

pub returns-clause-refused : goal.returns-clause-refused
returns-clause-refused c = λ z e is h n. said_refused z c.args.file.now e is (c.check_before.ensures.refused e h n)

pub returns-clause-items : goal.returns-clause-items
returns-clause-items c = λ e h n.
    cause_of_items (map body c.args.file.now.entries) c.args.file.now.statements c.args.file.now.declared.clash e (c.check_before.ensures.refused e h n)
