use Rattle.std.proofs.Common.{arith}
use Rattle.sap_notes.proofs.notes.notes_on_names.Goals as goal

pub returns : goal.returns
returns c = c.both.ensures c.args.bytes.now 5 6 7 (omega arith) (omega arith) c.in_ok-captured.ensures c.in_ok-compared.ensures
