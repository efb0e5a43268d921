use Rattle.std.proofs.Common.{arith}
use Rattle.sap_notes.proofs.notes.notes_by_words.Goals as goal

pub returns : goal.returns
returns c = c.both.ensures c.args.bytes.now 0 3 5 (omega arith) (omega arith) c.in_ok-words.ensures c.in_ok-facts.ensures
