use Rattle.sap_read_places.proofs.ReachedFiles.{judged_unread}
use Rattle.sap_read_places.proofs.reading.told_of_judged.Goals as goal

pub returns-in_default-clause-none : goal.returns-in_default-clause-none
returns-in_default-clause-none c = λ e. judged_unread c.args.bytes.now c.args.fault.now c.requires.judged c.in_default.not-Ill c.in_default.not-Formula
