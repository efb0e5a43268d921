use Rattle.sap_read_places.proofs.ReachedFiles.{uses_unread}
use Rattle.sap_read_places.proofs.reading.told_of_uses.Goals as goal

pub returns-in_default-clause-none : goal.returns-in_default-clause-none
returns-in_default-clause-none c = λ e.
    uses_unread c.args.bytes.now c.args.fault.now c.requires.uses c.in_default.not-Arguments c.in_default.not-Large c.in_default.not-TooMany c.in_default.not-TooDeep c.in_default.not-Flawed
