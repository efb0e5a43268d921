use Rattle.sap_read_places.proofs.ReachedFiles.{items_unread, unknown_refused}
use Rattle.sap_read_places.proofs.reading.told_of_items.Goals as goal

pub undefined_told-requires-clause-refused : goal.undefined_told-requires-clause-refused
undefined_told-requires-clause-refused c = unknown_refused c.args.bytes.now c.args.fault.now _ c.in-UnknownProcess.is c.requires.refused

pub returns-in_default-clause-none : goal.returns-in_default-clause-none
returns-in_default-clause-none c = λ e. items_unread c.args.bytes.now c.args.fault.now c.requires.items c.in_default.not-UnknownProcess
