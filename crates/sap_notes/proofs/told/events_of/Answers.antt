use Rattle.sap_notes.proofs.Telling.{item_here}
use Rattle.sap_notes.proofs.told.events_of.Goals as goal

pub push_event-requires : goal.push_event-requires
push_event-requires c = c.requires _ (item_here c.args.notes.now c.loop-note.note-index _ c.loop-note-test.true)
