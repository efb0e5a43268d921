use Rattle.sap_notes.proofs.Whole.{text_is}
use Rattle.sap_notes.proofs.notes.push_notes.Goals as goal

pub push_told-requires-clause-order : goal.push_told-requires-clause-order
push_told-requires-clause-order c = rw c.as_slice.ensures c.in_ok-notes.ensures.notes.order

pub push_told-requires-clause-inside : goal.push_told-requires-clause-inside
push_told-requires-clause-inside c = rw c.as_slice.ensures c.in_ok-notes.ensures.inside

pub returns : goal.returns
returns c = text_is c.args.bytes.now c.args.text.now c.push_told.new.text _ c.push_told.result c.in_ok-notes.ensures.notes (rw c.as_slice.ensures at c.push_told.ensures)
