use Rattle.sap_notes.proofs.NameNotes.{compared_ranked}
use Rattle.sap_notes.proofs.Whole.{on_ok}
use Rattle.sap_notes.proofs.notes.compared_notes.Goals as goal

pub returns : goal.returns
returns c =
    on_ok _ _ _
    (λ notes is. compared_ranked c.args.bytes.now _ notes c.in_ok-told.ensures.are c.in_ok-told.ensures.order c.in_ok-told.ensures.inside (rw c.as_slice.ensures at is)) c.notes_at.ensures
