use Rattle.sap_notes.proofs.Telling.{note_is}
use Rattle.sap_notes.proofs.told.push_note.Goals as goal

pub returns : goal.returns
returns c =
    let said = c.in_ok-push_sentence.ensures in
    let sentence = rw c.bytes_at.ensures at said in
    note_is c.args.bytes.now c.args.events.now c.args.text.now c.push_place_in.new.text c.push_sentence.new.text c.push_bytes.new.self c.args.note c.push_bytes.result c.in_ok-push_place_in.ensures sentence c.push_bytes.ensures.ok
