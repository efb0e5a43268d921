use Rattle.sap_notes.proofs.Telling.{same_text}
use Rattle.sap_notes.proofs.laws.one_notes_text.Goals as goal

pub returns : goal.returns
returns c z t u a b = same_text z (c.one_place_text.ensures.texts z) t u a b
