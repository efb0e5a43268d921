use Rattle.sap_draft.proofs.Printable.{par_printable}
use Rattle.sap_draft.proofs.laws.processes_are_printable.Goals as goal

pub returns : goal.returns
returns c = λ most g m p n a b r h. (par_printable c.printed_words.ensures most g m r h).0
