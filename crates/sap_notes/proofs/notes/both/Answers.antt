use Rattle.std.proofs.Common.{List, ap, ◌∙◌}
use Rattle.sap_notes.specs.code.Ranked.{merged}
use Rattle.sap_notes.specs.declared.note.Note.{Note}
use Rattle.sap_notes.proofs.Merged.{is_ranked}
use Rattle.sap_notes.proofs.Whole.{on_ok}
use Rattle.sap_notes.proofs.notes.both.Goals as goal

pub returns : goal.returns
returns c z low mid high l h a b =
    on_ok _ _ _ (λ all is. is_ranked low mid high z c.args.ns.now c.args.ms.now all
    (is ∙ (ap (λ (m : List Note). merged m c.as_slice-2.result.now) c.as_slice.ensures ∙ ap (merged c.args.ns.now) c.as_slice-2.ensures)) l h a b) c.merged.ensures
