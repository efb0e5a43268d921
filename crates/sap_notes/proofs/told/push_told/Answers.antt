use Rattle.std.proofs.Common.{List, length, sym, subst, ◌∙◌}
use Rattle.std.specs.Prelude.{Contains}
use Rattle.sap_stretches.specs.Stretches.{IsInBytes}
use Rattle.sap_notes.specs.Notes.{AreAscending}
use Rattle.sap_notes.specs.declared.note.Note.{Note}
use Rattle.sap_notes.proofs.Telling.{one_ascend, one_contained}
use Rattle.sap_notes.proofs.told.push_told.Goals as goal

pub push_all-requires-clause-order : goal.push_all-requires-clause-order
push_all-requires-clause-order c =
    subst (λ (ns : List Note). AreAscending ns) (sym (c.as_slice-2.ensures ∙ c.in_ok-told.ensures)) (one_ascend c.args.notes.now c.requires.order)

pub push_all-requires-clause-inside : goal.push_all-requires-clause-inside
push_all-requires-clause-inside c =
    subst (λ (ns : List Note). (n : Note) → Contains ns n → IsInBytes (length c.args.bytes.now) n.word) (sym (c.as_slice-2.ensures ∙ c.in_ok-told.ensures))
    (λ n i. c.requires.inside n (one_contained c.args.notes.now n i))
