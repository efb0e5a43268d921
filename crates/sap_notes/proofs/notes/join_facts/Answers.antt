use Rattle.std.proofs.Common.{List, [], ◌<◌, ◌≡◌, length, ap, ◌∙◌, arith}
use Rattle.sap_notes.specs.code.Ranked.{merged}
use Rattle.sap_notes.specs.declared.note.Note.{Note}
use Rattle.sap_notes.proofs.Merged.{is_ranked}
use Rattle.sap_notes.proofs.Whole.{on_ok}
use Rattle.sap_notes.proofs.notes.join_facts.Goals as goal

pub returns-then-len-gt0 : goal.returns-then-len-gt0
returns-then-len-gt0 c =
    let some : 0 < length c.args.written.now.statements = let more = c.if-len-gt0.true in let many = c.len.ensures in omega (arith, more, many) in
    on_ok _ _ _ (λ all is. is_ranked 3 4 5 c.args.bytes.now c.args.found.now.said c.args.found.now.shown all
    (is ∙ (ap (λ (m : List Note). merged m c.as_slice-then-len-gt0.result.now) c.as_slice.ensures ∙ ap (merged c.args.found.now.said) c.as_slice-then-len-gt0.ensures))
    (omega arith) (omega arith) c.requires.said (c.requires.shown some)) c.merged.ensures

pub returns-else-len-gt0 : goal.returns-else-len-gt0
returns-else-len-gt0 c =
    let none : length c.args.written.now.statements ≡ 0 = let few = c.if-len-gt0.false in let many = c.len.ensures in omega (arith, few, many) in
    on_ok _ _ _ (λ all is. is_ranked 3 4 5 c.args.bytes.now c.args.found.now.said [] all
    (is ∙ ap (λ (m : List Note). merged m []) c.as_slice-else-len-gt0.ensures)
    (omega arith) (omega arith) c.requires.said (c.requires.none none)) c.merged-else-len-gt0.ensures
