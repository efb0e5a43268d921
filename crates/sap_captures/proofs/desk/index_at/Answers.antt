use Rattle.std.proofs.Common.{◌≡◌, Some, None, Bool, true, false, sym, ◌∙◌}
use Rattle.sap_stems.specs.StemOf.{IsStemAt}
use Rattle.sap_captures.specs.code.Marks.{definitions_on, main_on}
use Rattle.sap_captures.specs.declared.desk.Desk.{Desk}
use Rattle.sap_captures.proofs.Words.{no_stem, other_stem, this_stem}
use Rattle.sap_captures.proofs.desk.index_at.Goals as goal

not_both : {b : Bool} → b ≡ false → b ≡ true → ⊥
not_both f t = let clash : false ≡ true = sym f ∙ t in cc (clash)

pub returns-in-None-clause-is : goal.returns-in-None-clause-is
returns-in-None-clause-is c = λ path trail.
    let d : Desk = c.args.desk.now in
    let at : IsStemAt (definitions_on d) (main_on d).process (main_on d).behind path c.args.node None =
    rw c.in-None.is at (c.in_ok-stem_in.ensures d.file.now.processes.behind (main_on d).process (main_on d).behind path c.requires.desk.count trail) in
    no_stem c.nodes_have_stems.ensures.one d c.args.kind path c.args.node at

pub returns-then-is_from-clause-is : goal.returns-then-is_from-clause-is
returns-then-is_from-clause-is c = λ path trail.
    let d : Desk = c.args.desk.now in
    let at : IsStemAt (definitions_on d) (main_on d).process (main_on d).behind path c.args.node (Some c.in-Some.stem) =
    rw c.in-Some.is at (c.in_ok-stem_in.ensures d.file.now.processes.behind (main_on d).process (main_on d).behind path c.requires.desk.count trail) in
    this_stem c.nodes_have_stems.ensures.one d c.args.kind path c.args.node c.in-Some.stem at c.nodes_have_stems.ensures.written (c.is_from.ensures.0 c.if-is_from.true) c.word_index.result c.word_index.ensures.is

pub returns-else-is_from-clause-is : goal.returns-else-is_from-clause-is
returns-else-is_from-clause-is c = λ path trail.
    let d : Desk = c.args.desk.now in
    let at : IsStemAt (definitions_on d) (main_on d).process (main_on d).behind path c.args.node (Some c.in-Some.stem) =
    rw c.in-Some.is at (c.in_ok-stem_in.ensures d.file.now.processes.behind (main_on d).process (main_on d).behind path c.requires.desk.count trail) in
    other_stem c.nodes_have_stems.ensures.one d c.args.kind path c.args.node c.in-Some.stem at (λ f. not_both c.if-is_from.false (c.is_from.ensures.1 f))
