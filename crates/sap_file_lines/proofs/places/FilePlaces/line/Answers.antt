use Rattle.std.proofs.Common.{◌≡◌, List, true, false, Some, sym, ap, ◌∙◌}
use Rattle.sap_macro.specs.Sources.{located}
use Rattle.sap_origin.specs.Definitions.{LocatedDefinition, located_definitions}
use Rattle.sap_file_lines.specs.FileLines.{IsMissing, line_before}
use Rattle.sap_file_lines.specs.code.Spots.{IsSpot}
use Rattle.sap_file_lines.proofs.places.FilePlaces.line.Goals as goal

pub returns-in-None : goal.returns-in-None
returns-in-None c = λ bytes lines are.
    let f = c.args.self.now in
    let ds : List LocatedDefinition = located_definitions f.definitions.now f.behind.now in
    sym (c.lines_are_one.ensures.nowhere bytes f.tokens.now ds (located f.main.now) f.behind_main lines c.args.path.now are.are (rw c.in-None.is at c.in_ok-spot.ensures))

pub returns-in_ok-line_of-in-Some : goal.returns-in_ok-line_of-in-Some
returns-in_ok-line_of-in-Some c = λ bytes lines are.
    let f = c.args.self.now in
    let ds : List LocatedDefinition = located_definitions f.definitions.now f.behind.now in
    let h : IsSpot ds (located f.main.now) f.behind_main c.args.path.now c.in-Some.spot = rw c.in-Some.is at c.in_ok-spot.ensures in
    let no : IsMissing ds (located f.main.now) f.behind_main c.args.path.now h.standing h.place → ⊥ =
    λ m. (let yes = (c.in_ok-is_missing-in-Some.ensures h).1 m in let never : true ≡ false = sym yes ∙ c.if-branch.false in cc (never)) in
    let written = c.lines_are_one.ensures.written bytes f.tokens.now ds (located f.main.now) h.place f.behind_main lines c.args.path.now h.standing are.are h.reaches no in
    ap Some (c.in_ok-line_of-in-Some.ensures bytes are.tokens ∙ ap (line_before bytes f.tokens.now) h.word_is) ∙ sym written
