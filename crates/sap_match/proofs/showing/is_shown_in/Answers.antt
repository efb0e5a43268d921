use Rattle.std.proofs.Common.{◌∙◌, ap, length, map, refl, sym}
use Rattle.std.proofs.Math.ListN.{drop_of_length-le}
use Rattle.std.proofs.lemmas.Option.{slice_get_read}
use Rattle.std.specs.List.{list_any}
use Rattle.sap_match.proofs.ShownFacts.{fact_passed, fact_shown}
use Rattle.sap_match.specs.Matched.{fits_atom}
use Rattle.sap_match.specs.View.{atom, held}
use Rattle.sap_match.specs.code.Digests.{fact_in}
use Rattle.sap_match.proofs.showing.is_shown_in.Goals as goal

pub returns-then-branch-clause-answer : goal.returns-then-branch-clause-answer
returns-then-branch-clause-answer c =
    let xs = c.args.facts.now in
    let p = fits_atom c.args.n.now (atom c.args.a.now) (map held c.args.values.now.items) in
    let got = slice_get_read xs (length xs) c.loop-x.x-index c.x-item.result refl c.loop-x-test.true c.x-item.is in
    let there = ap (λ vs. fits_atom c.args.n.now (atom c.args.a.now) (map held vs) c.x-item.result.now) (sym c.loop-x.invariant.same) ∙ sym c.in_ok-is_shown_by.ensures.answer ∙ c.if-branch.true in
    sym (c.loop-x.invariant.rest ∙ fact_shown p fact_in xs c.loop-x.x-index c.x-item.result got there)

pub loop-x-preserved : goal.loop-x-preserved
loop-x-preserved c =
    let xs = c.args.facts.now in
    let p = fits_atom c.args.n.now (atom c.args.a.now) (map held c.args.values.now.items) in
    let got = slice_get_read xs (length xs) c.loop-x.x-index c.x-item.result refl c.loop-x-test.true c.x-item.is in
    let not_there = ap (λ vs. fits_atom c.args.n.now (atom c.args.a.now) (map held vs) c.x-item.result.now) (sym c.loop-x.invariant.same) ∙ sym c.in_ok-is_shown_by.ensures.answer ∙ c.if-branch.false in record {
      rest = c.loop-x.invariant.rest ∙ fact_passed p fact_in xs c.loop-x.x-index c.x-item.result got not_there;
      same = c.in_ok-is_shown_by.ensures.same ∙ c.loop-x.invariant.same;
    }

pub returns-clause-answer : goal.returns-clause-answer
returns-clause-answer c =
    let p = fits_atom c.args.n.now (atom c.args.a.now) (map held c.args.values.now.items) in
    sym (c.loop-x.invariant.rest ∙ ap (λ l. list_any p (map fact_in l)) (drop_of_length-le c.args.facts.now c.loop-x-test.false))
