use Rattle.std.proofs.Common.{◌≡◌, sym, subst, ◌∙◌}
use Rattle.std.specs.Prelude.{IfOk}
use Rattle.sap_terms.specs.View.{tree}
use Rattle.sap_terms.specs.declared.term.Term.{Term}
use Rattle.sap_terms.specs.Tree.{trees_of}
use Rattle.sap_terms.specs.Equations.{equations}
use Rattle.sap_rewrite.proofs.Parts.{part_there, part_left, left_as_is, left_true}
use Rattle.sap_rewrite.proofs.reduce.reduce.Goals as goal

pub part_at-requires : goal.part_at-requires
part_at-requires c =
    part_there (equations c.args.sig.now) c.args.f.now (trees_of c.args.args) c.in-Some.k (sym c.place_of_part.ensures ∙ c.in-Some.is)

pub returns-in-Some : goal.returns-in-Some
returns-in-Some c =
    part_left (equations c.args.sig.now) c.args.f.now (trees_of c.args.args) c.in-Some.k _ (sym c.place_of_part.ensures ∙ c.in-Some.is) c.in_ok-part.ensures

pub returns : goal.returns
returns c =
    left_as_is (equations c.args.sig.now) c.args.f.now _ (trees_of c.args.args) c.is_verified.result (sym c.place_of_part.ensures ∙ c.in_default.is) c.is_verified.ensures c.if-is_verified.false c.in_ok-copy.ensures

pub returns-then-is_verified : goal.returns-then-is_verified
returns-then-is_verified c =
    let left = left_true (equations c.args.sig.now) c.args.f.now (trees_of c.args.args) c.is_verified.result (sym c.place_of_part.ensures ∙ c.in_default.is) c.is_verified.ensures c.if-is_verified.true in
    subst (λ u. IfOk c.true_constant.result (λ (r : Term). tree r ≡ u)) left c.true_constant.ensures
