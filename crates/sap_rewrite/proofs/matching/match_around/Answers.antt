use Rattle.std.proofs.Common.{true, false, Some, refl}
use Rattle.sap_terms.specs.View.{tree}
use Rattle.sap_rewrite.specs.code.Walk.{match_tree, skipped}
use Rattle.sap_rewrite.proofs.WalkLemmas.{answered}
use Rattle.sap_rewrite.proofs.Only.{only_fit, no_fit}
use Rattle.sap_rewrite.proofs.matching.match_around.Goals as goal

pub returns-then-branch : goal.returns-then-branch
returns-then-branch c =
    let g = c.args.sig.now in
    let p = tree c.args.pattern.now in
    let t = tree c.args.t.now in
    only_fit g p t c.args.b c.extend.new.b (answered (match_tree (skipped (Some g)) p t) c.args.b c.args.b c.extend.new.b c.in_ok-extend.field-0 true refl c.in_ok-extend.ensures c.if-branch.true)

pub returns-else-branch : goal.returns-else-branch
returns-else-branch c =
    let g = c.args.sig.now in
    let p = tree c.args.pattern.now in
    let t = tree c.args.t.now in
    no_fit g p t c.args.b (answered (match_tree (skipped (Some g)) p t) c.args.b c.args.b c.extend.new.b c.in_ok-extend.field-0 false refl c.in_ok-extend.ensures c.if-branch.false)
