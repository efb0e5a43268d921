use Rattle.std.proofs.Common.{true, false, None}
use Rattle.sap_terms.specs.View.{tree}
use Rattle.sap_rewrite.specs.code.Walk.{match_tree, skipped}
use Rattle.sap_rewrite.proofs.WalkLemmas.{answered}
use Rattle.sap_rewrite.proofs.Only.{only_match, no_match}
use Rattle.sap_rewrite.proofs.matching.match_pattern.Goals as goal

pub returns-then-branch : goal.returns-then-branch
returns-then-branch c =
    let p = tree c.args.pattern.now in
    let t = tree c.args.t.now in
    only_match p t c.args.b.now c.extend.new.b (answered (match_tree (skipped None) p t) c.args.b.now c.in_ok-c.c c.extend.new.b c.in_ok-extend.field-0 true c.in_ok-c.ensures c.in_ok-extend.ensures c.if-branch.true)

pub returns-else-branch : goal.returns-else-branch
returns-else-branch c =
    let p = tree c.args.pattern.now in
    let t = tree c.args.t.now in
    no_match p t c.args.b.now (answered (match_tree (skipped None) p t) c.args.b.now c.in_ok-c.c c.extend.new.b c.in_ok-extend.field-0 false c.in_ok-c.ensures c.in_ok-extend.ensures c.if-branch.false)
