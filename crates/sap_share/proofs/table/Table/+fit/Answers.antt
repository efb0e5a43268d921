use Rattle.std.proofs.Common.{◌≡◌, sym, ap, ◌∙◌, subst, length, drop, arith, ◌+◌}
use Rattle.sap_terms.specs.Tree.{apply, trees_of}
use Rattle.sap_terms.specs.View.{tree}
use Rattle.sap_share.specs.Env.{bindings_of}
use Rattle.sap_share.specs.Shared.{tree_at, trees_at, node_tree}
use Rattle.sap_share.specs.code.Matching.{Fails}
use Rattle.sap_share.proofs.Grown.{if_ok}
use Rattle.sap_share.proofs.Shapes.{item_below}
use Rattle.sap_share.proofs.Fitting.{fails_symbol, fails_length, fails_first, fails_later, finds_more, finds_end, fit_rest}
use Rattle.sap_share.proofs.table.Table.+fit.Goals as goal

pub fit-returns-else-not-same-clause-not : goal.fit-returns-else-not-same-clause-not
fit-returns-else-not-same-clause-not t c =
    let ts = c.args.self.now.trees in
    let b = bindings_of ts c.args.env.now in
    let there : apply c.in-App-node.g (trees_of (trees_at ts c.in-App-node.ks)) ≡ tree_at ts c.args.id = ap (node_tree ts) (sym c.in-App-node.is) ∙ c.node-in-App.ensures.tree in
    if_ok c.fit_all.result (λ r h off. rw c.in-App.is (subst (λ u. Fails (apply c.in-App.f (trees_of c.in-App.ps)) u b) there
    (fails_symbol c.in-App.f c.in-App-node.g (trees_of c.in-App.ps) (trees_of (trees_at ts c.in-App-node.ks)) b (h off)))) c.fit_all.ensures.not

pub fit_all-returns-then-len-clause-not : goal.fit_all-returns-then-len-clause-not
fit_all-returns-then-len-clause-not t c = λ _.
    let ts = c.args.self.now.trees in
    fails_length ts c.args.ps.now c.args.ks.now (bindings_of ts c.args.env.now) (λ e. c.if-len.true (c.len.ensures ∙ e ∙ sym c.len-2.ensures))

pub fit_all-fit-requires : goal.fit_all-fit-requires
fit_all-fit-requires t c =
    let g = c.at.ensures.smaller in
    let d = c.decreases in
    (omega (arith, g, d), (item_below (length c.args.self.now.trees) c.args.ks.now c.loop-i.i c.at-in-loop-i.result.now c.requires.ks c.at-in-loop-i.ensures, c.loop-i.invariant.below))

pub fit_all-returns-then-not-branch-clause-not : goal.fit_all-returns-then-not-branch-clause-not
fit_all-returns-then-not-branch-clause-not t c = λ _.
    let ts = c.args.self.now.trees in
    let i = c.loop-i.i in
    let p = tree c.at.result.now in
    let k = c.at-in-loop-i.result.now in
    let b = bindings_of ts c.loop-i.env in
    let rest = fit_rest ts c.args.ps.now c.args.ks.now i p k c.at.ensures.got c.at-in-loop-i.ensures in
    c.loop-i.invariant.fails (rw (rest.0, rest.1)
    (fails_first c.extensions_join.ensures p (tree_at ts k) (trees_of (drop (i + 1) c.args.ps.now)) (trees_of (trees_at ts (drop (i + 1) c.args.ks.now))) b b (c.in_ok-fit.ensures.not c.if-not-branch.true)))

pub fit_all-loop-i-preserved : goal.fit_all-loop-i-preserved
fit_all-loop-i-preserved t c =
    let ts = c.args.self.now.trees in
    let i = c.loop-i.i in
    let p = tree c.at.result.now in
    let k = c.at-in-loop-i.result.now in
    let b = bindings_of ts c.loop-i.env in
    let d = bindings_of ts c.fit.new.env in
    let ps = trees_of (drop (i + 1) c.args.ps.now) in
    let us = trees_of (trees_at ts (drop (i + 1) c.args.ks.now)) in
    let rest = fit_rest ts c.args.ps.now c.args.ks.now i p k c.at.ensures.got c.at-in-loop-i.ensures in
    let first = c.in_ok-fit.ensures.yes c.if-not-branch.false in
    record {
      finds = λ e x. c.loop-i.invariant.finds e (rw (rest.0, rest.1) (finds_more c.extensions_join.ensures p (tree_at ts k) ps us b d e first x));
      fails = λ x. c.loop-i.invariant.fails (rw (rest.0, rest.1) (fails_later c.extensions_join.ensures p (tree_at ts k) ps us b d first x));
      below = c.in_ok-fit.ensures.below;
    }

pub fit_all-returns-clause-yes : goal.fit_all-returns-clause-yes
fit_all-returns-clause-yes t c = λ _.
    let ts = c.args.self.now.trees in
    let b = bindings_of ts c.loop-i.env in
    let n = c.len.ensures in
    let m = c.len-2.ensures in
    let l = c.len-i-end.ensures in
    let same = c.if-len.false in
    let end = c.loop-i-test.false in
    c.loop-i.invariant.finds b (finds_end ts c.args.ps.now c.args.ks.now c.loop-i.i b (omega (arith, l, end)) (omega (arith, n, m, l, same, end)))
