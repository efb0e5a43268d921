use Rattle.std.proofs.Common.{sym, ◌∙◌}
use Rattle.sap_share.specs.Env.{given}
use Rattle.sap_share.specs.Shared.{tree_at}
use Rattle.sap_calc.proofs.Replaced.{given_here, given_behind, told}
use Rattle.sap_calc.proofs.under.given_term.Goals as goal

pub returns-then-same : goal.returns-then-same
returns-then-same c =
    let ts = c.args.table.now.trees in
    let e = c.at-bound.result.now in
    let here = given_here ts c.args.env.now c.loop-k.k e c.args.v.now c.at-bound.ensures (sym c.same.ensures.test ∙ c.if-same.true) in
    told (tree_at ts e.id) (given ts c.args.env.now c.args.v.now) c.tree.result (sym here ∙ sym c.loop-k.invariant) c.tree.ensures

pub loop-k-preserved : goal.loop-k-preserved
loop-k-preserved c =
    c.loop-k.invariant ∙ given_behind c.args.table.now.trees c.args.env.now c.loop-k.k c.at-bound.result.now c.args.v.now c.at-bound.ensures (sym c.same.ensures.test ∙ c.if-same.false)
