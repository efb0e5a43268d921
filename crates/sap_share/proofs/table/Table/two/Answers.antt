use Rattle.std.proofs.Common.{length, sym, ◌∙◌}
use Rattle.sap_share.proofs.Shapes.{item_below, two-got}
use Rattle.sap_share.proofs.table.Table.two.Goals as goal

pub returns-then-len-eq2-clause-some : goal.returns-then-len-eq2-clause-some
returns-then-len-eq2-clause-some c =
    let ks = c.args.ks.now in
    let count = length c.args.self.now.trees in (
      item_below count ks 0 c.at.result.now c.requires c.at.ensures,
      item_below count ks 1 c.at-then-len-eq2.result.now c.requires c.at-then-len-eq2.ensures,
      two-got c.args.self.now.trees ks c.at.result.now c.at-then-len-eq2.result.now (sym c.len.ensures ∙ c.if-len-eq2.true) c.at.ensures c.at-then-len-eq2.ensures,
    )
