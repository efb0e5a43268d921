use Rattle.std.proofs.Common.{length, sym, ◌∙◌}
use Rattle.sap_share.proofs.Shapes.{item_below, one-got}
use Rattle.sap_share.proofs.table.Table.one.Goals as goal

pub returns-then-len-eq1-clause-some : goal.returns-then-len-eq1-clause-some
returns-then-len-eq1-clause-some c =
    let ks = c.args.ks.now in (
      item_below (length c.args.self.now.trees) ks 0 c.at.result.now c.requires c.at.ensures,
      one-got c.args.self.now.trees ks c.at.result.now (sym c.len.ensures ∙ c.if-len-eq1.true) c.at.ensures,
    )
