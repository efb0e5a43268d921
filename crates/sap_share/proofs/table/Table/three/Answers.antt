use Rattle.std.proofs.Common.{length, sym, ◌∙◌}
use Rattle.sap_share.proofs.Shapes.{item_below, three-got}
use Rattle.sap_share.proofs.table.Table.three.Goals as goal

pub returns-then-len-eq3-clause-some : goal.returns-then-len-eq3-clause-some
returns-then-len-eq3-clause-some c =
    let ks = c.args.ks.now in
    let count = length c.args.self.now.trees in
    let a = c.at.result.now in
    let b = c.at-then-len-eq3.result.now in
    let d = c.at-then-len-eq3-2.result.now in (
      item_below count ks 0 a c.requires c.at.ensures,
      item_below count ks 1 b c.requires c.at-then-len-eq3.ensures,
      item_below count ks 2 d c.requires c.at-then-len-eq3-2.ensures,
      three-got c.args.self.now.trees ks a b d (sym c.len.ensures ∙ c.if-len-eq3.true) c.at.ensures c.at-then-len-eq3.ensures c.at-then-len-eq3-2.ensures,
    )
