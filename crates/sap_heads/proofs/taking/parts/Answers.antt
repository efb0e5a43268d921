use Rattle.std.proofs.Common.{sym, ap, ◌∙◌}
use Rattle.sap_share.specs.Shared.{node_tree}
use Rattle.sap_heads.proofs.Pairs.{two_numbers, pair_of}
use Rattle.sap_heads.proofs.taking.parts.Goals as goal

pub returns-then-len-ne2 : goal.returns-then-len-ne2
returns-then-len-ne2 c = λ y z h.
    let ts = c.args.table.now.trees in
    c.if-len-ne2.true (c.len.ensures ∙ two_numbers ts c.in-App.f c.in-App.ks y z (sym (ap (node_tree ts) c.in-App.is) ∙ c.node.ensures.tree ∙ h))

pub returns-else-len-ne2 : goal.returns-else-len-ne2
returns-else-len-ne2 c =
    let ts = c.args.table.now.trees in
    pair_of ts c.args.e c.in-App.f c.in-App.ks c.at.result.now c.at-in-App.result.now c.requires (c.is.ensures.equal.0 c.if-not-is.false) (sym (ap (node_tree ts) c.in-App.is) ∙ c.node.ensures.tree) (sym c.len.ensures ∙ c.if-len-ne2.false) c.at.ensures c.at-in-App.ensures (rw c.in-App.is at c.node.ensures.below)
