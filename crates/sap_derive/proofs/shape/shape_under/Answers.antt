use Rattle.std.proofs.Common.{◌≡◌, ◌<◌, length, arith, sym, ap, ◌∙◌, subst, refl}
use Rattle.sap_terms.specs.Equations.{app2, aenc_name}
use Rattle.sap_share.specs.Shared.{tree_at, node_tree, StandsBelow}
use Rattle.sap_share.specs.declared.node.Node.{Node}
use Rattle.sap_share.specs.declared.node.Node.TheVariants.{App}
use Rattle.sap_derive.proofs.Gets.{only-item, all-got}
use Rattle.sap_derive.proofs.Shaped.{key-public, key-of_others}
use Rattle.sap_derive.proofs.shape.shape_under.Goals as goal

pub returns-then-len-ne1 : goal.returns-then-len-ne1
returns-then-len-ne1 c =
    let trees = c.args.table.now.trees in
    let e : node_tree trees (App c.in-App.f c.in-App.ks) ≡ tree_at trees c.args.key = subst (λ (n : Node). node_tree trees n ≡ tree_at trees c.args.key) c.in-App.is c.node.ensures.tree in
    let other : ¬ (length c.in-App.ks ≡ 1) = λ h. c.if-len-ne1.true (c.len.ensures ∙ h) in
    key-of_others (tree_at trees c.args.message) trees c.args.key c.in-App.f c.in-App.ks e other

pub returns-else-len-ne1 : goal.returns-else-len-ne1
returns-else-len-ne1 c =
    let trees = c.args.table.now.trees in
    let ks = c.in-App.ks in
    let s = c.at-secret.result.now in
    let e : node_tree trees (App c.in-App.f ks) ≡ tree_at trees c.args.key = subst (λ (n : Node). node_tree trees n ≡ tree_at trees c.args.key) c.in-App.is c.node.ensures.tree in
    let below : StandsBelow c.args.key (App c.in-App.f ks) = subst (λ (n : Node). StandsBelow c.args.key n) c.in-App.is c.node.ensures.below in
    let one : length ks ≡ 1 = sym c.len.ensures ∙ c.if-len-ne1.false in
    let low = all-got (λ k. k < c.args.key) ks 0 s below c.at-secret.ensures in
    let key_below = c.requires.key in
    (c.requires.message, omega (arith, low), ap (λ k. app2 aenc_name (tree_at trees c.args.message) k) (key-public trees c.args.key s c.in-App.f ks e (c.if-not-is.ensures.equal.0 refl) (only-item ks s one c.at-secret.ensures)))
