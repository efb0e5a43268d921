use Rattle.std.proofs.Common.{◌≡◌, ◌<◌, ℕ, List, length, arith, sym, ap, ◌∙◌, subst}
use Rattle.std.proofs.lemmas.List.{length-map}
use Rattle.sap_terms.specs.Tree.{Tree, apply, trees_of}
use Rattle.sap_share.specs.Shared.{tree_at, trees_at, node_tree, StandsBelow}
use Rattle.sap_share.specs.declared.node.Node.{Node}
use Rattle.sap_share.specs.declared.node.Node.TheVariants.{App}
use Rattle.sap_derive.specs.code.Shapes.{IsShapeOf}
use Rattle.sap_derive.proofs.Gets.{two-items, all-got}
use Rattle.sap_derive.proofs.Shaped.{not_two-unopened}
use Rattle.sap_derive.proofs.shape.shape_of.Goals as goal

pub returns-then-len-ne2 : goal.returns-then-len-ne2
returns-then-len-ne2 c =
    let trees = c.args.table.now.trees in
    let ks = c.in-App.ks in
    let e : node_tree trees (App c.in-App.f ks) ≡ tree_at trees c.args.n = subst (λ (n : Node). node_tree trees n ≡ tree_at trees c.args.n) c.in-App.is c.node.ensures.tree in
    let other : ¬ (length (trees_at trees ks) ≡ 2) = λ h. c.if-len-ne2.true (c.len.ensures ∙ sym (length-map ks (tree_at trees)) ∙ h) in
    not_two-unopened c.in-App.f (trees_at trees ks) (tree_at trees c.args.n) e other

pub shape_on-requires-clause-first : goal.shape_on-requires-clause-first
shape_on-requires-clause-first c =
    let below : StandsBelow c.args.n (App c.in-App.f c.in-App.ks) = subst (λ (n : Node). StandsBelow c.args.n n) c.in-App.is c.node.ensures.below in
    let low = all-got (λ k. k < c.args.n) c.in-App.ks 0 c.at.result.now below c.at.ensures in
    let within = c.requires in
    omega (arith, low)

pub shape_on-requires-clause-second : goal.shape_on-requires-clause-second
shape_on-requires-clause-second c =
    let below : StandsBelow c.args.n (App c.in-App.f c.in-App.ks) = subst (λ (n : Node). StandsBelow c.args.n n) c.in-App.is c.node.ensures.below in
    let low = all-got (λ k. k < c.args.n) c.in-App.ks 1 c.at-in-App.result.now below c.at-in-App.ensures in
    let within = c.requires in
    omega (arith, low)

pub returns-else-len-ne2 : goal.returns-else-len-ne2
returns-else-len-ne2 c =
    let trees = c.args.table.now.trees in
    let ks = c.in-App.ks in
    let e : node_tree trees (App c.in-App.f ks) ≡ tree_at trees c.args.n = subst (λ (n : Node). node_tree trees n ≡ tree_at trees c.args.n) c.in-App.is c.node.ensures.tree in
    let both = two-items ks c.at.result.now c.at-in-App.result.now (sym c.len.ensures ∙ c.if-len-ne2.false) c.at.ensures c.at-in-App.ensures in
    subst (λ (t : Tree). IsShapeOf trees t c.shape_on.result) (sym (ap (λ (js : List ℕ). apply c.in-App.f (trees_of (trees_at trees js))) both) ∙ e) c.shape_on.ensures
