use Rattle.std.proofs.Common.{◌≡◌, ℕ, List, inl, inr, subst}
use Rattle.std.proofs.lemmas.Result.{on_ok_weaker}
use Rattle.sap_terms.specs.Tree.{apply, trees_of}
use Rattle.sap_share.specs.Shared.{tree_at, trees_at, node_tree, StandsBelow}
use Rattle.sap_share.specs.declared.node.Node.{Node}
use Rattle.sap_share.specs.declared.node.Node.TheVariants.{App}
use Rattle.sap_derive.specs.code.Listed.{IsListed, AreListed}
use Rattle.sap_derive.proofs.Parts.{part-term, parts-listed}
use Rattle.sap_derive.proofs.state.list_parts.Goals as goal

pub returns-in-App-clause-only : goal.returns-in-App-clause-only
returns-in-App-clause-only c m l =
    let trees = c.args.table.now.trees in
    let f = c.in-App.field-0 in
    let ks = c.in-App.ks in
    let e : apply f (trees_of (trees_at trees ks)) ≡ tree_at trees c.args.n = subst (λ (n : Node). node_tree trees n ≡ tree_at trees c.args.n) c.in-App.is c.node.ensures.tree in
    let below : StandsBelow c.args.n (App f ks) = subst (λ (n : Node). StandsBelow c.args.n n) c.in-App.is c.node.ensures.below in
    let listed = λ (x : IsListed c.as_slice.result.now m). subst (λ (js : List ℕ). IsListed js m) c.as_slice.ensures x in
    elim (c.list_all.ensures.only m l) [ inl x ↦ inl x | inr x ↦ inr (let y = listed x in part-term c.args.table.now.sig trees c.args.n c.requires f ks e below y.0 m y.1) ]

pub returns-in-App-clause-ok : goal.returns-in-App-clause-ok
returns-in-App-clause-ok c =
    let trees = c.args.table.now.trees in
    let f = c.in-App.field-0 in
    let ks = c.in-App.ks in
    let e : apply f (trees_of (trees_at trees ks)) ≡ tree_at trees c.args.n = subst (λ (n : Node). node_tree trees n ≡ tree_at trees c.args.n) c.in-App.is c.node.ensures.tree in
    let below : StandsBelow c.args.n (App f ks) = subst (λ (n : Node). StandsBelow c.args.n n) c.in-App.is c.node.ensures.below in
    let parts = λ (x : AreListed c.list_all.new.items c.as_slice.result.now).
    parts-listed c.args.table.now.sig trees c.args.n c.requires f ks e below c.list_all.new.items (subst (λ (js : List ℕ). AreListed c.list_all.new.items js) c.as_slice.ensures x) in
    on_ok_weaker c.list_all.result parts c.list_all.ensures.ok
