use Rattle.std.proofs.Common.{◌≡◌, ℕ, List, sym, subst}
use Rattle.sap_terms.specs.Tree.{public}
use Rattle.sap_share.specs.Shared.{tree_at, node_tree}
use Rattle.sap_share.specs.declared.node.Node.{Node}
use Rattle.sap_derive.specs.code.Clauses.{IsNumbered}
use Rattle.sap_derive.specs.declared.line.Line.TheVariants.{Public}
use Rattle.sap_derive.proofs.Brought.{written-numbered}
use Rattle.sap_derive.proofs.bring.make.Goals as goal

pub add-requires-clause-this : goal.add-requires-clause-this
add-requires-clause-this c =
    let trees = c.args.table.now.trees in
    let g = c.args.table.now.sig in
    let e : public c.in-Public.name ≡ tree_at trees c.args.n = subst (λ (m : Node). node_tree trees m ≡ tree_at trees c.args.n) c.in-Public.is c.node.ensures.tree in
    subst (λ (a : List ℕ). IsNumbered g trees (record { line = Public a; gives = c.args.n })) (sym c.in_ok-copy-in-Public.ensures) (written-numbered g trees c.in-Public.name c.args.n c.requires.number e)
