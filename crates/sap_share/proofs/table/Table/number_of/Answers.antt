use Rattle.std.proofs.Common.{sym, subst, length}
use Rattle.std.specs.Prelude.{IfNone}
use Rattle.sap_share.specs.Shared.{Shared, StandsBelow}
use Rattle.sap_share.specs.code.Inside.{trees_in, forms_in, sizes_in, IsNew}
use Rattle.sap_share.proofs.Grown.{new_tree, IfNone_then}
use Rattle.sap_share.proofs.table.Table.number_of.Goals as goal

pub returns-clause-none : goal.returns-clause-none
returns-clause-none c =
    let a = c.self.inside in
    let below = subst (λ (s : Shared). StandsBelow (length s.trees) c.args.node.now) (sym c.self.view_is) c.requires in
    subst (λ (s : Shared). IfNone c.find.result (IsNew s.trees c.args.node.now)) c.self.view_is
    (IfNone_then c.find.result c.find.ensures.none (λ h. new_tree a.sig a.nodes (trees_in a.rows.items) (forms_in a.rows.items) (sizes_in a.rows.items) c.self.invariant c.args.node.now below h))
