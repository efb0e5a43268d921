use Rattle.std.proofs.Common.{length, ap, sym, subst, ◌∙◌}
use Rattle.sap_share.specs.Shared.{Shared, IsNew}
use Rattle.sap_share.specs.code.Inside.{trees_in, forms_in, sizes_in}
use Rattle.sap_share.proofs.Grown.{new_node}
use Rattle.sap_share.proofs.Pushed.{pushed_row, pushed_view}
use Rattle.sap_share.proofs.table.Table.add.Goals as goal

pub push-requires : goal.push-requires
push-requires c =
    let a = c.self.inside in
    let new = subst (λ (s : Shared). IsNew s.trees c.args.node) (sym c.self.view_is) c.requires.new in
    new_node a.sig a.nodes (trees_in a.rows.items) (forms_in a.rows.items) (sizes_in a.rows.items) c.self.invariant c.args.node new

pub invariant_of-self-in-Ok-push : goal.invariant_of-self-in-Ok-push
invariant_of-self-in-Ok-push c =
    let a = c.self.inside in
    let r = c.requires in
    rw (c.in-Ok-push.ensures.ok, c.put_row.ensures.rows, c.reserve.ensures.items)
    (pushed_row a.sig a.nodes a.rows.items c.self.invariant c.args.self.now c.self.view_is c.args.node r.below r.held r.new c.args.form r.form_below r.form c.in-Ok.row c.in-Ok.ensures)

pub returns-in-Ok-push-clause-ok : goal.returns-in-Ok-push-clause-ok
returns-in-Ok-push-clause-ok c =
    let a = c.self.inside in
    rw (c.put_row.ensures.rows, c.reserve.ensures.items)
    (pushed_view a.sig a.rows.items c.args.self.now c.self.view_is c.args.node c.args.form c.in-Ok.row c.in-Ok.ensures)

pub returns-in-Ok-push-clause-number : goal.returns-in-Ok-push-clause-number
returns-in-Ok-push-clause-number c = c.len-number.ensures ∙ sym c.self.invariant.trees_count ∙ ap (λ (v : Shared). length v.trees) c.self.view_is
