use Rattle.std.proofs.Common.{◌≡◌, sym, length, ◌∙◌, ap, subst}
use Rattle.sap_share.specs.Shared.{Shared, node_tree, IsNew}
use Rattle.sap_share.specs.code.Inside.{trees_in, forms_in, sizes_in}
use Rattle.sap_share.proofs.Grown.{new_after, new_node}
use Rattle.sap_share.proofs.Both.{pushed_both, seen_both}
use Rattle.sap_share.proofs.table.Table.add_both.Goals as goal

pub push_both-requires-clause-first : goal.push_both-requires-clause-first
push_both-requires-clause-first c =
    let a = c.self.inside in
    let new = subst (λ (s : Shared). IsNew s.trees c.args.first) (sym c.self.view_is) c.requires.new in
    new_node a.sig a.nodes (trees_in a.rows.items) (forms_in a.rows.items) (sizes_in a.rows.items) c.self.invariant c.args.first new

pub push_both-requires-clause-second : goal.push_both-requires-clause-second
push_both-requires-clause-second c =
    let a = c.self.inside in
    let new = subst (λ (s : Shared). IsNew s.trees c.args.second) (sym c.self.view_is) c.requires.second_new in
    let other = subst (λ (s : Shared). node_tree s.trees c.args.first ≡ node_tree s.trees c.args.second → ⊥) (sym c.self.view_is) c.requires.other in
    new_after a.sig a.nodes (trees_in a.rows.items) (forms_in a.rows.items) (sizes_in a.rows.items) c.self.invariant c.args.first c.args.second new other

pub invariant_of-self-in-Ok-push_both : goal.invariant_of-self-in-Ok-push_both
invariant_of-self-in-Ok-push_both c =
    let a = c.self.inside in
    let r = c.requires in
    rw (c.in-Ok-push_both.ensures.ok, c.put_row-in-Ok-push_both.ensures.rows, c.put_row.ensures.rows, c.reserve.ensures.items)
    (pushed_both a.sig a.nodes a.rows.items c.self.invariant c.args.self.now c.self.view_is c.args.first c.args.second r.below r.held r.new r.normal r.second_below r.second_held r.second_new r.other r.form
    c.len-form.result (c.len-form.ensures ∙ sym c.self.invariant.trees_count ∙ ap (λ (v : Shared). length v.trees) c.self.view_is) c.in-Ok.rows.0 c.in-Ok.ensures.first c.in-Ok.rows.1 c.in-Ok.ensures.second)

pub returns-in-Ok-push_both-clause-ok : goal.returns-in-Ok-push_both-clause-ok
returns-in-Ok-push_both-clause-ok c =
    let a = c.self.inside in
    let r = c.requires in
    rw (c.put_row-in-Ok-push_both.ensures.rows, c.put_row.ensures.rows, c.reserve.ensures.items)
    (seen_both a.sig a.nodes a.rows.items c.self.invariant c.args.self.now c.self.view_is c.args.first c.args.second r.below r.held r.new r.normal r.second_below r.second_held r.second_new r.other r.form
    c.len-form.result (c.len-form.ensures ∙ sym c.self.invariant.trees_count ∙ ap (λ (v : Shared). length v.trees) c.self.view_is) c.in-Ok.rows.0 c.in-Ok.ensures.first c.in-Ok.rows.1 c.in-Ok.ensures.second)
