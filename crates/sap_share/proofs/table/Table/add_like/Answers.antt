use Rattle.sap_terms.specs.Equations.{equations}
use Rattle.sap_share.specs.Shared.{node_tree}
use Rattle.sap_share.proofs.Grown.{node_ground, node_over, over_held}
use Rattle.sap_share.proofs.Reduced.{form_at}
use Rattle.sap_share.proofs.Came.{came_alone, came_second, if_both}
use Rattle.sap_share.proofs.table.Table.add_like.Goals as goal

pub add-requires-clause-form : goal.add-requires-clause-form
add-requires-clause-form c =
    let s = c.args.self.now in
    form_at (equations s.sig) s.trees c.args.node c.in-Some.k c.in-Some.ensures.found.0 (rw c.in-Some.ensures.found.1 c.requires.form.1)

pub add_both-requires-clause-held : goal.add_both-requires-clause-held
add_both-requires-clause-held c =
    let s = c.args.self.now in
    let over = node_over s.sig s.trees c.each_is_over.ensures c.args.node c.requires.below c.requires.held in
    let ground = node_ground s.trees c.each_is_ground.ensures c.args.node c.requires.below in
    let message = c.forms_are_messages.ensures s.sig (node_tree s.trees c.args.node) (node_tree s.trees c.args.form) (rw c.signature.ensures at c.builtins_are_held.ensures) ground over c.requires.form.1 in
    over_held s.sig s.trees c.args.form message.over

pub returns-in-Some-clause-came : goal.returns-in-Some-clause-came
returns-in-Some-clause-came c = if_both c.add.result (λ k last is. came_alone c.args.self.now c.add.new.self _ k last is) c.add.ensures.number c.add.ensures.ok

pub returns-in-None-clause-came : goal.returns-in-None-clause-came
returns-in-None-clause-came c = if_both c.add_both.result (λ k last is. came_second c.args.self.now c.add_both.new.self _ _ k last is) c.add_both.ensures.number c.add_both.ensures.ok
