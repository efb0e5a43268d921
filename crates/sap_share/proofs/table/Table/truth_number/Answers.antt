use Rattle.sap_terms.specs.Equations.{app0, true_name}
use Rattle.sap_share.specs.Shared.{node_tree}
use Rattle.sap_share.specs.declared.node.Node.TheVariants.{App}
use Rattle.sap_share.proofs.Grown.{node_ground, node_over}
use Rattle.sap_share.proofs.table.Table.truth_number.Goals as goal

pub small_number-requires-clause-held : goal.small_number-requires-clause-held
small_number-requires-clause-held c =
    let s = c.args.self.now in
    let node = App c.args.f.now c.args.ks.now in
    let ground = node_ground s.trees c.each_is_ground.ensures node c.requires.below in
    let over = node_over s.sig s.trees c.each_is_over.ensures node c.requires.below c.requires.held in
    let message = c.forms_are_messages.ensures s.sig (node_tree s.trees node) (app0 true_name) (rw c.signature.ensures at c.builtins_are_held.ensures) ground over c.requires.form in
    rw (c.in_ok-name.ensures, c.new.ensures) message.over.0
