use Rattle.sap_terms.specs.Tree.{node_count}
use Rattle.sap_share.specs.Shared.{tree_at, node_tree}
use Rattle.sap_share.proofs.Evaluated.{given_form, size_small, size_large}
use Rattle.sap_share.proofs.table.Table.form_within.Goals as goal

pub returns-clause-form : goal.returns-clause-form
returns-clause-form c = given_form c.args.self.now c.intern.new.self c.in_ok-id.id c.normal_of-form.result (node_tree c.args.self.now.trees c.args.node) c.in_ok-id.ensures.ok c.normal_of-form.ensures.form

pub returns-clause-within : goal.returns-clause-within
returns-clause-within c = size_small (node_count (tree_at c.intern.new.self.trees c.normal_of-form.result)) c.args.most c.size.result c.size.ensures c.if-size-most.false c.requires.most

pub returns-then-size-most-clause-large : goal.returns-then-size-most-clause-large
returns-then-size-most-clause-large c = λ _. record {
  form = tree_at c.intern.new.self.trees c.normal_of-form.result;
  is_form = given_form c.args.self.now c.intern.new.self c.in_ok-id.id c.normal_of-form.result (node_tree c.args.self.now.trees c.args.node) c.in_ok-id.ensures.ok c.normal_of-form.ensures.form;
  large = size_large (node_count (tree_at c.intern.new.self.trees c.normal_of-form.result)) c.args.most c.size.result c.size.ensures c.if-size-most.true;
}
