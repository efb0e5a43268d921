use Rattle.std.proofs.Common.{sym, ◌∙◌}
use Rattle.std.proofs.lemmas.List.{length-map}
use Rattle.std.proofs.lemmas.List.Elements.{length_all_zip}
use Rattle.sap_terms.specs.Equations.{equations}
use Rattle.sap_terms.specs.Modulo.{instance_fact, instance_facts, IsFormOfFact}
use Rattle.sap_terms.specs.Subst.{bound_to}
use Rattle.sap_steps.proofs.evaluation.is_left_same.Goals as goal

pub have_args-requires : goal.have_args-requires
have_args-requires c =
    c.requires.count ∙ sym (length-map c.args.rule.now.left (instance_fact (bound_to c.args.c.now))) ∙ length_all_zip (IsFormOfFact (equations c.args.sig.now)) (instance_facts (bound_to c.args.c.now) c.args.rule.now.left) c.in_ok-left.left c.in_ok-left.ensures.forms

pub returns-clause-same : goal.returns-clause-same
returns-clause-same c = record {
  left = c.in_ok-left.left;
  forms = c.in_ok-left.ensures.forms;
  same = c.have_args.ensures;
  small = c.in_ok-left.ensures.within;
}
