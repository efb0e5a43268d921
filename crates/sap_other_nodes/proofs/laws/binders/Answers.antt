use Rattle.sap_other_nodes.proofs.BinderTold.{flaw_binder, in_scope_so, one_binder_of}
use Rattle.sap_other_nodes.proofs.HeadBinders.{in_head}
use Rattle.sap_other_nodes.proofs.laws.binders.Goals as goal

pub returns-clause-one : goal.returns-clause-one
returns-clause-one c = one_binder_of

pub returns-clause-some : goal.returns-clause-some
returns-clause-some c = flaw_binder c.places_are_by_path.ensures.at_path

pub returns-clause-in_scope : goal.returns-clause-in_scope
returns-clause-in_scope c = in_scope_so c.places_are_by_path.ensures.at_path

pub returns-clause-in_head : goal.returns-clause-in_head
returns-clause-in_head c = in_head
