use Rattle.sap_terms.specs.Equations.{equations}
use Rattle.sap_macro.proofs.AlikeSides.{other_config}
use Rattle.sap_macro.proofs.Following.{alike_run, alike_starts, alike_step}
use Rattle.sap_macro.proofs.GroundForms.{form_is_ground}
use Rattle.sap_macro.proofs.laws.alike_configurations_show_the_same.Goals as goal

pub returns-clause-steps : goal.returns-clause-steps
returns-clause-steps c = λ g. alike_step g (form_is_ground c.normal_forms_are_unique.ensures c.equality_is_kept.ensures (equations g))

pub returns-clause-runs : goal.returns-clause-runs
returns-clause-runs c = λ g. alike_run g (form_is_ground c.normal_forms_are_unique.ensures c.equality_is_kept.ensures (equations g))

pub returns-clause-other_side : goal.returns-clause-other_side
returns-clause-other_side c = other_config

pub returns-clause-starts : goal.returns-clause-starts
returns-clause-starts c = alike_starts
