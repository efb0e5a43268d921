use Rattle.sap_process.proofs.GroundRuns.{well_ground, runs_keep, labels_hold}
use Rattle.sap_process.proofs.laws.runs_stay_ground.Goals as goal

pub returns-clause-ground : goal.returns-clause-ground
returns-clause-ground c = well_ground

pub returns-clause-runs : goal.returns-clause-runs
returns-clause-runs c = runs_keep c.forms_are_messages.ensures

pub returns-clause-labels : goal.returns-clause-labels
returns-clause-labels c = labels_hold c.normal_forms_are_unique.ensures c.forms_are_messages.ensures
