use Rattle.sap_locks.proofs.LabelsNew.{labels_are_new, labels_are_open}
use Rattle.sap_locks.proofs.laws.labels_are_right.Goals as goal

pub returns-clause-not_in_scope : goal.returns-clause-not_in_scope
returns-clause-not_in_scope c = labels_are_new

pub returns-clause-ends_open_lock : goal.returns-clause-ends_open_lock
returns-clause-ends_open_lock c = labels_are_open
