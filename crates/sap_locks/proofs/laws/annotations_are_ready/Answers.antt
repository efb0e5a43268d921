use Rattle.std.proofs.Common.{sym}
use Rattle.sap_locks.proofs.SameFlaws.{well_formed_same}
use Rattle.sap_locks.proofs.SameSorts.{ready_annotation}
use Rattle.sap_locks.proofs.laws.annotations_are_ready.Goals as goal

pub returns-clause-well_formed : goal.returns-clause-well_formed
returns-clause-well_formed c g p q h a = well_formed_same g p q (sym a.same) h

pub returns-clause-ready : goal.returns-clause-ready
returns-clause-ready c = ready_annotation
