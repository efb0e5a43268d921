use Rattle.std.proofs.Common.{refl}
use Rattle.sap_process.proofs.by_hand.instances_by_hand.Goals as goal

pub returns-clause-outputs : goal.returns-clause-outputs
returns-clause-outputs c = refl

pub returns-clause-inputs : goal.returns-clause-inputs
returns-clause-inputs c = refl

pub returns-clause-named : goal.returns-clause-named
returns-clause-named c = refl

pub returns-clause-by_name : goal.returns-clause-by_name
returns-clause-by_name c = refl

pub returns-clause-other_name : goal.returns-clause-other_name
returns-clause-other_name c = refl

pub returns-clause-looks_up : goal.returns-clause-looks_up
returns-clause-looks_up c = refl

pub returns-clause-looks_up_other : goal.returns-clause-looks_up_other
returns-clause-looks_up_other c = refl

pub returns-clause-everywhere : goal.returns-clause-everywhere
returns-clause-everywhere c = refl
