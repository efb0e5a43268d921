use Rattle.sap_process.proofs.PlacesOrdered.{not_itself, ordered, onward, above, left}
use Rattle.sap_process.proofs.places.places_are_ordered.Goals as goal

pub returns-clause-not_itself : goal.returns-clause-not_itself
returns-clause-not_itself c = not_itself

pub returns-clause-ordered : goal.returns-clause-ordered
returns-clause-ordered c = ordered

pub returns-clause-onward : goal.returns-clause-onward
returns-clause-onward c = onward

pub returns-clause-above : goal.returns-clause-above
returns-clause-above c = above

pub returns-clause-left : goal.returns-clause-left
returns-clause-left c = left
