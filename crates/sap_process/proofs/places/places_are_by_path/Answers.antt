use Rattle.sap_process.proofs.PlacesListed.{at_path, is_listed, own_path, in_order}
use Rattle.sap_process.proofs.places.places_are_by_path.Goals as goal

pub returns-clause-at_path : goal.returns-clause-at_path
returns-clause-at_path g c = at_path g.D.HandsDown.below

pub returns-clause-listed : goal.returns-clause-listed
returns-clause-listed g c = is_listed g.D.HandsDown.below

pub returns-clause-path : goal.returns-clause-path
returns-clause-path g c = own_path g.D.HandsDown.below

pub returns-clause-in_order : goal.returns-clause-in_order
returns-clause-in_order g c = in_order g.D.HandsDown.below
