use Rattle.sap_explain.proofs.OnePlace.{one_place_of}
use Rattle.sap_explain.proofs.laws.one_place.Goals as goal

pub returns : goal.returns
returns c z e s t a b = one_place_of z e s t (c.one_stretch.ensures z e) c.path_places.ensures.one (c.read_places.ensures.one z e s t) a b
