use Rattle.sap_explain.proofs.OtherTold.{one_other_of}
use Rattle.sap_explain.proofs.laws.one_other_place.Goals as goal

pub returns : goal.returns
returns c z e s t a b = one_other_of z e s t (c.one_other_stretch.ensures z e s t) (c.other_read_places.ensures.one z e) a b
