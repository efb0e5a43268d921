use Rattle.sap_origin.specs.declared.trail.Replaced.TheVariants.{Every}
use Rattle.sap_read_places.proofs.Along.{PlacesStand, one_at_path, place_stands, refused_at}
use Rattle.sap_read_places.proofs.laws.path_places.Goals as goal

pub returns-clause-one : goal.returns-clause-one
returns-clause-one c = λ z path s t a b.
    one_at_path c.one_placed_file.ensures.tokens c.one_placed_file.ensures.definitions c.one_placed_file.ensures.main (λ ds. c.one_written_place.ensures.one ds Every) z path s t a b

pub returns-clause-some : goal.returns-clause-some
returns-clause-some c =
    place_stands c.located_items.ensures.plain c.definitions_are_in_order.ensures.order c.definitions_are_in_order.ensures.uses c.expansions_are_meant.ensures c.one_written_place.ensures.some

pub returns-clause-refused : goal.returns-clause-refused
returns-clause-refused c = λ z e path h read.
    let stands : PlacesStand =
    place_stands c.located_items.ensures.plain c.definitions_are_in_order.ensures.order c.definitions_are_in_order.ensures.uses c.expansions_are_meant.ensures c.one_written_place.ensures.some in
    refused_at stands c.lock_places_are_by_path.ensures.ways z path h read
