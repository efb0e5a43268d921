use Rattle.sap_read_places.proofs.Limits.{has_limit, one_level_beyond, one_place_beyond}
use Rattle.sap_read_places.proofs.limit_laws.limit_places.Goals as goal

pub returns-clause-one_place : goal.returns-clause-one_place
returns-clause-one_place c = one_place_beyond c.one_placed_file.ensures.definitions c.one_placed_file.ensures.main c.path_places.ensures.one c.one_numbered.ensures.one

pub returns-clause-some_place : goal.returns-clause-some_place
returns-clause-some_place c = λ z r.
    has_limit c.located_items.ensures.plain c.definitions_are_in_order.ensures.order c.definitions_are_in_order.ensures.uses c.expansions_are_meant.ensures c.one_written_place.ensures.some
    c.sites_are_the_places.ensures.at_path c.one_numbered.ensures.some c.one_first_deep.ensures.some z r

pub returns-clause-one_level : goal.returns-clause-one_level
returns-clause-one_level c = one_level_beyond c.one_placed_file.ensures.definitions c.one_placed_file.ensures.main c.path_places.ensures.one c.one_first_deep.ensures.one

pub returns-clause-some_level : goal.returns-clause-some_level
returns-clause-some_level c = λ z r.
    has_limit c.located_items.ensures.plain c.definitions_are_in_order.ensures.order c.definitions_are_in_order.ensures.uses c.expansions_are_meant.ensures c.one_written_place.ensures.some
    c.sites_are_the_places.ensures.at_path c.one_numbered.ensures.some c.one_first_deep.ensures.some z r
