use Rattle.std.proofs.Common.{refl}
use Rattle.sap_read_places.proofs.FlawOne.{one_flaw_place}
use Rattle.sap_read_places.proofs.FlawSome.{flaw_told, refused_ill}
use Rattle.sap_read_places.proofs.flaw_laws.flaw_places.Goals as goal

pub returns-clause-one : goal.returns-clause-one
returns-clause-one c = λ z w path s t a b.
    one_flaw_place c.one_placed_file.ensures.tokens c.one_placed_file.ensures.definitions c.one_placed_file.ensures.main c.one_parting.ensures.items c.one_list_of_items.ensures.own
    c.nodes_have_stems.ensures.one c.one_head.ensures c.path_places.ensures.one c.nodes_of_flaws.ensures.one c.filled_scopes.ensures.one c.sites_are_the_places.ensures.in_order z w path s t a b

pub returns-clause-some : goal.returns-clause-some
returns-clause-some c = λ z w path read.
    refused_ill z
    (λ ts x cut is parted items nothing p whole v q first.
    flaw_told c.bodies_are_spelled.ensures c.some_head.ensures.parallel c.nodes_of_flaws.ensures.some c.filled_scopes.ensures.some c.located_items.ensures.plain
    c.definitions_are_in_order.ensures.order c.definitions_are_in_order.ensures.uses c.nodes_have_stems.ensures.some c.nodes_have_stems.ensures.as_many c.nodes_have_stems.ensures.written
    c.sites_are_the_places.ensures.at_path c.path_places.ensures.some z ts x cut is parted items nothing p whole v q first)
    w path refl read
