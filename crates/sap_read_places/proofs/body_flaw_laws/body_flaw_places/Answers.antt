use Rattle.std.proofs.Common.{refl}
use Rattle.sap_read_places.proofs.BodyFlawOne.{one_body_flaw_place}
use Rattle.sap_read_places.proofs.BodyFlawSome.{body_flaw_told, refused_flawed}
use Rattle.sap_read_places.proofs.body_flaw_laws.body_flaw_places.Goals as goal

pub returns-clause-one : goal.returns-clause-one
returns-clause-one c = λ z name w path s t a b.
    one_body_flaw_place c.one_placed_file.ensures.tokens c.one_placed_file.ensures.definitions c.one_parting.ensures.items c.one_list_of_items.ensures.own c.seen_places.ensures.one
    c.one_head.ensures c.nodes_of_flaws.ensures.one c.places_are_by_path.ensures.in_order z name w path s t a b

pub returns-clause-some : goal.returns-clause-some
returns-clause-some c = λ z name w path read.
    refused_flawed c.located_items.ensures.plain z
    (λ ts x cut is parted items nothing m is_main p y v q first.
    body_flaw_told c.bodies_are_spelled.ensures c.some_head.ensures.parallel c.nodes_of_flaws.ensures.some c.located_items.ensures.plain c.definitions_are_in_order.ensures.order
    c.seen_places.ensures.some c.seen_places.ensures.written c.seen_nodes_have_numbers.ensures c.plain_names_stand_for_bodies.ensures.bodies c.names_stand_for_definitions.ensures.stand
    c.bodies_use_earlier_names.ensures.defined c.places_are_by_path.ensures.at_path
    z ts x cut is parted items nothing m is_main p y v q first)
    name w path refl read
