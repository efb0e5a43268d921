use Rattle.sap_read_places.proofs.OneOtherFlaw.{one_other_flaw}
use Rattle.sap_read_places.proofs.SomeOtherFlaw.{some_other_flaw}
use Rattle.sap_read_places.proofs.other_laws.other_flaw_places.Goals as goal

pub returns-clause-one : goal.returns-clause-one
returns-clause-one c = λ z w path s t a b.
    one_other_flaw c.binders.ensures.one c.other_facts.ensures.one c.one_placed_file.ensures.tokens c.one_placed_file.ensures.definitions c.one_placed_file.ensures.main c.one_parting.ensures.items
    c.one_list_of_items.ensures.own c.nodes_have_stems.ensures.one c.one_head.ensures c.path_places.ensures.one c.nodes_of_flaws.ensures.one c.filled_scopes.ensures.one
    c.sites_are_the_places.ensures.in_order z w path s t a b

pub returns-clause-some : goal.returns-clause-some
returns-clause-some c = λ z w path of read.
    some_other_flaw c.binders.ensures.in_head c.binders.ensures.some c.other_facts.ensures.some c.bodies_are_spelled.ensures c.some_head.ensures.parallel c.nodes_of_flaws.ensures.some c.filled_scopes.ensures.some
    c.located_items.ensures.plain c.definitions_are_in_order.ensures.order c.definitions_are_in_order.ensures.uses c.nodes_have_stems.ensures.some c.nodes_have_stems.ensures.as_many
    c.nodes_have_stems.ensures.written c.sites_are_the_places.ensures.at_path c.path_places.ensures.some z w path of (c.flaw_places.ensures.some z w path read)
