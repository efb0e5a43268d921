use Rattle.sap_read_places.proofs.FaultyParts.{one_part_place, some_part_place}
use Rattle.sap_read_places.proofs.part_laws.part_places.Goals as goal

pub returns-clause-one : goal.returns-clause-one
returns-clause-one c =
    one_part_place c.one_parting.ensures.tokens c.one_parting.ensures.items c.one_list_of_items.ensures.own c.one_fault.ensures.fault c.one_fault.ensures.none c.statements_and_words.ensures.same

pub returns-clause-some : goal.returns-clause-some
returns-clause-some c = some_part_place c.statements_and_words.ensures.parts
