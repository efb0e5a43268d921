use Rattle.sap_read_places.proofs.Undefined.{one_undefined_place, some_undefined_place}
use Rattle.sap_read_places.proofs.undefined_laws.undefined_places.Goals as goal

pub returns-clause-one : goal.returns-clause-one
returns-clause-one c = λ z x s t a b.
    one_undefined_place c.one_list_of_bodies.ensures.tokens c.one_list_of_bodies.ensures.bodies a b

pub returns-clause-some : goal.returns-clause-some
returns-clause-some c = λ z x r. some_undefined_place c.undefined_names.ensures c.located_items.ensures.plain z x r
