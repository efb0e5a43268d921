use Rattle.sap_read_places.proofs.Undefined.{has_same_bodies, has_same_tokens}
use Rattle.sap_read_places.proofs.undefined_laws.one_list_of_bodies.Goals as goal

pub returns-clause-tokens : goal.returns-clause-tokens
returns-clause-tokens c = λ z ts us bs cs p q.
    has_same_tokens c.one_parting.ensures.tokens c.one_parting.ensures.items c.one_list_of_items.ensures.own c.located_items.ensures.one p q

pub returns-clause-bodies : goal.returns-clause-bodies
returns-clause-bodies c = λ z ts us bs cs p q.
    has_same_bodies c.one_parting.ensures.tokens c.one_parting.ensures.items c.one_list_of_items.ensures.own c.located_items.ensures.one p q
