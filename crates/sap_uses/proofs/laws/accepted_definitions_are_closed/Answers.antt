use Rattle.sap_uses.proofs.Accepted.{accepted}
use Rattle.sap_uses.proofs.laws.accepted_definitions_are_closed.Goals as goal

pub returns : goal.returns
returns c = λ g ds p order held none.
    accepted g (λ scope q. c.some_scope_flaw.ensures g scope q) (λ es q o h. c.plain_uses_have_parameters.ensures es q o h) ds p order held
    (c.plain_names_stand_for_bodies.ensures.bodies ds order) (λ d ts at. c.plain_names_stand_for_bodies.ensures.defined ds d ts order at) none
