use Rattle.sap_uses.proofs.SomeCause.{some_cause}
use Rattle.sap_uses.proofs.laws.some_macro_cause.Goals as goal

pub returns : goal.returns
returns c = λ g ds p order.
    some_cause g (λ scope q. c.some_scope_flaw.ensures g scope q) ds p order (c.plain_names_stand_for_bodies.ensures.bodies ds order)
    (λ d ts at. c.plain_names_stand_for_bodies.ensures.defined ds d ts order at) (λ a b. c.sizes_are_one.ensures.nodes ds p a b) (λ a b. c.sizes_are_one.ensures.levels ds p a b)
