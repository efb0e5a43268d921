use Rattle.sap_steps.proofs.Piled.{slots_stay}
use Rattle.sap_steps.proofs.pile.SharedPile.know_public.Goals as goal

pub returns-clause-slots : goal.returns-clause-slots
returns-clause-slots c =
    rw (← c.self.view_is) (slots_stay c.shared_facts_stay.ensures c.self.inside.table c.public.new.table c.self.inside.slots.items c.public.ensures.keeps c.self.invariant).0
