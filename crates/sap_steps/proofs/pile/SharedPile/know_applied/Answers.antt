use Rattle.sap_steps.proofs.Piled.{slots_stay}
use Rattle.sap_steps.proofs.pile.SharedPile.know_applied.Goals as goal

pub returns-clause-slots : goal.returns-clause-slots
returns-clause-slots c =
    rw (← c.self.view_is) (slots_stay c.shared_facts_stay.ensures c.self.inside.table c.apply.new.table c.self.inside.slots.items c.apply.ensures.keeps c.self.invariant).0
