use Rattle.sap_steps.proofs.Piled.{slots_stay}
use Rattle.sap_steps.proofs.pile.SharedPile.fresh_number.Goals as goal

pub returns-clause-slots : goal.returns-clause-slots
returns-clause-slots c =
    rw (← c.self.view_is) (slots_stay c.shared_facts_stay.ensures c.self.inside.table c.intern.new.self c.self.inside.slots.items c.in_ok-number.ensures.ok.keeps c.self.invariant).0
