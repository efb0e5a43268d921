use Rattle.sap_steps.proofs.Piled.{slots_stay}
use Rattle.sap_steps.proofs.pile.SharedPile.form.Goals as goal

pub returns-clause-sides : goal.returns-clause-sides
returns-clause-sides c = rw (← c.self.view_is) c.form_sides.ensures.sides

pub returns-clause-large : goal.returns-clause-large
returns-clause-large c = rw (← c.self.view_is) c.form_sides.ensures.large

pub returns-clause-slots : goal.returns-clause-slots
returns-clause-slots c =
    rw (← c.self.view_is) (slots_stay c.shared_facts_stay.ensures c.self.inside.table c.form_sides.new.table c.self.inside.slots.items c.form_sides.ensures.keeps c.self.invariant).0
