use Rattle.std.proofs.Common.{sym, refl, ◌∙◌}
use Rattle.sap_steps.proofs.Piled.{removed, live-within, is-linear}
use Rattle.sap_steps.proofs.pile.SharedPile.remove.Goals as goal

pub clear-requires : goal.clear-requires
clear-requires c =
    let linear = rw (← c.self.view_is) at (sym c.persistence.ensures ∙ is-linear _ c.persistence.result (sym c.eq.ensures ∙ c.if-eq.true) refl) in
    live-within c.self.inside.table.trees c.self.inside.slots.items c.args.k linear

pub returns-then-eq-clause-slots : goal.returns-then-eq-clause-slots
returns-then-eq-clause-slots c =
    let linear = rw (← c.self.view_is) at (sym c.persistence.ensures ∙ is-linear _ c.persistence.result (sym c.eq.ensures ∙ c.if-eq.true) refl) in
    rw (← c.self.view_is, c.clear.ensures.items) (removed c.self.inside.table.trees c.self.inside.slots.items c.args.k linear)
