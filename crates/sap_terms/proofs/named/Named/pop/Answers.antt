use Rattle.std.proofs.Common.{Some, ap, sym, ◌∙◌}
use Rattle.sap_terms.specs.NameMap.{value_at}
use Rattle.sap_terms.proofs.NamedLemmas.{places-less, places-left}
use Rattle.sap_terms.proofs.named.Named.pop.Goals as goal

pub invariant_of-self : goal.invariant_of-self
invariant_of-self g c =
    let places = value_at c.self.inside.places in
    let first = ap places (sym c.name.ensures) ∙ c.is_placed.ensures.0 c.if-is_placed.true ∙ ap Some c.len-place.ensures in
    places-less g.T.HasName.name_of places (value_at c.remove.new.self) c.self.inside.items c.pop.new.self c.in-Some.item c.in-Some.ensures.item c.self.invariant first
    (λ n. rw c.name-then-is_placed.ensures at (c.remove.ensures n))

pub invariant_of-self-else-is_placed : goal.invariant_of-self-else-is_placed
invariant_of-self-else-is_placed g c =
    let places = value_at c.self.inside.places in
    places-left g.T.HasName.name_of places c.self.inside.items c.pop.new.self c.in-Some.item c.in-Some.ensures.item c.self.invariant
    (λ h. cc (c.is_placed.ensures.1 (ap places c.name.ensures ∙ h ∙ ap Some (sym c.len-place.ensures)), c.if-is_placed.false))
