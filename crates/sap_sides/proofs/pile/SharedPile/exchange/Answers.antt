use Rattle.std.proofs.Common.{◌≡◌, ◌++◌, List, map, Option, Some, ap, subst, sym, ◌∙◌}
use Rattle.sap_terms.specs.Piles.{adds}
use Rattle.sap_sides.specs.SharedFacts.{fact_seen, slots_seen, AreSlotsBelow}
use Rattle.sap_sides.specs.code.Slots.{cleared_each}
use Rattle.sap_sides.specs.declared.shared_fact.SharedFact.{SharedFact}
use Rattle.sap_sides.proofs.Slotted.{seen_added, seen_cleared_each, below_exchanged}
use Rattle.sap_sides.proofs.pile.SharedPile.exchange.Goals as goal

pub returns-clause-ok : goal.returns-clause-ok
returns-clause-ok c = λ ts.
    let slots = c.args.self.now in
    let ks = c.args.numbers.now in
    let added = c.args.added.items in
    let left : c.clear_each.new.slots.items ≡ cleared_each slots ks = c.clear_each.ensures.items ∙ ap (λ ss. cleared_each ss ks) (c.in_ok-reserve.ensures.items ∙ c.self.view_is) in
    ap (slots_seen ts) (c.add_each.ensures ∙ ap (λ (ss : List (Option SharedFact)). ss ++ map (λ s. Some s) added) left) ∙ seen_added ts (cleared_each slots ks) added ∙ ap (λ p. adds p (map (fact_seen ts) added)) (seen_cleared_each ts slots ks)

pub returns-clause-below : goal.returns-clause-below
returns-clause-below c = λ n old new.
    let slots = c.args.self.now in
    let ks = c.args.numbers.now in
    let added = c.args.added.items in
    let left : c.clear_each.new.slots.items ≡ cleared_each slots ks = c.clear_each.ensures.items ∙ ap (λ ss. cleared_each ss ks) (c.in_ok-reserve.ensures.items ∙ c.self.view_is) in
    subst (AreSlotsBelow n) (sym (c.add_each.ensures ∙ ap (λ (ss : List (Option SharedFact)). ss ++ map (λ s. Some s) added) left)) (below_exchanged n slots ks added old new)
