use Rattle.std.proofs.Common.{map, sym, ap, subst, ◌∙◌}
use Rattle.sap_sides.specs.SharedFacts.{fact_seen, AreFactsBelow}
use Rattle.sap_sides.proofs.Slotted.{seen_held, below_held}
use Rattle.sap_sides.proofs.pile.SharedPile.cited.Goals as goal

pub returns-clause-facts : goal.returns-clause-facts
returns-clause-facts c = λ ts. ap (map (fact_seen ts)) c.in_ok-facts.ensures ∙ seen_held ts c.args.self.now c.args.numbers.now

pub returns-clause-below : goal.returns-clause-below
returns-clause-below c = λ n h. subst (AreFactsBelow n) (sym c.in_ok-facts.ensures) (below_held n c.args.self.now c.args.numbers.now h)
