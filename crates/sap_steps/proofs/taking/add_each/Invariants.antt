use Rattle.std.proofs.Common.{◌≡◌, ◌≤◌, ◌++◌, length, map}
use Rattle.std.specs.Vec.Iter.{into_iter_items}
use Rattle.sap_terms.specs.Piles.{adds}
use Rattle.sap_sides.specs.SharedFacts.{fact_seen, AreFactsBelow}
use Rattle.sap_steps.proofs.taking.add_each.Given as goal

abbrev pub invariant-loop-f : goal.invariant-loop-f
invariant-loop-f l = record {
  next : (goal.iterator-loop-f).can_next l.f-iterator × (goal.iterator-loop-f).is_finite l.f-iterator × (l.yielded ++ into_iter_items l.f-iterator ≡ l.fn.added.items);
  sig : l.facts.sig ≡ l.initial.facts.sig;
  trees : l.facts.trees ≡ l.initial.facts.trees;
  slots : l.facts.slots ≡ adds l.initial.facts.slots (map (fact_seen l.initial.facts.trees) l.yielded);
  room : length (into_iter_items l.f-iterator) ≤ l.facts.spare;
  below : AreFactsBelow (length l.initial.facts.trees) (into_iter_items l.f-iterator);
}
