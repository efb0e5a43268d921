use Rattle.std.proofs.Common.{◌≡◌, ◌≤◌, ◌++◌, length}
use Rattle.std.specs.Vec.Iter.{into_iter_items}
use Rattle.sap_terms.specs.Piles.{adds}
use Rattle.sap_facts.proofs.citing.add_each.Given as goal

abbrev pub invariant-loop-f : goal.invariant-loop-f
invariant-loop-f l = record {
  next : (goal.iterator-loop-f).can_next l.f-iterator × (goal.iterator-loop-f).is_finite l.f-iterator × (l.yielded ++ into_iter_items l.f-iterator ≡ l.fn.added);
  slots : l.facts.slots ≡ adds l.initial.facts.slots l.yielded;
  room : length (into_iter_items l.f-iterator) ≤ l.facts.spare;
}
