use Rattle.std.proofs.Common.{◌≡◌, ◌≤◌, ◌-◌, ◌++◌, length, map, Some}
use Rattle.std.specs.Prelude.{vec_capacity, vec_len}
use Rattle.std.specs.Vec.Iter.{into_iter_items}
use Rattle.sap_sides.proofs.pile.add_each.Given as goal

abbrev pub invariant-loop-f : goal.invariant-loop-f
invariant-loop-f l = record {
  next : (goal.iterator-loop-f).can_next l.f-iterator × (goal.iterator-loop-f).is_finite l.f-iterator × (l.yielded ++ into_iter_items l.f-iterator ≡ l.fn.added.items);
  slots : l.slots.items ≡ l.initial.slots.items ++ map (λ f. Some f) l.yielded;
  room : length (into_iter_items l.f-iterator) ≤ vec_capacity l.slots - vec_len l.slots;
}
