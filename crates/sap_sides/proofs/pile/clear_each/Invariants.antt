use Rattle.std.proofs.Common.{◌≡◌, ◌-◌, take}
use Rattle.std.specs.Prelude.{vec_capacity, vec_len}
use Rattle.sap_sides.specs.code.Slots.{cleared_each}
use Rattle.sap_sides.proofs.pile.clear_each.Given as goal

abbrev pub invariant-loop-k : goal.invariant-loop-k
invariant-loop-k l = record {
  items : l.slots.items ≡ cleared_each l.initial.slots.items (take l.k-index l.k-items);
  spare : vec_capacity l.slots - vec_len l.slots ≡ vec_capacity l.initial.slots - vec_len l.initial.slots;
}
