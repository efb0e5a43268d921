use Rattle.std.proofs.Common.{◌≡◌, take}
use Rattle.sap_sides.specs.code.Slots.{held_each}
use Rattle.sap_sides.proofs.pile.SharedPile.held.Given as goal

abbrev pub invariant-loop-i : goal.invariant-loop-i
invariant-loop-i l = l.out.items ≡ held_each l.self (take l.i l.numbers)
