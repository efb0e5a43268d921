use Rattle.std.proofs.Common.{◌+◌, ◌-◌}
use Rattle.std.specs.Vec.{vec_len}
use Rattle.sap_derive.specs.code.Closed.{KeepsWaits}
use Rattle.sap_derive.proofs.closure.reach.Given as goal

abbrev pub invariant-loop-alloc : goal.invariant-loop-alloc
invariant-loop-alloc l = record {
  kept : KeepsWaits l.initial.waiting.items l.waiting.items;
  only : KeepsWaits l.waiting.items l.initial.waiting.items;
}

abbrev pub decreases-loop-alloc : goal.decreases-loop-alloc
decreases-loop-alloc l = l.n + 1 - vec_len l.waiting
