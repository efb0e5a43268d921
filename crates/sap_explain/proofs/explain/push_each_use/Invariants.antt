use Rattle.std.proofs.Common.{◌≤◌, ◌-◌, length, take}
use Rattle.sap_explain.proofs.Telling.{HasUses}
use Rattle.sap_explain.proofs.explain.push_each_use.Given as goal

abbrev pub invariant-loop-k : goal.invariant-loop-k
invariant-loop-k l = record {
  on : l.k ≤ length l.uses;
  texts : HasUses l.bytes l.initial.text l.text (take l.k l.uses);
}

abbrev pub decreases-loop-k : goal.decreases-loop-k
decreases-loop-k l = length l.uses - l.k
