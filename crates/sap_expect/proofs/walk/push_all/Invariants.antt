use Rattle.std.proofs.Common.{◌≡◌, ◌≤◌, ◌++◌, drop, length}
use Rattle.sap_expect.specs.FileTable.{all_opened}
use Rattle.sap_expect.specs.code.WantedView.{all_wanted, stacked}
use Rattle.sap_expect.proofs.walk.push_all.Given as goal

abbrev pub invariant-loop-k : goal.invariant-loop-k
invariant-loop-k l = record {
  within : l.k ≤ length l.wanted;
  pushed : stacked l.stack.items ≡ all_opened l.most l.levels (all_wanted (drop l.k l.wanted)) ++ stacked l.initial.stack.items;
}

abbrev pub decreases-loop-k : goal.decreases-loop-k
decreases-loop-k l = l.k
