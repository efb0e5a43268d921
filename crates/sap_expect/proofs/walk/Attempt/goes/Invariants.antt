use Rattle.std.proofs.Common.{◌≤◌, length}
use Rattle.sap_expect.specs.code.Attempts.{on_top}
use Rattle.sap_expect.specs.code.SeenWords.{seen}
use Rattle.sap_expect.specs.code.WantedView.{counting, stacked}
use Rattle.sap_expect.specs.code.Steps.{SameTakes, total}
use Rattle.sap_expect.proofs.walk.Attempt.goes.Given as goal

abbrev pub invariant-loop-taken : goal.invariant-loop-taken
invariant-loop-taken l = record {
  inside : l.self.left ≤ length l.walk.stack.items;
  same : SameTakes (counting l.spared) l.walk.levels (stacked l.walk.stack.items) (seen l.word) l.self.levels (stacked (on_top l.walk.stack.items l.self.left l.self.more.items));
}

abbrev pub decreases-loop-taken : goal.decreases-loop-taken
decreases-loop-taken l = total (stacked (on_top l.walk.stack.items l.self.left l.self.more.items))
