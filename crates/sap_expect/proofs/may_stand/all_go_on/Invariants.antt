use Rattle.std.proofs.Common.{drop}
use Rattle.std.specs.Prelude.{map}
use Rattle.sap_expect.specs.code.Going.{CanGo, witness_of}
use Rattle.sap_expect.specs.code.WantedView.{stacked}
use Rattle.sap_expect.proofs.KindRows.{Left}
use Rattle.sap_expect.proofs.may_stand.all_go_on.Given as goal

abbrev pub invariant-loop-k : goal.invariant-loop-k
invariant-loop-k l = Left (CanGo l.walk.levels (stacked l.walk.stack.items)) (map witness_of l.words) (map witness_of (drop l.k l.words))
