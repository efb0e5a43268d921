use Rattle.sap_expect.specs.code.WantedView.{stacked}
use Rattle.sap_expect.proofs.KindRows.{PutsUpTo}
use Rattle.sap_expect.proofs.may_stand.push_named.Given as goal

abbrev pub invariant-loop-k : goal.invariant-loop-k
invariant-loop-k l = PutsUpTo l.walk.levels (stacked l.walk.stack.items) l.rows l.k l.initial.list.items l.list.items
