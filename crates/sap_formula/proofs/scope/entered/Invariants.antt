use Rattle.std.proofs.Common.{◌≡◌, ◌≤◌, ◌++◌, List, length, take}
use Rattle.sap_formula.specs.Checked.{enter}
use Rattle.sap_formula.specs.declared.binder.Binder.{Binder}
use Rattle.sap_formula.proofs.scope.entered.Given as goal

abbrev pub invariant-loop-k : goal.invariant-loop-k
invariant-loop-k l = (l.k ≤ length l.bs) × ((scope : List Binder) → enter l.bs scope ≡ l.turned ++ enter (take l.k l.bs) scope)

abbrev pub decreases-loop-k : goal.decreases-loop-k
decreases-loop-k l = l.k
