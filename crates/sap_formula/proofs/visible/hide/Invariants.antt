use Rattle.std.proofs.Common.{◌≡◌, ◌++◌, drop}
use Rattle.sap_formula.specs.Hide.{hide}
use Rattle.sap_formula.proofs.visible.hide.Given as goal

abbrev pub invariant-loop-p : goal.invariant-loop-p
invariant-loop-p l = hide l.p-items ≡ l.out ++ hide (drop l.p-index l.p-items)
