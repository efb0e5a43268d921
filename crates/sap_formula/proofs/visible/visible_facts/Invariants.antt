use Rattle.std.proofs.Common.{◌≡◌, ◌++◌, drop}
use Rattle.sap_formula.specs.Hide.{visible}
use Rattle.sap_formula.proofs.visible.visible_facts.Given as goal

abbrev pub invariant-loop-f : goal.invariant-loop-f
invariant-loop-f l =
    visible l.f-items ≡ l.out ++ visible (drop l.f-index l.f-items)
