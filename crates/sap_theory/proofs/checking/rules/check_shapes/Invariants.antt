use Rattle.sap_theory.specs.TheoryCauses.{IsPlainRule}
use Rattle.sap_theory.specs.declared.fault.TheoryFault.TheVariants.{BadRule}
use Rattle.sap_theory.proofs.Checked.{AreRightUpTo}
use Rattle.sap_theory.proofs.checking.rules.check_shapes.Given as goal

abbrev pub invariant-loop-rule : goal.invariant-loop-rule
invariant-loop-rule l = AreRightUpTo IsPlainRule BadRule l.rule-items l.rule-index
