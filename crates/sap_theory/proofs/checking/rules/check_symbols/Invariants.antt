use Rattle.sap_rule.specs.WellMade.{IsRuleOver}
use Rattle.sap_theory.specs.declared.fault.TheoryFault.TheVariants.{BadFunction}
use Rattle.sap_theory.proofs.Checked.{AreRightUpTo}
use Rattle.sap_theory.proofs.checking.rules.check_symbols.Given as goal

abbrev pub invariant-loop-rule : goal.invariant-loop-rule
invariant-loop-rule l = AreRightUpTo (IsRuleOver l.fn.sig) BadFunction l.rule-items l.rule-index
