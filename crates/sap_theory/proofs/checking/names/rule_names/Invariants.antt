use Rattle.std.proofs.Common.{◌≡◌, take}
use Rattle.sap_theory.specs.TheoryCauses.{rule_names}
use Rattle.sap_theory.proofs.checking.names.rule_names.Given as goal

abbrev pub invariant-loop-rule : goal.invariant-loop-rule
invariant-loop-rule l = l.names ≡ rule_names (take l.rule-index l.rule-items)
