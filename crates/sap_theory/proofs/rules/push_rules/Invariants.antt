use Rattle.std.proofs.Common.{◌≡◌, ◌++◌, drop}
use Rattle.sap_theory.specs.RuleText.{rules_text}
use Rattle.sap_theory.proofs.rules.push_rules.Given as goal

abbrev pub invariant-loop-rule : goal.invariant-loop-rule
invariant-loop-rule l = l.text ++ rules_text (drop l.rule-index l.rule-items) ≡ l.initial.text ++ rules_text l.rule-items
