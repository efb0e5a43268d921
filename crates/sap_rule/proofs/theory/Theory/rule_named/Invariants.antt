use Rattle.std.proofs.Common.{◌≡◌, drop}
use Rattle.sap_rule.specs.Named.{rule_named}
use Rattle.sap_rule.proofs.theory.Theory.rule_named.Given as goal

abbrev pub invariant-loop-r : goal.invariant-loop-r
invariant-loop-r l = rule_named l.self.rules l.name ≡ rule_named (drop l.r-index l.r-items) l.name
