use Rattle.std.proofs.Common.{◌≡◌, ◌-◌, ◌++◌}
use Rattle.sap_rule_lines.specs.RuleLines.{numbers_from}
use Rattle.sap_process_lines.proofs.cited.count_up.Given as goal

abbrev pub invariant-loop-k : goal.invariant-loop-k
invariant-loop-k l = l.list.items ≡ l.initial.list.items ++ numbers_from l.first (l.k - l.first)
