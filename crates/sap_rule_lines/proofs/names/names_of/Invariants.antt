use Rattle.std.proofs.Common.{◌≡◌, ℕ, ◌||◌, drop}
use Rattle.sap_rule_lines.specs.Least.{is_among, names_drawn}
use Rattle.sap_rule_lines.proofs.names.names_of.Given as goal

abbrev pub invariant-loop-step : goal.invariant-loop-step
invariant-loop-step l = (n : ℕ) → is_among l.names n || is_among (names_drawn (drop l.step-index l.step-items)) n ≡ is_among (names_drawn l.run) n
