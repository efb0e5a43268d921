use Rattle.std.proofs.Common.{◌≡◌, ℕ, ◌^◌, ◌-◌, ◌<◌, ◌≤◌, true}
use Rattle.sap_rule_lines.specs.Least.{is_among}
use Rattle.sap_rule_lines.proofs.names.Names.free_from.Given as goal

abbrev pub invariant-loop-n : goal.invariant-loop-n
invariant-loop-n l = (l.from ≤ l.n) × ((m : ℕ) → l.from ≤ m → m < l.n → is_among l.self m ≡ true)

abbrev pub decreases-loop-n : goal.decreases-loop-n
decreases-loop-n l = 2 ^ 64 - l.n
