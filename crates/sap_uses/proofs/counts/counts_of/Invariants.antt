use Rattle.std.proofs.Common.{◌≡◌, ◌≤◌, ℕ, List, length, drop}
use Rattle.std.specs.Option.{unwrap_or}
use Rattle.sap_terms.specs.NameMap.{value_at}
use Rattle.sap_macro.specs.MacroCauses.{parameter_count}
use Rattle.sap_macro.specs.Sources.{definitions}
use Rattle.sap_uses.proofs.counts.counts_of.Given as goal

abbrev pub invariant-loop-k : goal.invariant-loop-k
invariant-loop-k l = (l.k ≤ length l.defs) × ((f : List ℕ) → unwrap_or (value_at l.counts f) 0 ≡ parameter_count (drop l.k (definitions l.defs)) f)

abbrev pub decreases-loop-k : goal.decreases-loop-k
decreases-loop-k l = l.k
