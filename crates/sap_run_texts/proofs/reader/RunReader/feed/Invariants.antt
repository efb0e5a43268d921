use Rattle.std.proofs.Common.{◌≡◌, ◌≤◌, ◌-◌, ℕ, List, ◌++◌, length, take}
use Rattle.sap_run_texts.specs.RunReading.{StandsFor}
use Rattle.sap_run_texts.proofs.reader.RunReader.feed.Given as goal

abbrev pub invariant-loop-taken : goal.invariant-loop-taken
invariant-loop-taken l = record {
  within : l.taken ≤ length l.piece;
  kinds : l.self.kinds ≡ l.initial.self.kinds;
  stands : (z : List ℕ) → StandsFor l.initial.self z → StandsFor l.self (z ++ take l.taken l.piece);
}

abbrev pub decreases-loop-taken : goal.decreases-loop-taken
decreases-loop-taken l = length l.piece - l.taken
