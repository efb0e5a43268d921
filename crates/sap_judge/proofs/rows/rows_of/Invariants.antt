use Rattle.std.proofs.Common.{◌≡◌, ◌++◌, ℕ, List, drop}
use Rattle.sap_judge.specs.Guards.{sights, sights_from}
use Rattle.sap_judge.specs.code.Rows.{row_of}
use Rattle.sap_judge.proofs.rows.rows_of.Given as goal

abbrev pub invariant-loop-k : goal.invariant-loop-k
invariant-loop-k l = (n : List ℕ) → sights n l.trace ≡ row_of l.rows n ++ sights_from n l.k (drop l.k l.trace)
