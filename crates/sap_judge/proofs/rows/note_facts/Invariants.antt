use Rattle.std.proofs.Common.{◌≡◌, ◌++◌, ℕ, List, drop}
use Rattle.sap_judge.specs.Guards.{sights_at}
use Rattle.sap_judge.specs.code.Rows.{row_of}
use Rattle.sap_judge.proofs.rows.note_facts.Given as goal

abbrev pub invariant-loop-fact : goal.invariant-loop-fact
invariant-loop-fact l = (n : List ℕ) → row_of l.initial.rows n ++ sights_at n l.time l.fact-items ≡ row_of l.rows n ++ sights_at n l.time (drop l.fact-index l.fact-items)
