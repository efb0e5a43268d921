use Rattle.std.proofs.Common.{◌≡◌, ◌≤◌, ◌-◌, ◌++◌, length, drop}
use Rattle.sap_notes.specs.code.Ranked.{ahead_of, from_there}
use Rattle.sap_notes.proofs.merge.push_ahead.Given as goal

abbrev pub invariant-loop-k : goal.invariant-loop-k
invariant-loop-k l = record {
  on : l.k ≤ length l.notes;
  ahead : l.all ++ ahead_of l.n (drop l.k l.notes) ≡ l.initial.all ++ ahead_of l.n l.notes;
  rest : from_there l.n (drop l.k l.notes) ≡ from_there l.n l.notes;
}

abbrev pub decreases-loop-k : goal.decreases-loop-k
decreases-loop-k l = length l.notes - l.k
