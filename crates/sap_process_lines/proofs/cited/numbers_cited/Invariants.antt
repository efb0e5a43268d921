use Rattle.std.proofs.Common.{◌≡◌, drop}
use Rattle.sap_process_lines.proofs.NumberLists.{after_all}
use Rattle.sap_process_lines.specs.Told.{numbers_of}
use Rattle.sap_process_lines.proofs.cited.numbers_cited.Given as goal

abbrev pub invariant-loop-k : goal.invariant-loop-k
invariant-loop-k l = numbers_of l.table l.cited ≡ after_all l.numbers (numbers_of l.table (drop l.k-index l.cited))
