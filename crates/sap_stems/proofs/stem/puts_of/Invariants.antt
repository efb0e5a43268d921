use Rattle.std.proofs.Common.{◌≡◌, ◌++◌, drop}
use Rattle.sap_stems.specs.code.Makings.{puts_made}
use Rattle.sap_stems.proofs.stem.puts_of.Given as goal

abbrev pub invariant-loop-k : goal.invariant-loop-k
invariant-loop-k l = l.list ++ puts_made l.puts l.next (drop l.k l.params) (drop l.k l.args) ≡ puts_made l.puts l.at l.params l.args
