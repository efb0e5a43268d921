use Rattle.std.proofs.Common.{◌≡◌, [], drop}
use Rattle.sap_stems.specs.code.Makings.{all_put}
use Rattle.sap_stems.proofs.stem.all_puts.Given as goal

abbrev pub invariant-loop-k : goal.invariant-loop-k
invariant-loop-k l = all_put l.defs l.puts l.k (drop l.k l.uses) ≡ all_put l.defs [] 0 l.uses
