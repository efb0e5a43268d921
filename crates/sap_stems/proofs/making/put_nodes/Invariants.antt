use Rattle.std.proofs.Common.{◌≡◌, drop}
use Rattle.sap_stems.specs.code.Makings.{nodes_put}
use Rattle.sap_stems.proofs.making.put_nodes.Given as goal

abbrev pub invariant-loop-k : goal.invariant-loop-k
invariant-loop-k l = nodes_put l.puts l.name ≡ nodes_put (drop l.k l.puts) l.name
