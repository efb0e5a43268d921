use Rattle.std.proofs.Common.{◌≡◌, ◌+◌, drop}
use Rattle.sap_grammar.specs.Cut.{placed}
use Rattle.sap_grammar.specs.ItemReading.{count_on}
use Rattle.sap_grammar.proofs.items.count_on.Given as goal

abbrev pub invariant-loop-k : goal.invariant-loop-k
invariant-loop-k l = count_on (placed l.bytes l.tokens) ≡ l.k + count_on (placed l.bytes (drop l.k l.tokens))
