use Rattle.std.proofs.Common.{◌≡◌, ◌≤◌, ◌+◌}
use Rattle.sap_grammar.specs.Words.{words_of}
use Rattle.sap_cures.specs.WordCures.{opening}
use Rattle.sap_cures.proofs.at_word.opened.Given as goal

abbrev pub invariant-loop-k : goal.invariant-loop-k
invariant-loop-k l = (opening (words_of l.bytes l.tokens) l.at 0 ≡ opening (words_of l.bytes l.tokens) l.k l.closed) × (l.closed + l.k ≤ l.at)

abbrev pub decreases-loop-k : goal.decreases-loop-k
decreases-loop-k l = l.k
