use Rattle.std.proofs.Common.{◌≡◌, ◌++◌, length}
use Rattle.sap_grammar.specs.Words.{words_of}
use Rattle.sap_read.specs.Identifiers.{identifiers_of}
use Rattle.sap_read.proofs.identifiers.identifiers.Given as goal

abbrev pub invariant-loop-rest : goal.invariant-loop-rest
invariant-loop-rest l = identifiers_of (words_of l.bytes l.tokens) ≡ l.names ++ identifiers_of (words_of l.bytes l.rest)

abbrev pub decreases-loop-rest : goal.decreases-loop-rest
decreases-loop-rest l = length l.rest
