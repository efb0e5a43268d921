use Rattle.std.proofs.Common.{◌≡◌, length}
use Rattle.std.specs.Prelude.{codes}
use Rattle.sap_grammar.specs.Words.{words_of}
use Rattle.sap_grammar.specs.Reading.{behind, list_of}
use Rattle.sap_statements.specs.code.StatementReading.{attribute}
use Rattle.sap_statements.proofs.reading.read_some_attributes.Given as goal

abbrev pub invariant-loop-turns : goal.invariant-loop-turns
invariant-loop-turns l =
    list_of (codes "]") attribute (length l.tokens) (words_of l.bytes l.tokens) ≡ behind l.attributes (list_of (codes "]") attribute l.turns (words_of l.bytes l.rest))

abbrev pub decreases-loop-turns : goal.decreases-loop-turns
decreases-loop-turns l = l.turns
