use Rattle.std.proofs.Common.{◌≡◌, drop}
use Rattle.std.specs.Prelude.{map}
use Rattle.sap_grammar.specs.Words.{words_of}
use Rattle.sap_cures.specs.WordCures.{first_cure}
use Rattle.sap_cures.specs.code.Views.{row_of}
use Rattle.sap_cures.proofs.at_word.first_cure.Given as goal

abbrev pub invariant-loop-row : goal.invariant-loop-row
invariant-loop-row l = first_cure (words_of l.bytes l.tokens) l.k l.at (map row_of l.rows) ≡ first_cure (words_of l.bytes l.tokens) l.k l.at (map row_of (drop l.row-index l.rows))
