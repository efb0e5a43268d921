use Rattle.std.proofs.Common.{◌≡◌, drop}
use Rattle.std.specs.Prelude.{map}
use Rattle.std.specs.List.{list_any}
use Rattle.sap_grammar.specs.Words.{words_of}
use Rattle.sap_cures.specs.WordCures.{is_word}
use Rattle.sap_cures.specs.code.Views.{text_of}
use Rattle.sap_cures.proofs.at_word.is_one.Given as goal

abbrev pub invariant-loop-word : goal.invariant-loop-word
invariant-loop-word l = list_any (λ w. is_word w (words_of l.bytes l.tokens)) (map text_of (drop l.word-index l.words)) ≡ list_any (λ w. is_word w (words_of l.bytes l.tokens)) (map text_of l.words)
