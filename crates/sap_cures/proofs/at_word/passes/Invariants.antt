use Rattle.std.proofs.Common.{◌≡◌, drop}
use Rattle.std.specs.Prelude.{map}
use Rattle.sap_grammar.specs.Words.{words_of}
use Rattle.sap_cures.specs.WordCures.{passes}
use Rattle.sap_cures.specs.code.Views.{test_of}
use Rattle.sap_cures.proofs.at_word.passes.Given as goal

abbrev pub invariant-loop-test : goal.invariant-loop-test
invariant-loop-test l = passes (map test_of l.tests) (words_of l.bytes l.tokens) ≡ passes (map test_of (drop l.test-index l.tests)) (words_of l.bytes l.left)
