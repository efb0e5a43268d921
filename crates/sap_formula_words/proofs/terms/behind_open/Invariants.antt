use Rattle.std.proofs.Common.{◌≡◌, ◌≤◌, ◌+◌, length}
use Rattle.sap_grammar.specs.Words.{words_of}
use Rattle.sap_formula_words.specs.code.Walk.{behind_open}
use Rattle.sap_formula_words.proofs.terms.behind_open.Given as goal

abbrev pub decreases-loop-inside : goal.decreases-loop-inside
decreases-loop-inside l = length l.rest

abbrev pub invariant-loop-inside : goal.invariant-loop-inside
invariant-loop-inside l =
    (behind_open 1 (words_of l.bytes l.tokens) ≡ behind_open l.inside (words_of l.bytes l.rest)) × (l.inside + length l.rest ≤ length l.tokens + 1)
