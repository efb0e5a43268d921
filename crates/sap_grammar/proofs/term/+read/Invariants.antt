use Rattle.std.proofs.Common.{◌≡◌, ◌≤◌, ◌+◌, ◌*◌, ℕ, length}
use Rattle.std.specs.Prelude.{codes}
use Rattle.sap_grammar.specs.Words.{words_of}
use Rattle.sap_grammar.specs.Reading.{behind, list_of}
use Rattle.sap_grammar.specs.TermReading.{term}
use Rattle.sap_grammar.proofs.term.+read.Given as goal

abbrev pub decreases-read_deep : goal.decreases-read_deep
decreases-read_deep l = 8 * l.depth

abbrev pub decreases-read_list : goal.decreases-read_list
decreases-read_list l = 8 * l.depth + 1

abbrev pub decreases-read_rest : goal.decreases-read_rest
decreases-read_rest l = 8 * l.depth + 1

abbrev pub decreases-read_args : goal.decreases-read_args
decreases-read_args l = 8 * l.depth + 2

abbrev pub decreases-read_tuple : goal.decreases-read_tuple
decreases-read_tuple l = 8 * l.depth + 3

abbrev pub decreases-read_second : goal.decreases-read_second
decreases-read_second l = 8 * l.depth + 2

abbrev pub decreases-read_symbol : goal.decreases-read_symbol
decreases-read_symbol l = 8 * l.depth + 3

abbrev pub decreases-read_named : goal.decreases-read_named
decreases-read_named l = 8 * l.depth + 4

abbrev pub decreases-read_leaf : goal.decreases-read_leaf
decreases-read_leaf l = 8 * l.depth + 5

abbrev pub invariant-read_list-loop-rest : goal.invariant-read_list-loop-rest
invariant-read_list-loop-rest l =
    (n : ℕ) × (length l.rest ≤ n) × (list_of (codes ")") (term l.fn.sig l.fn.depth) (length l.fn.tokens) (words_of l.fn.bytes l.fn.tokens) ≡ behind l.terms (list_of (codes ")") (term l.fn.sig l.fn.depth) n (words_of l.fn.bytes l.rest)))

abbrev pub decreases-read_list-loop-rest : goal.decreases-read_list-loop-rest
decreases-read_list-loop-rest l = length l.rest
