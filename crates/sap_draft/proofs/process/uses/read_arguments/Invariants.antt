use Rattle.std.proofs.Common.{◌≡◌, ◌≤◌, ℕ, length}
use Rattle.std.specs.Prelude.{codes}
use Rattle.sap_grammar.specs.Words.{words_of}
use Rattle.sap_grammar.specs.Reading.{behind, list_of}
use Rattle.sap_grammar.specs.TermReading.{short_term}
use Rattle.sap_draft.specs.declared.limits.TheConstants.{FILE_LIMITS}
use Rattle.sap_draft.proofs.process.uses.read_arguments.Given as goal

abbrev pub invariant-loop-rest : goal.invariant-loop-rest
invariant-loop-rest l =
    (n : ℕ) × (length l.rest ≤ n) × (list_of (codes ")") (short_term l.sig FILE_LIMITS) (length l.tokens) (words_of l.bytes l.tokens) ≡ behind l.terms (list_of (codes ")") (short_term l.sig FILE_LIMITS) n (words_of l.bytes l.rest)))

abbrev pub decreases-loop-rest : goal.decreases-loop-rest
decreases-loop-rest l = length l.rest
