use Rattle.std.proofs.Common.{◌≡◌, ◌≤◌, ℕ, length}
use Rattle.sap_grammar.specs.Words.{words_of}
use Rattle.sap_grammar.specs.Reading.{behind, list_of}
use Rattle.sap_grammar.specs.TermReading.{short_fact}
use Rattle.sap_grammar.proofs.fact.read_fact_list.Given as goal

abbrev pub invariant-loop-rest : goal.invariant-loop-rest
invariant-loop-rest l =
    (n : ℕ) × (length l.rest ≤ n) × (list_of l.closing (short_fact l.sig l.limits l.allowed) (length l.tokens) (words_of l.bytes l.tokens) ≡ behind l.facts (list_of l.closing (short_fact l.sig l.limits l.allowed) n (words_of l.bytes l.rest)))

abbrev pub decreases-loop-rest : goal.decreases-loop-rest
decreases-loop-rest l = length l.rest
