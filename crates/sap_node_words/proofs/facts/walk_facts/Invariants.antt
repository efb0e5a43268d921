use Rattle.std.proofs.Common.{◌≡◌, drop}
use Rattle.sap_grammar.specs.Words.{words_of}
use Rattle.sap_node_words.specs.code.Walk.{facts_walk}
use Rattle.sap_node_words.proofs.facts.walk_facts.Given as goal

abbrev pub invariant-loop-k : goal.invariant-loop-k
invariant-loop-k l =
    facts_walk l.facts l.initial.before (words_of l.bytes l.initial.tokens) ≡ facts_walk (drop l.k l.facts) l.before (words_of l.bytes l.tokens)
