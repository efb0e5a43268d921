-- The nodes of facts that words spell, each with the words that are left from the one that tells it: a fact stands in front of its
-- arguments, and is told by its name, also behind `!`.
use Rattle.std.specs.Prelude.{ℕ, suc, Bool, List, [], ◌∷◌, ◌++◌, length}
use Rattle.sap_terms.specs.declared.fact.Fact.{Fact}
use Rattle.sap_terms.specs.Signature.{Sig}
use Rattle.sap_terms.specs.Tree.{trees_of, trees_count}
use Rattle.sap_grammar.specs.Words.{Word}
use Rattle.sap_grammar.specs.declared.limits.Limits.{Limits}
use Rattle.sap_grammar.specs.FactGrammar.{IsFact, AreSomeFacts, AreFacts, fact_linear, fact_persistent, facts_last, facts_more, facts_none, facts_some}
use Rattle.sap_node_words.specs.NodeWords.{args_words}

-- of a fact and of each node of its arguments the number of words from its own on, to the end of all words
abbrev pub fact_words : {g : Sig} {f : Fact} {a b : List Word} → IsFact g f a b → List ℕ
fact_words (fact_linear {a = a} up r) = suc (suc (length a)) ∷ args_words r
fact_words (fact_persistent {a = a} up r) = suc (suc (length a)) ∷ args_words r

-- so of facts with commas between them, one or more
abbrev pub some_facts_words : {g : Sig} {m : Limits} {s : Bool} {w : List ℕ} {fs : List Fact} {a b : List Word}
    → AreSomeFacts g m s w fs a b → List ℕ
some_facts_words (facts_last r) = fact_words r.spelled
some_facts_words (facts_more r s) = fact_words r.spelled ++ some_facts_words s

-- so of facts, none or more
abbrev pub facts_words : {g : Sig} {m : Limits} {s : Bool} {w : List ℕ} {fs : List Fact} {a b : List Word}
    → AreFacts g m s w fs a b → List ℕ
facts_words facts_none = []
facts_words (facts_some r) = some_facts_words r

-- how many nodes a fact has, itself and those of its arguments
abbrev pub fact_count : Fact → ℕ
fact_count f = suc (trees_count (trees_of f.args))
