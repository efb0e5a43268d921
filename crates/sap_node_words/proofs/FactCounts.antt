-- As many numbers as nodes of facts.
use Rattle.std.proofs.Common.{◌≡◌, ℕ, Bool, List, ◌∷◌, ◌+◌, length, refl, arith}
use Rattle.std.specs.Prelude.{sum_by}
use Rattle.std.proofs.lemmas.List.{length-append}
use Rattle.std.proofs.lemmas.List.Sums.{sum_by-cons}
use Rattle.sap_terms.specs.declared.fact.Fact.{Fact}
use Rattle.sap_terms.specs.Signature.{Sig}
use Rattle.sap_grammar.specs.Words.{Word}
use Rattle.sap_grammar.specs.declared.limits.Limits.{Limits}
use Rattle.sap_grammar.specs.FactGrammar.{IsFact, AreSomeFacts, AreFacts, fact_linear, fact_persistent, facts_last, facts_more, facts_none, facts_some}
use Rattle.sap_node_words.specs.FactWords.{fact_count, fact_words, some_facts_words, facts_words}
use Rattle.sap_node_words.proofs.Counts.{args_counts}

pub fact_counts : {g : Sig} {f : Fact} {a b : List Word} (r : IsFact g f a b) → length (fact_words r) ≡ fact_count f
fact_counts (fact_linear up r) = omega (arith, args_counts r)
fact_counts (fact_persistent up r) = omega (arith, args_counts r)

some_facts_count : {g : Sig} {m : Limits} {s : Bool} {w : List ℕ} {fs : List Fact} {a b : List Word} (r : AreSomeFacts g m s w fs a b)
    → length (some_facts_words r) ≡ sum_by fact_count fs
some_facts_count (facts_last r) = omega (arith, fact_counts r.spelled)
some_facts_count (facts_more {f = f} {fs = fs} r s) =
    let all : sum_by fact_count (f ∷ fs) ≡ fact_count f + sum_by fact_count fs = sum_by-cons fact_count f fs in
    omega (arith, all, length-append (fact_words r.spelled) (some_facts_words s), fact_counts r.spelled, some_facts_count s)

pub facts_count : {g : Sig} {m : Limits} {s : Bool} {w : List ℕ} {fs : List Fact} {a b : List Word} (r : AreFacts g m s w fs a b)
    → length (facts_words r) ≡ sum_by fact_count fs
facts_count facts_none = refl
facts_count (facts_some r) = some_facts_count r
