-- What the walks do at each list of facts.
use Rattle.std.proofs.Common.{◌≡◌, ◌<◌, ◌+◌, ℕ, zero, suc, List, [], ◌∷◌, length, drop, Some, Ok, Err, refl, ap, ◌∙◌, arith}
use Rattle.std.specs.Prelude.{slice_get}
use Rattle.sap_terms.specs.declared.fact.Fact.{Fact}
use Rattle.sap_terms.proofs.PlainLaws.Lists.{drop_got}
use Rattle.sap_grammar.specs.Words.{Word}
use Rattle.sap_node_words.specs.code.Walk.{onward, past_word, fact_walk, facts_walk, all_facts_walk}

-- facts, one or more
pub facts_are : (fs : List Fact) (k : ℕ) (ws : List Word) → 0 < length fs → all_facts_walk fs k ws ≡ facts_walk fs k ws
facts_are [] k ws some = absurd (omega (arith, some))
facts_are (f ∷ fs) k ws some = refl

-- one fact more
facts_step : (fs : List Fact) (n k : ℕ) (ws : List Word) (f : Fact) → slice_get fs n ≡ Some f
    → facts_walk (drop n fs) k ws ≡ onward (past_word (fact_walk f.args k ws)) (facts_walk (drop (n + 1) fs))
unfolding facts_walk
facts_step fs n k ws f h = rw (drop_got fs n f h) refl

pub facts_found : (fs : List Fact) (n k m : ℕ) (ws : List Word) (f : Fact) → slice_get fs n ≡ Some f → past_word (fact_walk f.args k ws) ≡ Err m → facts_walk (drop n fs) k ws ≡ Err m
unfolding onward
facts_found fs n k m ws f h e = facts_step fs n k ws f h ∙ ap (λ w. onward w (facts_walk (drop (n + 1) fs))) e

pub facts_go_on : (fs : List Fact) (n k j : ℕ) (ws us : List Word) (f : Fact) → slice_get fs n ≡ Some f → past_word (fact_walk f.args k ws) ≡ Ok (j, us)
    → facts_walk (drop n fs) k ws ≡ facts_walk (drop (n + 1) fs) j us
unfolding onward
facts_go_on fs n k j ws us f h e = facts_step fs n k ws f h ∙ ap (λ w. onward w (facts_walk (drop (n + 1) fs))) e

pub facts_end : (fs : List Fact) (n k : ℕ) (ws : List Word) → n ≡ length fs → facts_walk (drop n fs) k ws ≡ Ok (k, ws)
unfolding facts_walk
facts_end [] zero k ws e = refl
facts_end [] (suc n) k ws e = absurd (omega (arith, e))
facts_end (f ∷ fs) zero k ws e = absurd (omega (arith, e))
facts_end (f ∷ fs) (suc n) k ws e = facts_end fs n k ws (omega (arith, e))
