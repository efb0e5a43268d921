-- Bytes spell one term at most, and where some spell one, those that are printed do; so it is with facts.
use Rattle.std.proofs.Common.{◌≡◌, ℕ, false, List, [], refl, subst}
use Rattle.std.proofs.lemmas.List.{append-nil}
use Rattle.sap_terms.specs.declared.fact.Fact.{Fact}
use Rattle.sap_terms.specs.Tree.{Tree, trees_of}
use Rattle.sap_terms.specs.Signature.{Sig}
use Rattle.sap_terms.specs.Message.{IsOver, AreOver}
use Rattle.sap_grammar.specs.Words.{Word}
use Rattle.sap_grammar.specs.TermGrammar.{IsTerm}
use Rattle.sap_grammar.specs.FactGrammar.{IsFact}
use Rattle.sap_grammar.specs.TermText.{tree_text}
use Rattle.sap_grammar.specs.FactText.{fact_text}
use Rattle.sap_grammar.specs.ByteWords.{AreWords, words_end, AreWritten}
use Rattle.sap_grammar.specs.PrintedWords.{term_words, fact_words}
use Rattle.sap_grammar.specs.TermBytes.{AreSpelledBy, SpellsTerm, SpellsFact}
use Rattle.sap_grammar.proofs.Complete.{one_term, one_fact}
use Rattle.sap_grammar.proofs.ByteWords.{all_token_words}
use Rattle.sap_grammar.proofs.PrintedTerms.{term_spelled, fact_spelled, term_tidy, fact_tidy}
use Rattle.sap_grammar.proofs.PrintedBytes.{term_writes, fact_writes}
use Rattle.sap_grammar.proofs.Named.{term_names, fact_names}

-- the words of bytes are one list
abbrev pub IsOneList : Type 0
IsOneList = (m k : ℕ) (z : List ℕ) (ws vs : List Word) → AreWords m z ws → AreWords k z vs → ws ≡ vs

module _ {A : Type 0} (Spells : A → List Word → List Word → Type 0) where
  one_value : IsOneList → ((v w : A) (a : List Word) → Spells v a [] → Spells w a [] → v ≡ w) → (m k : ℕ) (z : List ℕ) (v w : A)
      → AreSpelledBy Spells m z v → AreSpelledBy Spells k z w → v ≡ w
  one_value one_list one m k z v w r s =
      one v w r.words r.spelled (subst (λ (ws : List Word). Spells w ws []) (one_list k m z s.words r.words s.are r.are) s.spelled)

pub one_term_spelled : IsOneList → (g : Sig) (m k : ℕ) (z : List ℕ) (t u : Tree) → SpellsTerm g m z t → SpellsTerm g k z u → t ≡ u
one_term_spelled one_list g = one_value (IsTerm g) one_list (λ t u a r s. (one_term g t u a [] [] r s refl refl).0)

pub one_fact_spelled : IsOneList → (g : Sig) (m k : ℕ) (z : List ℕ) (f h : Fact) → SpellsFact g m z f → SpellsFact g k z h → f ≡ h
one_fact_spelled one_list g = one_value (IsFact g) one_list (λ f h a r s. (one_fact g f h a [] [] r s).0)

pub printed_term : (g : Sig) (most : ℕ) → AreWritten most → (z : List ℕ) (t : Tree) → SpellsTerm g most z t → IsOver g t → SpellsTerm g most (tree_text t) t
printed_term g most written z t r over =
    let names = (term_names most r.spelled (all_token_words most r.are)).0 in
    record {
      words = term_words false t [];
      are = subst (λ (y : List ℕ). AreWords most y (term_words false t [])) (append-nil (tree_text t)) (term_writes most written t names [] [] tt words_end);
      spelled = term_spelled t (term_tidy r.spelled over) [];
    }

pub printed_fact : (g : Sig) (most : ℕ) → AreWritten most → (z : List ℕ) (f : Fact) → SpellsFact g most z f → AreOver g (trees_of f.args) → SpellsFact g most (fact_text f) f
printed_fact g most written z f r over =
    let names = (fact_names most r.spelled (all_token_words most r.are)).0 in
    record {
      words = fact_words f [];
      are = subst (λ (y : List ℕ). AreWords most y (fact_words f [])) (append-nil (fact_text f)) (fact_writes most written f names [] [] words_end);
      spelled = fact_spelled f (fact_tidy r.spelled over) [];
    }
