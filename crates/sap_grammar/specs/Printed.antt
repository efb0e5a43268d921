-- What is so of the words of printed terms and facts.
use Rattle.std.specs.Prelude.{◌≡◌, ℕ, false, List, ◌++◌}
use Rattle.sap_terms.specs.declared.fact.Fact.{Fact}
use Rattle.sap_terms.specs.Tree.{Tree, trees_of}
use Rattle.sap_terms.specs.Signature.{Sig}
use Rattle.sap_terms.specs.Message.{IsOver, AreOver}
use Rattle.sap_grammar.specs.Words.{Word}
use Rattle.sap_grammar.specs.Cut.{AreNoItemWords}
use Rattle.sap_grammar.specs.TermGrammar.{IsTerm}
use Rattle.sap_grammar.specs.FactGrammar.{IsFact}
use Rattle.sap_grammar.specs.TermText.{tree_text}
use Rattle.sap_grammar.specs.FactText.{fact_text}
use Rattle.sap_grammar.specs.ByteWords.{AreWords, AreTokenWords, Ends}
use Rattle.sap_grammar.specs.PrintedWords.{term_words, fact_words}
use Rattle.sap_grammar.specs.Printable.{IsTidy, IsTidyFact, HasNames, FactHasNames}

-- what is tidy is spelled by its words, and what is spelled over the signature is tidy; the printed bytes of what has names are
-- its words, and what is spelled by words of tokens has names; its words stand in front of any others, and begin no item
pub record ArePrinted : Type 0 where
  pub term_spelled : (g : Sig) (t : Tree) → IsTidy g t → (k : List Word) → IsTerm g t (term_words false t k) k
  pub term_tidy : (g : Sig) (t : Tree) (a b : List Word) → IsTerm g t a b → IsOver g t → IsTidy g t
  pub term_bytes : (most : ℕ) (t : Tree) → HasNames most t → (z : List ℕ) (k : List Word) → Ends z → AreWords most z k
      → AreWords most (tree_text t ++ z) (term_words false t k)
  pub term_names : (most : ℕ) (g : Sig) (t : Tree) (a b : List Word) → IsTerm g t a b → AreTokenWords most a → HasNames most t × AreTokenWords most b
  pub term_front : (t : Tree) (k l : List Word) → term_words false t (k ++ l) ≡ term_words false t k ++ l
  pub term_free : (g : Sig) (t : Tree) (a b : List Word) → IsTerm g t a b → AreNoItemWords b → AreNoItemWords a
  pub fact_spelled : (g : Sig) (f : Fact) → IsTidyFact g f → (k : List Word) → IsFact g f (fact_words f k) k
  pub fact_tidy : (g : Sig) (f : Fact) (a b : List Word) → IsFact g f a b → AreOver g (trees_of f.args) → IsTidyFact g f
  pub fact_bytes : (most : ℕ) (f : Fact) → FactHasNames most f → (z : List ℕ) (k : List Word) → AreWords most z k
      → AreWords most (fact_text f ++ z) (fact_words f k)
  pub fact_names : (most : ℕ) (g : Sig) (f : Fact) (a b : List Word) → IsFact g f a b → AreTokenWords most a → FactHasNames most f × AreTokenWords most b
  pub fact_front : (f : Fact) (k l : List Word) → fact_words f (k ++ l) ≡ fact_words f k ++ l
  pub fact_free : (g : Sig) (f : Fact) (a b : List Word) → IsFact g f a b → AreNoItemWords b → AreNoItemWords a
