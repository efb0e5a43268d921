-- Which bytes spell a term or a fact under a signature.
use Rattle.std.specs.Prelude.{ℕ, List, []}
use Rattle.sap_terms.specs.declared.fact.Fact.{Fact}
use Rattle.sap_terms.specs.Tree.{Tree}
use Rattle.sap_terms.specs.Signature.{Sig}
use Rattle.sap_grammar.specs.Words.{Word}
use Rattle.sap_grammar.specs.TermGrammar.{IsTerm}
use Rattle.sap_grammar.specs.FactGrammar.{IsFact}
use Rattle.sap_grammar.specs.ByteWords.{AreWords}

-- all of the bytes are words that spell the value; names have at most so many bytes
pub record AreSpelledBy {A : Type 0} (Spells : A → List Word → List Word → Type 0) (most : ℕ) (z : List ℕ) (v : A) : Type 0 where
  pub words : List Word
  pub are : AreWords most z words
  pub spelled : Spells v words []

abbrev pub SpellsTerm : Sig → ℕ → List ℕ → Tree → Type 0
SpellsTerm g = AreSpelledBy (IsTerm g)

abbrev pub SpellsFact : Sig → ℕ → List ℕ → Fact → Type 0
SpellsFact g = AreSpelledBy (IsFact g)
