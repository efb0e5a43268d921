-- How the code looks for the first restriction or lemma whose formula has a fault.
use Rattle.std.specs.Prelude.{◌≡◌, ℕ, true, List, [], ◌∷◌, Option, MatchOption, option_map}
use Rattle.sap_terms.specs.Signature.{Sig}
use Rattle.sap_text.specs.declared.token.Token.{Token}
use Rattle.sap_formula.specs.Faults.{HasNoFault}
use Rattle.sap_formula.specs.declared.fault.FormulaFault.{FormulaFault}
use Rattle.sap_formula_words.specs.StatementWords.{statement_words}
use Rattle.sap_grammar.specs.Cut.{Placed, placed}
use Rattle.sap_grammar.specs.ItemReading.{cut}
use Rattle.sap_grammar.specs.Words.{Word, words_of}
use Rattle.sap_grammar.specs.declared.limits.Limits.{Limits}
use Rattle.sap_origin.specs.Origins.{words_left}
use Rattle.sap_origin.specs.declared.origin.FileWord.{FileWord}
use Rattle.sap_read.specs.Item.{Standing, statements}
use Rattle.sap_read.specs.ItemGrammar.{AreItems}
use Rattle.sap_statements.specs.Statements.{IsStatement, formula_of}
use Rattle.sap_statements.specs.declared.statement.Statement.{Statement}
use Rattle.sap_read_places.specs.declared.told.Told.{Told}
use Rattle.sap_read_places.specs.Placed.{stretch_before}
use Rattle.sap_read_places.specs.PartPlaces.{IsFaultyWord, LocatedStatement, located_statements}

-- the word of the first of these whose formula has a fault, where it has this name and the fault is this one
abbrev pub IsWordFound : Sig → List LocatedStatement → List ℕ → FormulaFault → Option FileWord → Type 0
IsWordFound g ls y f o = MatchOption o ((k : ℕ) → IsFaultyWord g ls y f k → ⊥) (λ w. IsFaultyWord g ls y f (words_left w))

-- so, where this statement, with so many words behind its item, is the first, whose words are those of these tokens
abbrev pub IsFoundAt : Sig → List ℕ → List Token → ℕ → Statement → List ℕ → FormulaFault → Option FileWord → Type 0
IsFoundAt g z item behind s y f o =
    (h : Sig) (m : Limits) (a : List Word) (r : IsStatement h m s a) → a ≡ words_of z item → (ls : List LocatedStatement)
    → IsWordFound g (record { statement = s; words = statement_words r; behind = behind } ∷ ls) y f o

-- that it has no fault, or so
abbrev pub IsDecided : Sig → List ℕ → List Token → ℕ → Statement → List ℕ → FormulaFault → Option (Option FileWord) → Type 0
IsDecided g z item behind s y f o = MatchOption o (HasNoFault g true (formula_of s)) (λ p. IsFoundAt g z item behind s y f p)

-- so of all whose items these tokens are, where these are the restrictions and lemmas
abbrev pub IsFoundIn : Sig → List ℕ → List Token → List Statement → List ℕ → FormulaFault → Option FileWord → Type 0
IsFoundIn g z ts ss y f o =
    (h : Sig) (pieces : List (List Placed)) (is : List Standing) (r : AreItems h pieces is) → pieces ≡ cut (placed z ts) → statements is ≡ ss
    → IsWordFound g (located_statements r) y f o

-- what is told of a word
abbrev pub told_of_word : List Token → FileWord → Told
told_of_word ts w = record { word = stretch_before ts (words_left w); uses = [] }

-- what is told of the first of these items whose formula has a fault, where it is this one
pub record IsToldIn (g : Sig) (z : List ℕ) (all ts : List Token) (ss : List Statement) (y : List ℕ) (f : FormulaFault) (o : Option Told) : Type 0 where
  pub word : Option FileWord
  pub found : IsFoundIn g z ts ss y f word
  pub told_is : o ≡ option_map (told_of_word all) word
