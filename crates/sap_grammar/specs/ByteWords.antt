-- Which words bytes are, and how bytes are written that are given words.
use Rattle.std.specs.Prelude.{◌≡◌, ◌≤◌, ℕ, true, false, List, [], ◌∷◌, ◌++◌, length}
use Rattle.std.specs.List.{list_all}
use Rattle.sap_text.specs.declared.token.Kind.{Kind}
use Rattle.sap_text.specs.declared.token.Kind.TheVariants as kind
use Rattle.sap_text.specs.Tokens.{is_word, is_blank, is_content, IsToken, IsSkip, IsLongest, Stops, counted, stands_alone}
use Rattle.sap_grammar.specs.Words.{Word, mark, name, number, quoted, word_of_text, is_grammar_word}

-- the words of the tokens of the bytes, in order, where a name has at most so many bytes
pub data AreWords (most : ℕ) : List ℕ → List Word → Type 0 where
  words_end : AreWords most [] []
  words_skip : {p b : List ℕ} {ws : List Word} → IsSkip p b → AreWords most b ws
      → AreWords most (p ++ b) ws
  words_token : {k : Kind} {p b : List ℕ} {ws : List Word} → IsLongest k p b
      → counted k (length p) ≤ most → AreWords most b ws
      → AreWords most (p ++ b) (word_of_text k p ∷ ws)

-- a name: an identifier of at most so many bytes that is no word of the grammar
pub record IsName (most : ℕ) (x : List ℕ) : Type 0 where
  pub is : IsToken kind.Ident x
  pub no_grammar_word : is_grammar_word x ≡ false
  pub short : length x ≤ most

-- at most so many bytes, each of which may stand between quotes
pub record IsContent (most : ℕ) (s : List ℕ) : Type 0 where
  pub is : list_all is_content s ≡ true
  pub short : length s ≤ most

-- a word that a token can be: what it holds is a name, or may stand between quotes
abbrev pub IsWord : ℕ → Word → Type 0
IsWord most (mark s) = Unit {0}
IsWord most (name x) = IsName most x
IsWord most (number n) = Unit {0}
IsWord most (quoted s) = IsContent most s

-- each of these
abbrev pub AreTokenWords : ℕ → List Word → Type 0
AreTokenWords most [] = Unit {0}
AreTokenWords most (w ∷ ws) = IsWord most w × AreTokenWords most ws

-- no letter, digit or `_` stands first
abbrev pub Ends : List ℕ → Type 0
Ends z = Stops is_word z

-- before bytes that are known words, each word is what its token is
pub record AreWritten (most : ℕ) : Type 0 where
  pub names : (x z : List ℕ) (k : List Word) → IsName most x → Ends z → AreWords most z k
      → AreWords most (x ++ z) (name x ∷ k)
  pub grammar_words : (x z : List ℕ) (k : List Word) → IsToken kind.Ident x
      → is_grammar_word x ≡ true → length x ≤ most → Ends z → AreWords most z k
      → AreWords most (x ++ z) (mark x ∷ k)
  pub numbers : (n z : List ℕ) (k : List Word) → IsToken kind.Number n → length n ≤ most → Ends z
      → AreWords most z k
      → AreWords most (n ++ z) (number n ∷ k)
  pub contents : (s z : List ℕ) (k : List Word) → IsContent most s → AreWords most z k
      → AreWords most (39 ∷ (s ++ (39 ∷ z))) (quoted s ∷ k)
  pub symbols : (s z : List ℕ) (k : List Word) → stands_alone s z ≡ true → AreWords most z k
      → AreWords most (s ++ z) (mark s ∷ k)
  pub blanks : (b : ℕ) (z : List ℕ) (k : List Word) → is_blank b ≡ true → AreWords most z k
      → AreWords most (b ∷ z) k
