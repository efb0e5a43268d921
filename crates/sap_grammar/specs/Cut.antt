-- The header of a file or a theory, and where it is cut into its items.
use Rattle.std.specs.Prelude.{◌≡◌, ℕ, Bool, true, false, codes, List, [], ◌∷◌, ◌++◌, map}
use Rattle.std.specs.List.{list_any}
use Rattle.sap_text.specs.declared.token.Token.{Token}
use Rattle.sap_grammar.specs.Words.{Word, mark, name, is_mark, word_of}

-- a word on its line
pub record Placed : Type 0 where
  pub word : Word
  pub line : ℕ

-- the words of tokens, each on its line
abbrev pub placed : List ℕ → List Token → List Placed
placed bytes tokens = map (λ (t : Token). record { word = word_of bytes t; line = t.line }) tokens

-- the words alone
abbrev pub words : List Placed → List Word
words ps = map (λ (p : Placed). p.word) ps

-- the words that an item begins with
abbrev pub cut_words : List (List ℕ)
cut_words =
    codes "builtins" ∷ codes "functions" ∷ codes "let" ∷ codes "process" ∷ codes "restriction"
    ∷ codes "lemma" ∷ codes "rule" ∷ codes "end" ∷ []

-- one of these
abbrev pub is_item_word : Word → Bool
is_item_word w = list_any (λ m. is_mark m w) cut_words

-- it is one of these, on any line
abbrev pub begins_item : Placed → Bool
begins_item p = is_item_word p.word

-- no item begins among these
abbrev pub NoItemWord : List Placed → Type 0
NoItemWord [] = Unit {0}
NoItemWord (p ∷ ps) = (begins_item p ≡ false) × NoItemWord ps

-- so of words without lines
abbrev pub AreNoItemWords : List Word → Type 0
AreNoItemWords [] = Unit {0}
AreNoItemWords (w ∷ ws) = (is_item_word w ≡ false) × AreNoItemWords ws

-- there are no more, or an item begins
abbrev pub StartsItem : List Placed → Type 0
StartsItem [] = Unit {0}
StartsItem (p ∷ ps) = begins_item p ≡ true

-- the words behind the header are these items: each begins where its word stands, but for the first, which begins anyhow
pub data IsCut : List Placed → List (List Placed) → Type 0 where
  cut_none : IsCut [] []
  cut_one : (p : Placed) (ps rest : List Placed) {items : List (List Placed)} → NoItemWord ps
      → StartsItem rest → IsCut rest items
      → IsCut (p ∷ (ps ++ rest)) ((p ∷ ps) ∷ items)

-- the words begin with the header of this name, and go on with these
pub record IsHeader (x : List ℕ) (all rest : List Placed) : Type 0 where
  pub theory_line : ℕ
  pub name_line : ℕ
  pub begin_line : ℕ
  pub spelled : all
      ≡ record { word = mark (codes "theory"); line = theory_line }
      ∷ record { word = name x; line = name_line }
      ∷ record { word = mark (codes "begin"); line = begin_line } ∷ rest

-- the line of the first word
abbrev pub first_line : List Placed → ℕ
first_line [] = 1
first_line (p ∷ ps) = p.line

-- the line of the last word
abbrev pub last_line : List Placed → ℕ
last_line [] = 1
last_line (p ∷ []) = p.line
last_line (p ∷ q ∷ ps) = last_line (q ∷ ps)
