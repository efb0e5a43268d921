-- What is told of words and of bytes, tried by hand.
use Rattle.std.specs.Prelude.{ℕ, Bool, true, false, ◌==◌, List, [], ◌∷◌, ◌++◌, length, Option, Some, None, if◌then◌else◌}
use Rattle.std.specs.Char.{is_ascii_alphabetic, is_ascii_digit}
use Rattle.std.specs.Str.{bytes_eq}
use Rattle.sap_text.specs.declared.token.Kind.{Kind}
use Rattle.sap_text.specs.declared.token.Kind.TheVariants as kind
use Rattle.sap_grammar.specs.Words.{Word, word_of_text}
use Rattle.sap_cures.specs.WordCures.{word_cure}
use Rattle.sap_cures.specs.ByteCures.{byte_cure}

-- what stands before a place, and what from it on, words with blanks between them; and what to write there, if a row says it
abbrev pub WordExample : Type 0
WordExample = List ℕ × List ℕ × Option (List ℕ)

-- the same of bytes
abbrev pub ByteExample : Type 0
ByteExample = List ℕ × List ℕ × Option (List ℕ)

-- the kind of the token that begins with this byte
abbrev pub kind_by : ℕ → Kind
kind_by b = if is_ascii_alphabetic b then kind.Ident else if is_ascii_digit b then kind.Number else if b == 39 then kind.Quoted else kind.Symbol

-- the pieces of a text between blanks, and with a byte before them
abbrev pub joined : ℕ → List (List ℕ) → List (List ℕ)
joined b [] = []
joined b (p ∷ ps) = if b == 32 then [] ∷ p ∷ ps else (b ∷ p) ∷ ps

abbrev pub pieces : List ℕ → List (List ℕ)
pieces [] = [] ∷ []
pieces (b ∷ z) = joined b (pieces z)

-- the words that they are
abbrev pub words_of_pieces : List (List ℕ) → List Word
words_of_pieces [] = []
words_of_pieces ([] ∷ ps) = words_of_pieces ps
words_of_pieces ((b ∷ z) ∷ ps) = word_of_text (kind_by b) (b ∷ z) ∷ words_of_pieces ps

abbrev pub words : List ℕ → List Word
words z = words_of_pieces (pieces z)

-- both are the same
abbrev pub is_same : Option (List ℕ) → Option (List ℕ) → Bool
is_same None None = true
is_same None (Some y) = false
is_same (Some x) None = false
is_same (Some x) (Some y) = bytes_eq x y

-- that is told of these words, and of these bytes
abbrev pub is_word_told : WordExample → Bool
is_word_told e = is_same (word_cure (words e.0 ++ words e.1) (length (words e.0))) e.2

abbrev pub is_byte_told : ByteExample → Bool
is_byte_told e = is_same (byte_cure (e.0 ++ e.1) (length e.0)) e.2
