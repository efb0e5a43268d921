-- What tokens are to the grammar of files.
use Rattle.std.specs.Prelude.{ℕ, Bool, false, ◌||◌, ◌&&◌, ◌-◌, nat_le, codes, List, [], ◌∷◌, length, take, drop, map, if◌then◌else◌}
use Rattle.std.specs.List.{list_any}
use Rattle.std.specs.Str.{bytes_eq}
use Rattle.sap_text.specs.declared.token.Kind.{Kind}
use Rattle.sap_text.specs.declared.token.Kind.TheVariants as kind
use Rattle.sap_text.specs.declared.token.Token.{Token}
use Rattle.sap_text.specs.Spans.{text_of}

-- a symbol or reserved word; any other identifier; a number; what stands between two quotes
pub data Word : Type 0 where
  mark : List ℕ → Word
  name : List ℕ → Word
  number : List ℕ → Word
  quoted : List ℕ → Word

-- the words that begin and end a theory and its parts
abbrev pub item_words : List (List ℕ)
item_words =
    codes "theory" ∷ codes "begin" ∷ codes "end" ∷ codes "builtins" ∷ codes "functions"
    ∷ codes "let" ∷ codes "process" ∷ codes "restriction"
    ∷ codes "lemma" ∷ codes "rule" ∷ []

-- the words of processes and formulas
abbrev pub process_words : List (List ℕ)
process_words =
    codes "new" ∷ codes "out" ∷ codes "in" ∷ codes "if" ∷ codes "then" ∷ codes "else"
    ∷ codes "event" ∷ codes "insert" ∷ codes "delete"
    ∷ codes "lookup" ∷ codes "as" ∷ codes "lock" ∷ codes "unlock" ∷ codes "All" ∷ codes "Ex"
    ∷ codes "not" ∷ []

-- the words that are no names
abbrev pub is_grammar_word : List ℕ → Bool
is_grammar_word text = list_any (λ word. bytes_eq text word) item_words
    || list_any (λ word. bytes_eq text word) process_words

-- the word of a token with these bytes
abbrev pub word_of_text : Kind → List ℕ → Word
word_of_text kind.Ident text = if is_grammar_word text then mark text else name text
word_of_text kind.Number text = number text
word_of_text kind.Quoted text = quoted (take (length text - 2) (drop 1 text))
word_of_text kind.Symbol text = mark text

-- the word of a token of the bytes
abbrev pub word_of : List ℕ → Token → Word
word_of bytes t = word_of_text t.kind (text_of bytes t)

-- the words of tokens, in order
abbrev pub words_of : List ℕ → List Token → List Word
words_of bytes tokens = map (word_of bytes) tokens

-- the word is this mark
abbrev pub is_mark : List ℕ → Word → Bool
is_mark m (mark s) = bytes_eq s m
is_mark m (name s) = false
is_mark m (number s) = false
is_mark m (quoted s) = false

-- the first word is this mark
abbrev pub starts : List ℕ → List Word → Bool
starts m [] = false
starts m (w ∷ ws) = is_mark m w

-- it begins with a small letter
abbrev pub is_lower : List ℕ → Bool
is_lower [] = false
is_lower (b ∷ rest) = nat_le 97 b && nat_le b 122

-- it begins with a capital letter
abbrev pub is_upper : List ℕ → Bool
is_upper [] = false
is_upper (b ∷ rest) = nat_le 65 b && nat_le b 90
