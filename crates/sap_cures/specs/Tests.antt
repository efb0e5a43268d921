-- What is asked of the words round a place, or of the bytes, and what to write there: the rows of tables.
use Rattle.std.specs.Prelude.{ℕ, codes, List, [], ◌∷◌, ◌++◌}
use Rattle.sap_grammar.specs.Words.{item_words, process_words}

-- the word is this sign, reserved word or name; one of these; a name; one with a small letter first; one with a capital first; a number; a
-- name in quotes; a name or a name in quotes; any; or there is none
pub data Test : Type 0 where
  this : List ℕ → Test
  one_of : List (List ℕ) → Test
  any_name : Test
  small_name : Test
  capital_name : Test
  any_number : Test
  any_quoted : Test
  simple : Test
  any_word : Test
  no_word : Test

-- what is asked of the words before the place, the last of them last, and of those from it on; and what to write
abbrev pub WordRow : Type 0
WordRow = List Test × List Test × List ℕ

-- the bytes right before the place, and those from it on; and what to write
abbrev pub ByteRow : Type 0
ByteRow = List ℕ × List ℕ × List ℕ

-- the words of the grammar, and those with which an action, a condition or a look-up begins
abbrev pub reserved_words : List (List ℕ)
reserved_words = item_words ++ process_words

abbrev pub action_words : List (List ℕ)
action_words =
    codes "new" ∷ codes "out" ∷ codes "in" ∷ codes "if" ∷ codes "event" ∷ codes "insert" ∷ codes "delete" ∷ codes "lookup" ∷ codes "lock"
    ∷ codes "unlock" ∷ []
