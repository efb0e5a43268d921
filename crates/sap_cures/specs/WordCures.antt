-- What to write at a word, by the words round it.
use Rattle.std.specs.Prelude.{ℕ, zero, suc, codes, ◌-◌, nat_le, Bool, true, false, not, ◌&&◌, ◌||◌, is_some, List, [], ◌∷◌, length, drop, Option, Some, None, if◌then◌else◌}
use Rattle.std.specs.Option.{option_or}
use Rattle.std.specs.List.{list_any}
use Rattle.sap_grammar.specs.Words.{Word, is_lower, is_upper, starts}
use Rattle.sap_grammar.specs.Reading.{name_at, names, number_at, quoted_at}
use Rattle.sap_cures.specs.Tests.{Test, WordRow, this, one_of, any_name, small_name, capital_name, any_number, any_quoted, simple, any_word, no_word}
use Rattle.sap_cures.specs.ItemRows.{declaration_rows, head_rows, other_item_rows}
use Rattle.sap_cures.specs.FormulaRows.{fact_rows, sign_rows}
use Rattle.sap_cures.specs.ProcessRows.{closed_rows, condition_rows, end_rows, parenthesis_rows, term_rows}

-- this sign, reserved word or name stands first
abbrev pub is_word : List ℕ → List Word → Bool
is_word text ws = starts text ws || names text ws

-- there is such a name
abbrev pub is_such : (List ℕ → Bool) → Option (List ℕ) → Bool
is_such test None = false
is_such test (Some x) = test x

-- no word is left
abbrev pub is_end : List Word → Bool
is_end [] = true
is_end (w ∷ ws) = false

-- the first word passes the test
abbrev pub is_first : Test → List Word → Bool
is_first (this text) ws = is_word text ws
is_first (one_of texts) ws = list_any (λ text. is_word text ws) texts
is_first any_name ws = is_some (name_at ws)
is_first small_name ws = is_such is_lower (name_at ws)
is_first capital_name ws = is_such is_upper (name_at ws)
is_first any_number ws = is_some (number_at ws)
is_first any_quoted ws = is_some (quoted_at ws)
is_first simple ws = is_some (name_at ws) || is_some (quoted_at ws)
is_first any_word ws = not (is_end ws)
is_first no_word ws = is_end ws

-- the words pass the tests, the first the first, and so on
abbrev pub passes : List Test → List Word → Bool
passes [] ws = true
passes (t ∷ ts) ws = is_first t ws && passes ts (drop 1 ws)

-- the row fits before word number k and at word number `at`: as many words before the one as there are tests of these pass them, and so do
-- those from the other on
abbrev pub fits : List Word → ℕ → ℕ → WordRow → Bool
fits ws k at r = nat_le (length r.0) k
    && passes r.0 (drop (k - length r.0) ws)
    && passes r.1 (drop at ws)

-- what the first of the rows says that fits there
abbrev pub first_cure : List Word → ℕ → ℕ → List WordRow → Option (List ℕ)
first_cure ws k at [] = None
first_cure ws k at (r ∷ rs) = if fits ws k at r then Some r.2 else first_cure ws k at rs

-- the number of the word before word number k that opens the last of n parentheses that are closed from there on
abbrev pub opening : List Word → ℕ → ℕ → Option ℕ
opening ws zero n = None
opening ws (suc k) n =
    if starts (codes ")") (drop k ws) then opening ws k (suc n)
    else if starts (codes "(") (drop k ws) then (if nat_le n 1 then Some k else opening ws k (n - 1))
    else opening ws k n

-- the number of the word that opens the parenthesis that is closed right before word number `at`
abbrev pub opened : List Word → ℕ → Option ℕ
opened ws at = if starts (codes ")") (drop (at - 1) ws) then opening ws at 0 else None

-- what the first says that fits of the rows of items, of those of formulas, and of those of processes and terms, table by table
abbrev pub item_cure : List Word → ℕ → Option (List ℕ)
item_cure ws at = option_or (first_cure ws at at head_rows) (option_or (first_cure ws at at declaration_rows) (first_cure ws at at other_item_rows))

abbrev pub formula_cure : List Word → ℕ → Option (List ℕ)
formula_cure ws at = option_or (first_cure ws at at sign_rows) (first_cure ws at at fact_rows)

-- what the first row says that fits before such a parenthesis and at the word
abbrev pub closed_cure : List Word → ℕ → Option ℕ → Option (List ℕ)
closed_cure ws at None = None
closed_cure ws at (Some k) = first_cure ws k at closed_rows

abbrev pub process_cure : List Word → ℕ → Option (List ℕ)
process_cure ws at = option_or (first_cure ws at at condition_rows) (option_or (first_cure ws at at term_rows) (option_or (first_cure ws at at parenthesis_rows)
    (option_or (first_cure ws at at end_rows) (closed_cure ws at (opened ws at)))))

-- what to write there: the rows of items come first, then those of formulas, then those of processes and terms
abbrev pub word_cure : List Word → ℕ → Option (List ℕ)
word_cure ws at = option_or (item_cure ws at) (option_or (formula_cure ws at) (process_cure ws at))
