-- Words of a line, taken from the left.
-- Bytes by their codes: 32 is a space, 36 `$`, 39 `'`, 61 `=`, 126 `~`.
use Rattle.std.specs.Prelude.{ℕ, zero, suc, ◌==◌, if◌then◌else◌, List, [], ◌∷◌, length, drop, Option, Some, None}
use Rattle.std.specs.Option.{option_map}
use Rattle.sap_terms.specs.declared.var.Sort.{Sort}
use Rattle.sap_terms.specs.declared.var.Sort.TheVariants.{Msg, Fresh, Pub}
use Rattle.sap_terms.specs.declared.var.Var.{Var}
use Rattle.sap_run_lines.specs.LineWords.{LineWord, identifier, number, fresh_name, public_name, bound}
use Rattle.sap_run_lines.specs.StepLines.{bound_word}
use Rattle.sap_run_lines.specs.declared.written_word.WrittenWord.{WrittenWord}
use Rattle.sap_run_lines.specs.declared.written_word.WrittenWord.TheVariants as written
use Rattle.sap_run_lines.specs.code.Taking.{after, given, starts, starts_letter, identifier_at, name_at, number_at, content_at}
use Rattle.sap_run_lines.specs.code.TermTaking.{Taker, small_term}

-- the word as the grammar has it
abbrev pub line_word : WrittenWord → LineWord
line_word (written.Identifier x) = identifier x
line_word (written.Number n) = number n
line_word (written.Fresh n) = fresh_name n
line_word (written.Public s) = public_name s
line_word (written.Bound b) = bound_word b

abbrev pub sorted : Sort → List ℕ → Var
sorted s x = record { name = x; sort = s }

-- behind a variable: its term
abbrev pub value_at : Var → Taker LineWord
value_at v z = if starts 61 z then after (small_term (drop 1 z)) (λ t r. Some (bound v t, r)) else None

-- behind the sign of a variable
abbrev pub bound_at : Sort → Taker LineWord
bound_at s z = after (name_at z) (λ x r. value_at (sorted s x) r)

abbrev pub number_word_at : Taker LineWord
number_word_at z = after (number_at z) (λ n r. Some (number n, r))

-- behind `~`
abbrev pub tilde_at : Taker LineWord
tilde_at z = if starts_letter z then bound_at Fresh z else after (number_at z) (λ n r. Some (fresh_name n, r))

-- behind `'`
abbrev pub public_word_at : Taker LineWord
public_word_at z = after (content_at z) (λ s r. Some (public_name s, r))

-- where a letter stands first
abbrev pub letter_at : Taker LineWord
letter_at z = after (identifier_at z) (λ x r. if starts 61 r then bound_at Msg z else Some (identifier x, r))

-- a word
unfoldable pub word_at : Taker LineWord
word_at z =
    if starts 126 z then tilde_at (drop 1 z)
    else if starts 36 z then bound_at Pub (drop 1 z)
    else if starts 39 z then public_word_at (drop 1 z)
    else if starts_letter z then letter_at z
    else number_word_at z

-- a word, and the words behind one blank, if the bytes don't end
abbrev pub next_words : (List ℕ → Option (List LineWord)) → LineWord → List ℕ → Option (List LineWord)
next_words more w [] = Some (w ∷ [])
next_words more w (b ∷ z) = if b == 32 then option_map (λ ws. w ∷ ws) (more z) else None

-- all of the bytes, in so many words at most
unfoldable pub words_in : ℕ → List ℕ → Option (List LineWord)
words_in zero z = None
words_in (suc n) z = after (word_at z) (λ w r. next_words (words_in n) w r)

-- all of the bytes
abbrev pub words_of : List ℕ → Option (List LineWord)
words_of z = words_in (length z) z

-- the words behind a word: none where the bytes end, else those behind one blank
abbrev pub more_words : List ℕ → Option (List LineWord)
more_words [] = Some []
more_words (b ∷ z) = if b == 32 then words_of z else None

-- what is made of the words behind a word
unfoldable pub on_words : {B : Type 0} → (List LineWord → Option B) → List ℕ → Option B
on_words f z = given (more_words z) f

-- what is taken behind one blank
abbrev pub behind_blank : {A : Type 0} → Taker A → Taker A
behind_blank taker z = if starts 32 z then taker (drop 1 z) else None
