-- What the code takes from the left of bytes: names, numbers, contents, with the bytes behind.
-- Bytes by their codes: 39 is `'`, 48 `0`.
use Rattle.std.specs.Prelude.{◌≡◌, ℕ, ◌+◌, ◌*◌, ◌-◌, ◌^◌, Bool, false, not, ◌&&◌, ◌==◌, nat_le, nat_lt, List, [], ◌∷◌, length, take, drop, Option, Some, None, Result, Ok, Err, ⊤, if◌then◌else◌}
use Rattle.std.specs.Borrow.{Bor}
use Rattle.std.specs.List.{prefix_len}
use Rattle.std.specs.Char.{is_ascii_alphabetic, is_ascii_digit}
use Rattle.sap_text.specs.Tokens.{is_word, is_content}
use Rattle.sap_terms.specs.declared.limits.TheConstants.{MOST_FILE_NAME_BYTES, MOST_THEORY_NAME_BYTES}
use Rattle.sap_grammar.specs.Words.{is_grammar_word}

-- a value and the bytes behind it, if there is one
abbrev pub Taken : Type 0 → Type 0
Taken A = Option (A × List ℕ)

-- goes on behind what was taken
unfoldable pub after : {A B : Type 0} → Taken A → (A → List ℕ → Option B) → Option B
after None k = None
after (Some p) k = k p.0 p.1

-- goes on with what is given
unfoldable pub given : {A B : Type 0} → Option A → (A → Option B) → Option B
given None k = None
given (Some x) k = k x

-- this byte stands first
abbrev pub starts : ℕ → List ℕ → Bool
starts c [] = false
starts c (b ∷ z) = b == c

-- a letter stands first
abbrev pub starts_letter : List ℕ → Bool
starts_letter [] = false
starts_letter (b ∷ z) = is_ascii_alphabetic b

-- the bytes that pass the test, up to the first that doesn't, and those from it on
abbrev pub front : (ℕ → Bool) → List ℕ → List ℕ
front f z = take (prefix_len f z) z

abbrev pub back : (ℕ → Bool) → List ℕ → List ℕ
back f z = drop (prefix_len f z) z

-- an identifier
unfoldable pub identifier_at : List ℕ → Taken (List ℕ)
identifier_at z = if starts_letter z then Some (front is_word z, back is_word z) else None

-- it is short, and no word of the grammar
abbrev pub is_run_name : List ℕ → Bool
is_run_name x = not (is_grammar_word x) && nat_le (length x) MOST_THEORY_NAME_BYTES

-- a name
unfoldable pub name_at : List ℕ → Taken (List ℕ)
name_at z = after (identifier_at z) (λ x r. if is_run_name x then Some (x, r) else None)

-- the number with one digit more, if it fits
abbrev pub with_digit : ℕ → ℕ → Option ℕ
with_digit v b = if is_ascii_digit b then (if nat_lt (v * 10 + (b - 48)) (2 ^ 64) then Some (v * 10 + (b - 48)) else None) else None

-- with these digits more
unfoldable pub with_digits : ℕ → List ℕ → Option ℕ
with_digits v [] = Some v
with_digits v (b ∷ z) = given (with_digit v b) (λ w. with_digits w z)

abbrev pub only_zero : List ℕ → Option ℕ
only_zero [] = Some 0
only_zero (b ∷ z) = None

-- the number that the digits write, where no zero leads
abbrev pub number_of : List ℕ → Option ℕ
number_of [] = None
number_of (b ∷ z) = if b == 48 then only_zero z else with_digits 0 (b ∷ z)

-- a number
unfoldable pub number_at : List ℕ → Taken ℕ
number_at z = given (number_of (front is_ascii_digit z)) (λ n. Some (n, back is_ascii_digit z))

-- a content, behind its first quote, and its last one
unfoldable pub content_at : List ℕ → Taken (List ℕ)
content_at z =
    if nat_le (prefix_len is_content z) MOST_FILE_NAME_BYTES && starts 39 (back is_content z)
    then Some (front is_content z, drop 1 (back is_content z))
    else None

-- The answer is what is taken: the value, seen so, and the bytes behind it, or that nothing is. Of want of memory nothing is
-- said.
abbrev pub Takes : {X Y E : Type 0} → (X → Y) → Result (Option (X × Bor (List ℕ))) E → Taken Y → Type 0
Takes view (Err e) taken = ⊤
Takes view (Ok None) taken = taken ≡ None
Takes view (Ok (Some p)) taken = taken ≡ Some (view p.0, p.1.now)

-- the same of what can't fail
abbrev pub Finds : {X Y : Type 0} → (X → Y) → Option (X × Bor (List ℕ)) → Taken Y → Type 0
Finds view None taken = taken ≡ None
Finds view (Some p) taken = taken ≡ Some (view p.0, p.1.now)
