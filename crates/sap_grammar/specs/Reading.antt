-- Reading words from the left: what stands first, and a value with the words behind it.
use Rattle.std.specs.Prelude.{◌≡◌, ℕ, zero, suc, Bool, false, if◌then◌else◌, codes, List, [], ◌∷◌, ◌++◌, length, drop, Option, Some, None, Result, Ok, Err, ⊤}
use Rattle.std.specs.Borrow.{Bor}
use Rattle.std.specs.Str.{bytes_eq}
use Rattle.sap_text.specs.declared.token.Token.{Token}
use Rattle.sap_grammar.specs.Words.{Word, mark, name, number, quoted, starts, words_of}

abbrev pub as_name : Word → Option (List ℕ)
as_name (mark s) = None
as_name (name s) = Some s
as_name (number s) = None
as_name (quoted s) = None

abbrev pub as_quoted : Word → Option (List ℕ)
as_quoted (mark s) = None
as_quoted (name s) = None
as_quoted (number s) = None
as_quoted (quoted s) = Some s

abbrev pub as_number : Word → Option (List ℕ)
as_number (mark s) = None
as_number (name s) = None
as_number (number s) = Some s
as_number (quoted s) = None

-- the name that stands first
abbrev pub name_at : List Word → Option (List ℕ)
name_at [] = None
name_at (w ∷ ws) = as_name w

-- the quoted name that stands first
abbrev pub quoted_at : List Word → Option (List ℕ)
quoted_at [] = None
quoted_at (w ∷ ws) = as_quoted w

-- the number that stands first, by its digits
abbrev pub number_at : List Word → Option (List ℕ)
number_at [] = None
number_at (w ∷ ws) = as_number w

-- it is this name
abbrev pub is_name : List ℕ → Option (List ℕ) → Bool
is_name x None = false
is_name x (Some y) = bytes_eq y x

-- the first word is this name
abbrev pub names : List ℕ → List Word → Bool
names x ws = is_name x (name_at ws)

abbrev pub is_zero : Word → Bool
is_zero (mark s) = false
is_zero (name s) = false
is_zero (number s) = bytes_eq s (codes "0")
is_zero (quoted s) = false

-- the first word is the number 0
abbrev pub starts_zero : List Word → Bool
starts_zero [] = false
starts_zero (w ∷ ws) = is_zero w

-- a value and the words behind it, if there is one
abbrev pub Read : Type 0 → Type 0
Read A = Option (A × List Word)

abbrev pub Reader : Type 0 → Type 0
Reader A = List Word → Read A

-- goes on behind what was read
unfoldable pub after : {A B : Type 0} → Read A → (A → Reader B) → Read B
after None k = None
after (Some p) k = k p.0 p.1

-- goes on with what is given
unfoldable pub given : {A B : Type 0} → Option A → (A → Read B) → Read B
given None k = None
given (Some x) k = k x

-- goes on behind this mark
unfoldable pub past : {B : Type 0} → List ℕ → List Word → Reader B → Read B
past m ws k = if starts m ws then k (drop 1 ws) else None

-- the name that stands first, and the words behind it
abbrev pub bare : Reader (List ℕ)
bare ws = given (name_at ws) (λ x. Some (x, drop 1 ws))

-- what was read before stands in front
abbrev pub behind : {A : Type 0} → List A → Read (List A) → Read (List A)
behind xs None = None
behind xs (Some p) = Some (xs ++ p.0, p.1)

-- values, one or more, with commas between them and the closing mark behind; the number bounds the turns
abbrev pub list_of : {A : Type 0} → List ℕ → Reader A → ℕ → Reader (List A)
list_of closing one zero ws = None
list_of closing one (suc n) ws = after (one ws) (λ v r.
    if starts closing r then Some (v ∷ [], drop 1 r)
    else if starts (codes ",") r then behind (v ∷ []) (list_of closing one n (drop 1 r))
    else None)

-- values, none or more, and the closing mark
abbrev pub listed : {A : Type 0} → List ℕ → Reader A → Reader (List A)
listed closing one ws = if starts closing ws then Some ([], drop 1 ws) else list_of closing one (length ws) ws

-- The answer is what is read: the value, seen so, and the words of the tokens behind it, or that nothing is. Of want of
-- memory nothing is said.
abbrev pub Gives : {X Y E : Type 0} → List ℕ → (X → Y) → Result (Option (X × Bor (List Token))) E → Read Y → Type 0
Gives bytes view (Err e) read = ⊤
Gives bytes view (Ok None) read = read ≡ None
Gives bytes view (Ok (Some p)) read = read ≡ Some (view p.0, words_of bytes p.1.now)
