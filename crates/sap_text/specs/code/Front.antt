-- What stands first among the bytes, as the code finds it.
use Rattle.std.specs.Prelude.{◌≡◌, ◌≤◌, ℕ, ◌+◌, ◌&&◌, ◌==◌, nat_lt, if◌then◌else◌, List, [], ◌∷◌, ◌++◌, length, take, drop, slice_index, Option, Some, None, option_map, Ok, Err, ⊤}
use Rattle.std.specs.List.{prefix_len}
use Rattle.std.specs.Char.{is_ascii_alphabetic, is_ascii_digit}
use Rattle.sap_text.specs.declared.token.Kind.TheVariants as kind
use Rattle.sap_text.specs.declared.front.Front.{Front}
use Rattle.sap_text.specs.declared.front.Front.TheVariants as front
use Rattle.sap_text.specs.declared.token.Token.{Token}
use Rattle.sap_text.specs.declared.fault.Lex.TheVariants as fault
use Rattle.sap_text.specs.Tokens.{is_word, is_blank, is_content, is_not_feed, is_inner, is_symbol, starts_two, IsLongest, IsSkip, IsFault, Lexed}

-- how many bytes stand before the first `*/`
abbrev pub close_at : List ℕ → Option ℕ
close_at [] = None
close_at (b ∷ z) = if starts_two 42 47 (b ∷ z) then Some 0 else option_map (λ n. n + 1) (close_at z)

-- the length of the longest symbol that stands first, or 0
abbrev pub symbol_len : List ℕ → ℕ
symbol_len z =
    if is_symbol (take 3 z) then length (take 3 z)
    else if is_symbol (take 2 z) then length (take 2 z)
    else if is_symbol (take 1 z) then length (take 1 z)
    else 0

-- behind a quote at this place
abbrev pub quote_front : ℕ → List ℕ → Front
quote_front at z =
    if nat_lt (prefix_len is_inner z) (length z) && slice_index z (prefix_len is_inner z) == 39
    then (if prefix_len is_content z == prefix_len is_inner z then front.Taken kind.Quoted (prefix_len is_inner z + 2)
    else front.Fault (fault.BadByte (at + (prefix_len is_content z + 1))))
    else front.Fault (fault.OpenQuote at)

-- a comment at this place, whose end stands so far behind its `/*`
abbrev pub comment_front : ℕ → Option ℕ → Front
comment_front at None = front.Fault (fault.OpenComment at)
comment_front at (Some n) = front.Skip (n + 4)

-- what stands at this place, b and then z
unfoldable pub front_at : ℕ → ℕ → List ℕ → Front
front_at at b z =
    if is_blank b then front.Skip 1
    else if starts_two 47 47 (b ∷ z) then front.Skip (prefix_len is_not_feed (b ∷ z))
    else if starts_two 47 42 (b ∷ z) then comment_front at (close_at (drop 1 z))
    else if is_ascii_alphabetic b then front.Taken kind.Ident (prefix_len is_word (b ∷ z))
    else if is_ascii_digit b then front.Taken kind.Number (prefix_len is_ascii_digit (b ∷ z))
    else if b == 39 then quote_front at z
    else if symbol_len (b ∷ z) == 0 then front.Fault (fault.BadByte at)
    else front.Taken kind.Symbol (symbol_len (b ∷ z))

-- the n first bytes of z, and what follows them, are as R says
pub record AtFront (R : List ℕ → List ℕ → Type 0) (z : List ℕ) (n : ℕ) : Type 0 where
  pub part : List ℕ
  pub rest : List ℕ
  pub whole : z ≡ part ++ rest
  pub counts : length part ≡ n
  pub is : R part rest

-- this front stands first in z, which stands at this place
abbrev pub Stands : ℕ → List ℕ → Front → Type 0
Stands at z (front.Skip n) = AtFront IsSkip z n
Stands at z (front.Taken k n) = AtFront (IsLongest k) z n
Stands at z (front.Fault f) = IsFault at z f

-- it has at least one byte, and at most so many
abbrev pub Within : ℕ → Front → Type 0
Within most (front.Skip n) = (1 ≤ n) × (n ≤ most)
Within most (front.Taken k n) = (1 ≤ n) × (n ≤ most)
Within most (front.Fault f) = ⊤

-- the tokens before those of an answer
abbrev pub all_before : List Token → Lexed → Lexed
all_before ts (Ok us) = Ok (ts ++ us)
all_before ts (Err f) = Err f
