-- What bytes spell: tokens, blanks and comments, and the first fault.
-- Bytes by their codes: 10 is a line feed, 39 `'`, 42 `*`, 47 `/`, 95 `_`.
use Rattle.std.specs.Prelude.{◌≡◌, ◌≤◌, ◌<◌, ℕ, suc, ◌+◌, ◌-◌, Bool, true, false, not, ◌&&◌, ◌||◌, ◌==◌, nat_le, codes, List, [], ◌∷◌, ◌++◌, length, take, Result, Ok, Err, ⊤, if◌then◌else◌}
use Rattle.std.specs.List.{list_all, list_any, count_by}
use Rattle.std.specs.Char.{is_ascii_alphabetic, is_ascii_digit}
use Rattle.std.specs.Str.{bytes_eq}
use Rattle.sap_text.specs.declared.bytes.Class.{Class}
use Rattle.sap_text.specs.declared.bytes.Class.TheVariants.{Word, Digit, Content, Inner, Line}
use Rattle.sap_text.specs.declared.token.Kind.{Kind}
use Rattle.sap_text.specs.declared.token.Kind.TheVariants as kind
use Rattle.sap_text.specs.declared.token.Token.{Token}
use Rattle.sap_text.specs.declared.fault.Lex.{Lex}
use Rattle.sap_text.specs.declared.fault.Lex.TheVariants as fault

-- may follow in an identifier: a letter, a digit or `_`
abbrev pub is_word : ℕ → Bool
is_word b = (is_ascii_alphabetic b || is_ascii_digit b) || b == 95

-- a space, a tab, a carriage return or a line feed
abbrev pub is_blank : ℕ → Bool
is_blank b = (b == 32 || b == 9) || (b == 13 || b == 10)

-- may stand between quotes: printable ASCII other than `'`
abbrev pub is_content : ℕ → Bool
is_content b = (nat_le 32 b && nat_le b 126) && not (b == 39)

-- no line feed
abbrev pub is_not_feed : ℕ → Bool
is_not_feed b = not (b == 10)

-- neither `'` nor a line feed
abbrev pub is_inner : ℕ → Bool
is_inner b = not (b == 39) && not (b == 10)

-- the byte is of the class
abbrev pub is_of : Class → ℕ → Bool
is_of Word = is_word
is_of Digit = is_ascii_digit
is_of Content = is_content
is_of Inner = is_inner
is_of Line = is_not_feed

-- the symbols, 27 of them
abbrev pub symbols : List (List ℕ)
symbols =
    codes "(" ∷ codes ")" ∷ codes "[" ∷ codes "]" ∷ codes "<" ∷ codes ">" ∷ codes "," ∷ codes ";"
    ∷ codes ":" ∷ codes "." ∷ codes "|" ∷ codes "||"
    ∷ codes "&" ∷ codes "=" ∷ codes "==>" ∷ codes "<=>" ∷ codes "@" ∷ codes "#" ∷ codes "~"
    ∷ codes "$" ∷ codes "!" ∷ codes "/" ∷ codes "\"" ∷ codes "-"
    ∷ codes "--[" ∷ codes "]->" ∷ codes "-->" ∷ []

-- one of these
abbrev pub is_symbol : List ℕ → Bool
is_symbol s = list_any (λ t. bytes_eq s t) symbols

-- the bytes are a token of this kind
pub data IsToken : Kind → List ℕ → Type 0 where
  ident : {b : ℕ} {z : List ℕ} → is_ascii_alphabetic b ≡ true → list_all is_word z ≡ true
      → IsToken kind.Ident (b ∷ z)
  number : {b : ℕ} {z : List ℕ} → is_ascii_digit b ≡ true → list_all is_ascii_digit z ≡ true
      → IsToken kind.Number (b ∷ z)
  quoted : (z : List ℕ) → list_all is_content z ≡ true → IsToken kind.Quoted (39 ∷ (z ++ (39 ∷ [])))
  symbol : {s : List ℕ} → is_symbol s ≡ true → IsToken kind.Symbol s

-- how many of the bytes of a token the limit counts: a quoted one by what stands between its quotes, a symbol not at all
abbrev pub counted : Kind → ℕ → ℕ
counted kind.Ident n = n
counted kind.Number n = n
counted kind.Quoted n = n - 2
counted kind.Symbol n = 0

-- x and y stand first
abbrev pub starts_two : ℕ → ℕ → List ℕ → Bool
starts_two x y [] = false
starts_two x y (a ∷ []) = false
starts_two x y (a ∷ b ∷ z) = a == x && b == y

-- `//` or `/*` stands first
abbrev pub begins_comment : List ℕ → Bool
begins_comment z = starts_two 47 47 z || starts_two 47 42 z

-- how many line feeds there are
abbrev pub line_feeds : List ℕ → ℕ
line_feeds z = count_by (λ b. b == 10) z

-- p is the token that is taken where p and then b stand: no comment begins there, and no token there is longer
pub record IsLongest (k : Kind) (p b : List ℕ) : Type 0 where
  pub no_comment : begins_comment (p ++ b) ≡ false
  pub is : IsToken k p
  pub longest : (j : Kind) (q c : List ℕ) → p ++ b ≡ q ++ c → IsToken j q → length q ≤ length p

-- the bytes end, or the first of them fails the test
abbrev pub Stops : (ℕ → Bool) → List ℕ → Type 0
Stops f [] = ⊤
Stops f (x ∷ xs) = f x ≡ false

-- the longest symbol that stands first, or nothing; none has more than three bytes
abbrev pub longest_symbol : List ℕ → List ℕ
longest_symbol z =
    if is_symbol (take 3 z) then take 3 z
    else if is_symbol (take 2 z) then take 2 z
    else if is_symbol (take 1 z) then take 1 z
    else []

-- s is a symbol, and the token that is taken where it stands before b: neither a comment nor a longer symbol begins there
abbrev pub stands_alone : List ℕ → List ℕ → Bool
stands_alone s b = is_symbol s
    && (not (begins_comment (s ++ b)) && bytes_eq (longest_symbol (s ++ b)) s)

-- the bytes end, or a line feed stands next
abbrev pub EndsLine : List ℕ → Type 0
EndsLine [] = ⊤
EndsLine (b ∷ z) = b ≡ 10

-- p is one blank, one comment up to its line's end, or one comment up to the first `*/` behind its `/*`, and b follows it
pub data IsSkip : List ℕ → List ℕ → Type 0 where
  blank : {c : ℕ} {b : List ℕ} → is_blank c ≡ true → IsSkip (c ∷ []) b
  line_comment : {z b : List ℕ} → list_all is_not_feed z ≡ true → EndsLine b
      → IsSkip (47 ∷ 47 ∷ z) b
  block_comment : (z : List ℕ) {b : List ℕ}
      → ((u v : List ℕ) → z ++ (42 ∷ 47 ∷ b) ≡ u ++ (42 ∷ 47 ∷ v) → length z ≤ length u)
      → IsSkip (47 ∷ 42 ∷ (z ++ (42 ∷ 47 ∷ []))) b

-- z, which stands at this offset, begins with neither blank nor comment nor token, for this cause: its first byte begins
-- none of them; it opens a quote that is closed on its line, and this is the first byte inside that may not stand there;
-- it opens a comment that no `*/` closes; it opens a quote that no `'` closes on its line
pub data IsFault (at : ℕ) : List ℕ → Lex → Type 0 where
  bad_byte : {c : ℕ} {z : List ℕ} → is_blank c ≡ false → (c ≡ 39 → ⊥)
      → ((k : Kind) (p b : List ℕ) → c ∷ z ≡ p ++ b → IsToken k p → ⊥)
      → IsFault at (c ∷ z) (fault.BadByte at)
  bad_content : (z b v : List ℕ) (c : ℕ) → list_all is_content z ≡ true → is_content c ≡ false
      → list_all is_inner (c ∷ b) ≡ true
      → IsFault at (39 ∷ (z ++ (c ∷ (b ++ (39 ∷ v))))) (fault.BadByte (at + suc (length z)))
  open_comment : {z : List ℕ} → ((u v : List ℕ) → z ≡ u ++ (42 ∷ 47 ∷ v) → ⊥)
      → IsFault at (47 ∷ 42 ∷ z) (fault.OpenComment at)
  open_quote : {z : List ℕ} → ((u v : List ℕ) → z ≡ u ++ (39 ∷ v) → list_all is_inner u ≡ true → ⊥)
      → IsFault at (39 ∷ z) (fault.OpenQuote at)

-- the tokens, or the first fault
abbrev pub Lexed : Type 0
Lexed = Result (List Token) Lex

-- the token before those of an answer
abbrev pub before : Token → Lexed → Lexed
before t (Ok ts) = Ok (t ∷ ts)
before t (Err e) = Err e

-- What z gives, where it stands at this offset on this line and a name may have `most` bytes: nothing where it is empty;
-- what follows a blank or comment; the longest token, with its span and line, before what follows it; or a fault, where
-- the token has more bytes or nothing begins.
pub data IsLexed (most : ℕ) : ℕ → ℕ → List ℕ → Lexed → Type 0 where
  ended : {at line : ℕ} → IsLexed most at line [] (Ok [])
  skipped : {at line : ℕ} {p b : List ℕ} {o : Lexed} → IsSkip p b
      → IsLexed most (at + length p) (line + line_feeds p) b o → IsLexed most at line (p ++ b) o
  taken : {at line : ℕ} {k : Kind} {p b : List ℕ} {o : Lexed} → IsLongest k p b
      → counted k (length p) ≤ most
      → IsLexed most (at + length p) line b o
      → IsLexed most at line (p ++ b)
      (before (record { kind = k; from = at; to = at + length p; line = line }) o)
  long : {at line : ℕ} {k : Kind} {p b : List ℕ} → IsLongest k p b → most < counted k (length p)
      → IsLexed most at line (p ++ b) (Err (fault.NameLong at))
  failed : {at line : ℕ} {z : List ℕ} {f : Lex} → IsFault at z f → IsLexed most at line z (Err f)
