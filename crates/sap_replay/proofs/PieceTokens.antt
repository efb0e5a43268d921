-- A text that is given piece by piece, and its tokens.
use Rattle.std.proofs.Common.{◌≡◌, ◌≤◌, ◌+◌, ℕ, List, [], ◌∷◌, ◌++◌, length, Bool, true, false, not, ◌&&◌, nat_le, Ok, refl, subst, arith}
use Rattle.std.specs.List.{list_all}
use Rattle.std.specs.Char.{is_ascii_alphabetic}
use Rattle.std.proofs.lemmas.Bool.{leb-true}
use Rattle.sap_terms.proofs.PlainLaws.Tests.{and_left, and_right}
use Rattle.sap_text.specs.Tokens.{IsToken, ident, IsLongest, IsLexed, ended, skipped, taken, blank, counted, Stops, is_word, is_content, is_blank, stands_alone, line_feeds}
use Rattle.sap_text.specs.declared.token.Kind.{Kind}
use Rattle.sap_text.specs.declared.token.Kind.TheVariants as kind
use Rattle.sap_text.specs.declared.token.Token.{Token}

-- what the law of tokens says
pub record Longest : Type 0 where
  pub names : (p b : List ℕ) → IsToken kind.Ident p → Stops is_word b → IsLongest kind.Ident p b
  pub quoted : (s b : List ℕ) → list_all is_content s ≡ true → IsLongest kind.Quoted (39 ∷ (s ++ (39 ∷ []))) b
  pub symbols : (s b : List ℕ) → stands_alone s b ≡ true → IsLongest kind.Symbol s b

-- an identifier by its first byte and the others, what stands between two quotes, a symbol, and a blank
pub data Piece : Type 0 where
  word : ℕ → List ℕ → Piece
  quote : List ℕ → Piece
  sign : List ℕ → Piece
  gap : ℕ → Piece

-- its bytes
abbrev pub bytes : Piece → List ℕ
bytes (word b z) = b ∷ z
bytes (quote s) = 39 ∷ (s ++ (39 ∷ []))
bytes (sign s) = s
bytes (gap c) = c ∷ []

-- those of several, one behind the other
abbrev pub text : List Piece → List ℕ
text [] = []
text (p ∷ ps) = bytes p ++ text ps

-- a token of so many bytes from this offset on, on this line
abbrev token : Kind → ℕ → ℕ → ℕ → Token
token k at line n = record { kind = k; from = at; to = at + n; line = line }

-- the piece's token, if it is one, before those behind it
abbrev with_token : ℕ → ℕ → Piece → List Token → List Token
with_token at line (word b z) ts = token kind.Ident at line (length (b ∷ z)) ∷ ts
with_token at line (quote s) ts = token kind.Quoted at line (length (39 ∷ (s ++ (39 ∷ [])))) ∷ ts
with_token at line (sign s) ts = token kind.Symbol at line (length s) ∷ ts
with_token at line (gap c) ts = ts

-- how many lines it ends
abbrev lines_ended : Piece → ℕ
lines_ended (gap c) = line_feeds (c ∷ [])
lines_ended _ = 0

-- the tokens of pieces, from this offset on, on this line
abbrev pub tokens : ℕ → ℕ → List Piece → List Token
tokens at line [] = []
tokens at line (p ∷ ps) = with_token at line p (tokens (at + length (bytes p)) (line + lines_ended p) ps)

-- no identifier goes on here
abbrev stops : List ℕ → Bool
stops [] = true
stops (b ∷ z) = not (is_word b)

-- the piece is what it says, and ends where these bytes go on
abbrev ends_before : Piece → List ℕ → Bool
ends_before (word b z) rest = (is_ascii_alphabetic b && list_all is_word z) && (stops rest && nat_le (length (b ∷ z)) 64)
ends_before (quote s) rest = list_all is_content s && nat_le (length (39 ∷ (s ++ (39 ∷ [])))) 64
ends_before (sign s) rest = stands_alone s rest
ends_before (gap c) rest = is_blank c

-- each piece ends where the next begins
abbrev pub are_parted : List Piece → Bool
are_parted [] = true
are_parted (p ∷ ps) = ends_before p (text ps) && are_parted ps

not_true : (a : Bool) → not a ≡ true → a ≡ false
not_true true h = cc
not_true false h = refl

stops_there : (z : List ℕ) → stops z ≡ true → Stops is_word z
stops_there [] h = tt
stops_there (b ∷ z) h = not_true (is_word b) h

same_line : (n : ℕ) → n + 0 ≡ n
same_line n = omega arith

module _ (longest : Longest) where
  -- a piece before what stands behind it
  one : (p : Piece) (b : List ℕ) (at line : ℕ) (ts : List Token) → ends_before p b ≡ true → IsLexed 64 (at + length (bytes p)) (line + lines_ended p) b (Ok ts)
      → IsLexed 64 at line (bytes p ++ b) (Ok (with_token at line p ts))
  one (word c z) b at line ts h rest =
      let is = and_left (is_ascii_alphabetic c && list_all is_word z) (stops b && nat_le (length (c ∷ z)) 64) h in
      let ends = and_right (is_ascii_alphabetic c && list_all is_word z) (stops b && nat_le (length (c ∷ z)) 64) h in
      let few : length (c ∷ z) ≤ 64 = leb-true (length (c ∷ z)) 64 (and_right (stops b) (nat_le (length (c ∷ z)) 64) ends) in
      let begins = and_left (is_ascii_alphabetic c) (list_all is_word z) is in
      let goes_on = and_right (is_ascii_alphabetic c) (list_all is_word z) is in
      let behind = stops_there b (and_left (stops b) (nat_le (length (c ∷ z)) 64) ends) in
      let here : IsLexed 64 (at + length (c ∷ z)) line b (Ok ts) = subst (λ n. IsLexed 64 (at + length (c ∷ z)) n b (Ok ts)) (same_line line) rest in
      taken (longest.names (c ∷ z) b (ident begins goes_on) behind) few here
  one (quote s) b at line ts h rest =
      let content = and_left (list_all is_content s) (nat_le (length (39 ∷ (s ++ (39 ∷ [])))) 64) h in
      let few : length (39 ∷ (s ++ (39 ∷ []))) ≤ 64 = leb-true (length (39 ∷ (s ++ (39 ∷ [])))) 64 (and_right (list_all is_content s) (nat_le (length (39 ∷ (s ++ (39 ∷ [])))) 64) h) in
      let here : IsLexed 64 (at + length (bytes (quote s))) line b (Ok ts) = subst (λ n. IsLexed 64 (at + length (bytes (quote s))) n b (Ok ts)) (same_line line) rest in
      let counts : counted kind.Quoted (length (39 ∷ (s ++ (39 ∷ [])))) ≤ 64 = omega arith in
      taken (longest.quoted s b content) counts here
  one (sign s) b at line ts h rest =
      let here : IsLexed 64 (at + length s) line b (Ok ts) = subst (λ n. IsLexed 64 (at + length s) n b (Ok ts)) (same_line line) rest in
      taken (longest.symbols s b h) (omega arith) here
  one (gap c) b at line ts h rest = skipped {p = c ∷ []} (blank h) rest

  -- pieces give their tokens
  pub pieces_lexed : (ps : List Piece) (at line : ℕ) → are_parted ps ≡ true → IsLexed 64 at line (text ps) (Ok (tokens at line ps))
  pieces_lexed [] at line h = ended
  pieces_lexed (p ∷ ps) at line h =
      one p (text ps) at line (tokens (at + length (bytes p)) (line + lines_ended p) ps) (and_left (ends_before p (text ps)) (are_parted ps) h)
      (pieces_lexed ps (at + length (bytes p)) (line + lines_ended p) (and_right (ends_before p (text ps)) (are_parted ps) h))
