-- The bytes of a term that is spelled, and of a word that is written, are ASCII.
use Rattle.std.proofs.Common.{◌≡◌, ℕ, true, List, [], ◌∷◌, ◌++◌, append-nil, decimal, refl, arith, subst}
use Rattle.std.specs.List.{list_all}
use Rattle.std.specs.Char.{is_ascii_alphabetic, is_ascii_digit}
use Rattle.sap_text.specs.declared.token.Kind.TheVariants as kind
use Rattle.sap_text.specs.Tokens.{is_word, is_content, IsToken, ident}
use Rattle.sap_terms.specs.declared.var.Sort.{Sort}
use Rattle.sap_terms.specs.declared.var.Sort.TheVariants.{Msg, Fresh, Pub}
use Rattle.sap_terms.specs.Tree.{Tree, Trees}
use Rattle.sap_terms.proofs.PlainLaws.Tests.{and_true}
use Rattle.sap_grammar.specs.TermText.{sign_of}
use Rattle.sap_grammar.specs.ByteWords.{IsContent}
use Rattle.sap_run_lines.specs.RunTerms.{IsNumber, IsRunTerm, term_public, term_fresh, term_constant, term_symbol, term_tuple, IsRunRest, rest_last, rest_more, AreRunTerms, terms_last, terms_more}
use Rattle.sap_run_lines.specs.LineWords.{LineWord, IsLineWord, word_identifier, word_number, word_fresh, word_public, word_bound}
use Rattle.sap_run_lines.specs.LineText.{word_text}
use Rattle.sap_run_lines.specs.Spellable.{IsWritableWord}
use Rattle.sap_run_lines.specs.WholeWords.{is_ascii, IsAsciiText}
use Rattle.sap_run_lines.proofs.TermsPrinted.{word_printed}
use Rattle.sap_run_lines.proofs.NoFeeds.{weaker, joins, digits_are}

word_byte : (b : ℕ) → is_word b ≡ true → is_ascii b ≡ true
word_byte b e = grind arith

content_byte : (b : ℕ) → is_content b ≡ true → is_ascii b ≡ true
content_byte b e = grind arith

digit_byte : (b : ℕ) → is_ascii_digit b ≡ true → is_ascii b ≡ true
digit_byte b e = grind arith

letter_byte : (b : ℕ) → is_ascii_alphabetic b ≡ true → is_ascii b ≡ true
letter_byte b e = grind arith

identifier_ascii : {x : List ℕ} → IsToken kind.Ident x → IsAsciiText x
identifier_ascii (ident {b = b} {z = z} l w) = and_true (is_ascii b) (list_all is_ascii z) (letter_byte b l) (weaker is_word is_ascii word_byte z w)

number_ascii : (n : ℕ) → IsNumber n → IsAsciiText (decimal n)
number_ascii n lt = weaker is_ascii_digit is_ascii digit_byte (decimal n) (digits_are n lt)

content_ascii : {most : ℕ} {s : List ℕ} → IsContent most s → IsAsciiText s
content_ascii {s = s} c = weaker is_content is_ascii content_byte s c.is

sign_ascii : (s : Sort) → IsAsciiText (sign_of s)
sign_ascii Msg = refl
sign_ascii Fresh = refl
sign_ascii Pub = refl

mutual
  term_ascii : {t : Tree} {z k : List ℕ} → IsRunTerm t z k → IsAsciiText k → IsAsciiText z
  term_ascii (term_public {s = s} {k = k} c) o = joins is_ascii s (39 ∷ k) (content_ascii c) o
  term_ascii (term_fresh {n = n} {k = k} lt) o = joins is_ascii (decimal n) k (number_ascii n lt) o
  term_ascii (term_constant {f = f} {k = k} n) o = joins is_ascii f k (identifier_ascii n.is) o
  term_ascii (term_symbol {f = f} {z = z} n ts) o = joins is_ascii f (40 ∷ z) (identifier_ascii n.is) (terms_ascii ts o)
  term_ascii (term_tuple first later) o = term_ascii first (rest_ascii later o)

  rest_ascii : {t : Tree} {z k : List ℕ} → IsRunRest t z k → IsAsciiText k → IsAsciiText z
  rest_ascii (rest_last t) o = term_ascii t o
  rest_ascii (rest_more t later) o = term_ascii t (rest_ascii later o)

  terms_ascii : {ts : Trees} {z k : List ℕ} → AreRunTerms ts z k → IsAsciiText k → IsAsciiText z
  terms_ascii (terms_last t) o = term_ascii t o
  terms_ascii (terms_more t later) o = term_ascii t (terms_ascii later o)

word_ascii : {w : LineWord} {z k : List ℕ} → IsLineWord w z k → IsAsciiText k → IsAsciiText z
word_ascii (word_identifier {x = x} {k = k} is) o = joins is_ascii x k (identifier_ascii is) o
word_ascii (word_number {n = n} {k = k} lt) o = joins is_ascii (decimal n) k (number_ascii n lt) o
word_ascii (word_fresh {n = n} {k = k} lt) o = joins is_ascii (decimal n) k (number_ascii n lt) o
word_ascii (word_public {s = s} {k = k} c) o = joins is_ascii s (39 ∷ k) (content_ascii c) o
word_ascii (word_bound {v = v} {z = z} n t small) o =
    joins is_ascii (sign_of v.sort ++ v.name) (61 ∷ z) (joins is_ascii (sign_of v.sort) v.name (sign_ascii v.sort) (identifier_ascii n.is)) (term_ascii t o)

-- what is written of a word
pub written_ascii : (w : LineWord) → IsWritableWord w → IsAsciiText (word_text w)
written_ascii w h = subst IsAsciiText (append-nil (word_text w)) (word_ascii (word_printed w h []) refl)
