-- No line feed stands in the line of a step.
use Rattle.std.proofs.Common.{◌≡◌, ◌<◌, ◌+◌, ◌%◌, ◌^◌, ℕ, Bool, true, List, [], ◌∷◌, ◌++◌, decimal, refl, ◌∙◌, arith}
use Rattle.std.specs.List.{list_all}
use Rattle.std.specs.Char.{is_ascii_alphabetic, is_ascii_digit}
use Rattle.std.proofs.lemmas.Fmt.{decimal_by_steps}
use Rattle.std.proofs.lemmas.List.Folds.{list_all-append}
use Rattle.sap_text.specs.declared.token.Kind.TheVariants as kind
use Rattle.sap_text.specs.Tokens.{is_word, is_content, is_not_feed, IsToken, ident}
use Rattle.sap_terms.specs.declared.var.Sort.{Sort}
use Rattle.sap_terms.specs.declared.var.Sort.TheVariants.{Msg, Fresh, Pub}
use Rattle.sap_terms.specs.Tree.{Tree, Trees}
use Rattle.sap_terms.proofs.PlainLaws.Tests.{and_left, and_right, and_true}
use Rattle.sap_grammar.specs.TermText.{sign_of}
use Rattle.sap_grammar.specs.ByteWords.{IsContent}
use Rattle.sap_runs.specs.declared.process_step.PStep.{PStep}
use Rattle.sap_runs.specs.declared.rule_step.RStep.{RStep}
use Rattle.sap_run_lines.specs.RunTerms.{IsNumber, IsRunTerm, term_public, term_fresh, term_constant, term_symbol, term_tuple, IsRunRest, rest_last, rest_more, AreRunTerms, terms_last, terms_more}
use Rattle.sap_run_lines.specs.LineWords.{LineWord, IsLineWord, word_identifier, word_number, word_fresh, word_public, word_bound, AreLineWords, words_last, words_more}
use Rattle.sap_run_lines.specs.StepLines.{IsProcessStepLine, IsRuleStepLine, IsOpenLine}

-- a weaker test
pub weaker : (f g : ℕ → Bool) → ((b : ℕ) → f b ≡ true → g b ≡ true) → (s : List ℕ) → list_all f s ≡ true → list_all g s ≡ true
weaker f g h [] l = refl
weaker f g h (x ∷ s) l = and_true (g x) (list_all g s) (h x (and_left (f x) (list_all f s) l)) (weaker f g h s (and_right (f x) (list_all f s) l))

pub joins : (f : ℕ → Bool) (x y : List ℕ) → list_all f x ≡ true → list_all f y ≡ true → list_all f (x ++ y) ≡ true
joins f x y p q = list_all-append f x y ∙ and_true (list_all f x) (list_all f y) p q

word_byte : (b : ℕ) → is_word b ≡ true → is_not_feed b ≡ true
word_byte b e = grind arith

content_byte : (b : ℕ) → is_content b ≡ true → is_not_feed b ≡ true
content_byte b e = grind arith

digit_byte : (b : ℕ) → is_ascii_digit b ≡ true → is_not_feed b ≡ true
digit_byte b e = grind arith

letter_byte : (b : ℕ) → is_ascii_alphabetic b ≡ true → is_not_feed b ≡ true
letter_byte b e = grind arith

one_digit : (d : ℕ) → d < 10 → is_ascii_digit (48 + d) ≡ true
one_digit d lt = grind arith

-- what decimal writes is digits
pub digits_are : (n : ℕ) → n < 2 ^ 64 → list_all is_ascii_digit (decimal n) ≡ true
digits_are n lt =
    decimal_by_steps (λ n ds. list_all is_ascii_digit ds ≡ true) (λ n low. and_true (is_ascii_digit (48 + n)) true (one_digit n low) refl)
    (λ n ds high p. joins is_ascii_digit ds ((48 + n % 10) ∷ []) p (and_true (is_ascii_digit (48 + n % 10)) true (one_digit (n % 10) (omega arith)) refl)) n lt

identifier_open : {x : List ℕ} → IsToken kind.Ident x → IsOpenLine x
identifier_open (ident {b = b} {z = z} l w) = and_true (is_not_feed b) (list_all is_not_feed z) (letter_byte b l) (weaker is_word is_not_feed word_byte z w)

number_open : (n : ℕ) → IsNumber n → IsOpenLine (decimal n)
number_open n lt = weaker is_ascii_digit is_not_feed digit_byte (decimal n) (digits_are n lt)

content_open : {most : ℕ} {s : List ℕ} → IsContent most s → IsOpenLine s
content_open {s = s} c = weaker is_content is_not_feed content_byte s c.is

sign_open : (s : Sort) → IsOpenLine (sign_of s)
sign_open Msg = refl
sign_open Fresh = refl
sign_open Pub = refl

mutual
  pub term_open : {t : Tree} {z k : List ℕ} → IsRunTerm t z k → IsOpenLine k → IsOpenLine z
  term_open (term_public {s = s} {k = k} c) o = joins is_not_feed s (39 ∷ k) (content_open c) o
  term_open (term_fresh {n = n} {k = k} lt) o = joins is_not_feed (decimal n) k (number_open n lt) o
  term_open (term_constant {f = f} {k = k} n) o = joins is_not_feed f k (identifier_open n.is) o
  term_open (term_symbol {f = f} {z = z} n ts) o = joins is_not_feed f (40 ∷ z) (identifier_open n.is) (terms_open ts o)
  term_open (term_tuple first later) o = term_open first (rest_open later o)

  rest_open : {t : Tree} {z k : List ℕ} → IsRunRest t z k → IsOpenLine k → IsOpenLine z
  rest_open (rest_last t) o = term_open t o
  rest_open (rest_more t later) o = term_open t (rest_open later o)

  terms_open : {ts : Trees} {z k : List ℕ} → AreRunTerms ts z k → IsOpenLine k → IsOpenLine z
  terms_open (terms_last t) o = term_open t o
  terms_open (terms_more t later) o = term_open t (terms_open later o)

pub word_open : {w : LineWord} {z k : List ℕ} → IsLineWord w z k → IsOpenLine k → IsOpenLine z
word_open (word_identifier {x = x} {k = k} is) o = joins is_not_feed x k (identifier_open is) o
word_open (word_number {n = n} {k = k} lt) o = joins is_not_feed (decimal n) k (number_open n lt) o
word_open (word_fresh {n = n} {k = k} lt) o = joins is_not_feed (decimal n) k (number_open n lt) o
word_open (word_public {s = s} {k = k} c) o = joins is_not_feed s (39 ∷ k) (content_open c) o
word_open (word_bound {v = v} {z = z} n t small) o =
    joins is_not_feed (sign_of v.sort ++ v.name) (61 ∷ z) (joins is_not_feed (sign_of v.sort) v.name (sign_open v.sort) (identifier_open n.is)) (term_open t o)

pub words_open : {ws : List LineWord} {z : List ℕ} → AreLineWords ws z → IsOpenLine z
words_open (words_last w) = word_open w refl
words_open (words_more w later) = word_open w (words_open later)

pub process_line_open : (s : PStep) (z : List ℕ) → IsProcessStepLine s z → IsOpenLine z
process_line_open s z is = words_open is.words

pub rule_line_open : (s : RStep) (z : List ℕ) → IsRuleStepLine s z → IsOpenLine z
rule_line_open s z is = words_open is.words
