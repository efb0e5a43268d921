-- The names among the words of tokens begin with letters.
use Rattle.std.proofs.Common.{◌≡◌, ◌||◌, ℕ, suc, Bool, true, false, List, [], ◌∷◌, Some, refl}
use Rattle.std.specs.Prelude.{if◌then◌else◌, slice_get}
use Rattle.std.specs.Char.{is_ascii_alphabetic}
use Rattle.sap_text.specs.declared.token.Kind.{Kind}
use Rattle.sap_text.specs.declared.token.Token.{Token}
use Rattle.sap_text.specs.Spans.{text_of}
use Rattle.sap_text.specs.Tokens as tokens
use Rattle.sap_grammar.specs.Words.{is_grammar_word, is_lower, is_upper, mark, name, word_of_text, words_of}
use Rattle.sap_expect.specs.Letters.{AreLettered, IsLettered}

or_turned : (b c : Bool) → (b || c) ≡ true → (c || b) ≡ true
or_turned true true e = refl
or_turned true false e = refl
or_turned false true e = refl
or_turned false false e = absurd (cc (e))

letter_first : (b : ℕ) (x : List ℕ) → is_ascii_alphabetic b ≡ true → (is_lower (b ∷ x) || is_upper (b ∷ x)) ≡ true
letter_first b x e = or_turned (is_upper (b ∷ x)) (is_lower (b ∷ x)) e

text_lettered : {k : Kind} {x : List ℕ} → tokens.IsToken k x → IsLettered (word_of_text k x)
text_lettered (tokens.ident {b = b} {z = x} letter more) = by (is_grammar_word (b ∷ x))
  where
    by : (t : Bool) → IsLettered (if t then mark (b ∷ x) else name (b ∷ x))
    by true = tt
    by false = letter_first b x letter
text_lettered (tokens.number digit more) = tt
text_lettered (tokens.quoted x inside) = tt
text_lettered (tokens.symbol is) = tt

pub words_lettered : (z : List ℕ) (ts : List Token) → ((k : ℕ) (t : Token) → slice_get ts k ≡ Some t → tokens.IsToken t.kind (text_of z t)) → AreLettered (words_of z ts)
words_lettered z [] h = tt
words_lettered z (t ∷ ts) h = (text_lettered (h 0 t refl), words_lettered z ts (λ k u e. h (suc k) u e))
