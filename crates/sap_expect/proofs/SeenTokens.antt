-- The word that is seen of a token is the token's.
use Rattle.std.proofs.Common.{◌≡◌, ◌<◌, ◌∙◌, ◌-◌, ℕ, Bool, true, false, List, Some, ap, arith, length, get_or, refl, sym, take}
use Rattle.std.proofs.lemmas.List.{take_all}
use Rattle.std.proofs.lemmas.Option.{slice_get-get_or}
use Rattle.std.proofs.lemmas.Slice.Eq.{bytes_eq-Decides}
use Rattle.std.specs.Borrow.{Bor}
use Rattle.std.specs.Prelude.{slice_get}
use Rattle.std.specs.Str.{bytes_eq}
use Rattle.sap_text.specs.Spans.{text_of}
use Rattle.sap_text.specs.declared.token.Kind.{Kind}
use Rattle.sap_text.specs.declared.token.Token.{Token}
use Rattle.sap_grammar.specs.Words.{Word, word_of, word_of_text}
use Rattle.sap_expect.specs.code.Going.{witness_of}

pub seen_token : (z : List ℕ) (ts : List Token) (k : ℕ) (d : Token) (w : Word) (text : List ℕ) → k < length ts → w ≡ word_of_text (get_or ts k d).kind text
    → ((t : Token) → slice_get ts k ≡ Some t → text ≡ text_of z t) → w ≡ word_of z (get_or ts k d)
seen_token z ts k d w text lt e f = e ∙ ap (λ (x : List ℕ). word_of_text (get_or ts k d).kind x) (f (get_or ts k d) (slice_get-get_or ts k d lt))

-- and of one that stands for a kind
pub seen_witness : (p : Kind × Bor (List ℕ)) (w : Word) (text : List ℕ) → w ≡ word_of_text p.0 text → text ≡ p.1.now → w ≡ witness_of p
seen_witness p w text e f =
    let all : take (length p.1.now - 0) p.1.now ≡ p.1.now = take_all (length p.1.now - 0) p.1.now (omega arith) in
    e ∙ ap (λ (x : List ℕ). word_of_text p.0 x) (f ∙ sym all)

-- bytes of another number are others
not_true : (b : Bool) → (b ≡ true → ⊥) → false ≡ b
not_true true never = absurd (never refl)
not_true false never = refl

pub other_length : (x y : List ℕ) → (length x ≡ length y → ⊥) → false ≡ bytes_eq x y
other_length x y never = not_true (bytes_eq x y) (λ e. never (ap length ((bytes_eq-Decides x y).0 e)))
