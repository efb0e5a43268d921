-- Identifiers, names and contents that are taken.
use Rattle.std.proofs.Common.{◌≡◌, ℕ, Bool, true, false, List, [], ◌∷◌, ◌++◌, length, drop, Some, refl, sym, ap, subst, ◌∙◌}
use Rattle.std.specs.Prelude.{◌&&◌, ◌||◌, ◌==◌, not, nat_le}
use Rattle.std.specs.List.{list_all, prefix_len}
use Rattle.std.specs.Char.{is_ascii_alphabetic, is_ascii_digit}
use Rattle.std.proofs.lemmas.Bool.{eqb-true, le-leb, leb-true}
use Rattle.sap_text.specs.declared.token.Kind.TheVariants as kind
use Rattle.sap_text.specs.Tokens.{is_word, is_content, IsToken, ident, Stops}
use Rattle.sap_terms.specs.declared.limits.TheConstants.{MOST_FILE_NAME_BYTES, MOST_THEORY_NAME_BYTES}
use Rattle.sap_terms.proofs.PlainLaws.Tests.{and_left, and_right}
use Rattle.sap_grammar.specs.Words.{is_grammar_word}
use Rattle.sap_grammar.specs.ByteWords.{Ends}
use Rattle.sap_run_lines.specs.RunTerms.{IsRunName, IsRunContent}
use Rattle.sap_run_lines.specs.code.Taking.{front, back, starts, starts_letter, identifier_at, is_run_name, name_at, content_at, after}
use Rattle.sap_run_lines.proofs.Prefixes.{front_back, front_passes, run_is, front_is, back_is, front_more, take_front, drop_front, prefix_front}
use Rattle.sap_run_lines.proofs.OnTaken.{OnTaken, both, after_on, if_on}

-- a letter may stand in a name
pub letter_is_word : (b : ℕ) → is_ascii_alphabetic b ≡ true → is_word b ≡ true
letter_is_word b e = rw e refl

-- what may not go on with a name is no digit
pub ends_digits : (k : List ℕ) → Ends k → Stops is_ascii_digit k
ends_digits [] e = tt
ends_digits (b ∷ k) e = at (is_ascii_alphabetic b) (is_ascii_digit b) e where
  at : (x y : Bool) → ((x || y) || b == 95) ≡ false → y ≡ false
  at true y e = absurd (cc)
  at false true e = absurd (cc)
  at false false e = refl

identifier_front : (z : List ℕ) → starts_letter z ≡ true → IsToken kind.Ident (front is_word z)
identifier_front [] e = absurd (cc)
identifier_front (b ∷ z) e = subst (λ (y : List ℕ). IsToken kind.Ident y) (sym (front_more is_word b z (letter_is_word b e))) (ident e (front_passes is_word z))

pub identifier_on : (z : List ℕ) → OnTaken (λ x r. IsToken kind.Ident x × (z ≡ x ++ r)) (identifier_at z)
unfolding identifier_at
identifier_on z = if_on (both (λ x r. IsToken kind.Ident x × (z ≡ x ++ r))) (starts_letter z) _ _ (λ e. (identifier_front z e, front_back is_word z)) (λ e. tt)

identifier_found : (z : List ℕ) → starts_letter z ≡ true → identifier_at z ≡ Some (front is_word z, back is_word z)
unfolding identifier_at
identifier_found z e = rw e refl

identifier_all : (x : List ℕ) → IsToken kind.Ident x → list_all is_word x ≡ true
identifier_all _ (ident {b = b} {z = z} l all) = rw (letter_is_word b l) all

pub letter_first : (x k : List ℕ) → IsToken kind.Ident x → starts_letter (x ++ k) ≡ true
letter_first _ k (ident {b = b} {z = z} l all) = l

pub identifier_read : (x k : List ℕ) → IsToken kind.Ident x → Ends k → identifier_at (x ++ k) ≡ Some (x, k)
identifier_read x k is e =
    let all = identifier_all x is in
    identifier_found (x ++ k) (letter_first x k is) ∙ (λ i. Some (front_is is_word x k all e i, back_is is_word x k all e i))

-- a name begins with no sign
pub no_sign : (c : ℕ) (x k : List ℕ) → is_ascii_alphabetic c ≡ false → IsToken kind.Ident x → starts c (x ++ k) ≡ false
no_sign c _ k other (ident {b = b} {z = z} l all) = at (b == c) refl where
  at : (e : Bool) → (b == c) ≡ e → e ≡ false
  at false e = refl
  at true e = let same : b ≡ c = eqb-true b c e in absurd (cc)

not_true : (b : Bool) → not b ≡ true → b ≡ false
not_true false e = refl
not_true true e = absurd (cc)

pub name_on : (z : List ℕ) → OnTaken (λ x r. IsRunName x × (z ≡ x ++ r)) (name_at z)
unfolding name_at
name_on z = after_on (λ x r. IsToken kind.Ident x × (z ≡ x ++ r)) (both (λ x r. IsRunName x × (z ≡ x ++ r))) (identifier_at z) _ (identifier_on z) (λ x r h.
    if_on (both (λ x r. IsRunName x × (z ≡ x ++ r))) (is_run_name x) _ _ (λ e. (
      record {
        is = h.0;
        no_grammar_word = not_true (is_grammar_word x) (and_left (not (is_grammar_word x)) (nat_le (length x) MOST_THEORY_NAME_BYTES) e);
        short = leb-true (length x) MOST_THEORY_NAME_BYTES (and_right (not (is_grammar_word x)) (nat_le (length x) MOST_THEORY_NAME_BYTES) e);
      },
      h.1,
    )) (λ e. tt))

pub name_read : (x k : List ℕ) → IsRunName x → Ends k → name_at (x ++ k) ≡ Some (x, k)
unfolding name_at after
name_read x k n e =
    let short : nat_le (length x) MOST_THEORY_NAME_BYTES ≡ true = le-leb (length x) MOST_THEORY_NAME_BYTES n.short in
    rw (identifier_read x k n.is e, n.no_grammar_word, short) refl

pub content_on : (z : List ℕ) → OnTaken (λ s r. IsRunContent s × (z ≡ s ++ (39 ∷ r))) (content_at z)
unfolding content_at
content_on z = if_on (both (λ s r. IsRunContent s × (z ≡ s ++ (39 ∷ r)))) (nat_le (prefix_len is_content z) MOST_FILE_NAME_BYTES && starts 39 (back is_content z)) _ _ found (λ e. tt) where
  quote : (y : List ℕ) → starts 39 y ≡ true → y ≡ 39 ∷ drop 1 y
  quote [] e = absurd (cc)
  quote (b ∷ y) e = ap (λ c. c ∷ y) (eqb-true b 39 e)

  found : (nat_le (prefix_len is_content z) MOST_FILE_NAME_BYTES && starts 39 (back is_content z)) ≡ true
      → IsRunContent (front is_content z) × (z ≡ front is_content z ++ (39 ∷ drop 1 (back is_content z)))
  found e =
      let short = leb-true (prefix_len is_content z) MOST_FILE_NAME_BYTES (and_left (nat_le (prefix_len is_content z) MOST_FILE_NAME_BYTES) (starts 39 (back is_content z)) e) in (
        record { is = front_passes is_content z; short = rw (prefix_front is_content z) short },
        front_back is_content z ∙ ap (λ y. front is_content z ++ y) (quote (back is_content z) (and_right (nat_le (prefix_len is_content z) MOST_FILE_NAME_BYTES) (starts 39 (back is_content z)) e)),
      )

pub content_read : (s k : List ℕ) → IsRunContent s → content_at (s ++ (39 ∷ k)) ≡ Some (s, k)
unfolding content_at
content_read s k c =
    let n : prefix_len is_content (s ++ (39 ∷ k)) ≡ length s = run_is is_content s (39 ∷ k) c.is refl in
    let short : nat_le (length s) MOST_FILE_NAME_BYTES ≡ true = le-leb (length s) MOST_FILE_NAME_BYTES c.short in
    rw (n, short, take_front s (39 ∷ k), drop_front s (39 ∷ k)) refl
