-- What is taken as words is spelled so, and what is spelled so is taken.
use Rattle.std.proofs.Common.{◌≡◌, ◌≤◌, ◌<◌, ℕ, zero, suc, Bool, true, false, List, [], ◌∷◌, ◌++◌, append_assoc, length, length-append, drop, Option, Some, None, refl, sym, ap, subst, ◌∙◌, arith}
use Rattle.std.specs.Prelude.{◌==◌, decimal}
use Rattle.std.specs.Option.{option_map}
use Rattle.std.specs.Char.{is_ascii_alphabetic, is_ascii_digit}
use Rattle.std.proofs.lemmas.Bool.{eqb-true}
use Rattle.sap_text.specs.declared.token.Kind.TheVariants as kind
use Rattle.sap_text.specs.Tokens.{IsToken, ident}
use Rattle.sap_terms.specs.declared.var.Sort.{Sort}
use Rattle.sap_terms.specs.declared.var.Sort.TheVariants.{Msg, Fresh, Pub}
use Rattle.sap_terms.specs.Tree.{Tree, Trees}
use Rattle.sap_grammar.specs.TermText.{sign_of, variable_text}
use Rattle.sap_runs.specs.Limits.{HasFewNodes}
use Rattle.sap_run_lines.specs.RunTerms.{IsNumber, IsRunName, IsRunContent, IsRunTerm, IsRunRest, AreRunTerms, term_public, term_fresh, term_constant, term_symbol, term_tuple, rest_last, rest_more, terms_last, terms_more}
use Rattle.sap_run_lines.specs.LineWords.{LineWord, bound, IsLineWord, word_identifier, word_number, word_fresh, word_public, word_bound, AreLineWords, words_last, words_more}
use Rattle.sap_run_lines.specs.code.Taking.{after, starts, starts_letter, identifier_at, name_at, number_at, content_at}
use Rattle.sap_run_lines.specs.code.TermTaking.{small_term}
use Rattle.sap_run_lines.specs.code.WordTaking.{sorted, bound_at, number_word_at, tilde_at, public_word_at, letter_at, word_at, next_words, words_in, words_of}
use Rattle.sap_run_lines.proofs.OnTaken.{OnTaken, OnSome, both, after_on, if_on, some_on}
use Rattle.sap_run_lines.proofs.Names.{identifier_on, identifier_read, name_on, name_read, content_on, content_read, no_sign, letter_first, ends_digits}
use Rattle.sap_run_lines.proofs.Digits.{number_on, number_read, number_first, number_some}
use Rattle.sap_run_lines.proofs.TermsTaken.{first_is, small_term_on}
use Rattle.sap_run_lines.proofs.TermsRead.{Closes, small_term_read}

from : {w : LineWord} {x y k : List ℕ} → IsLineWord w x k → y ≡ x → IsLineWord w y k
from {w = w} {k = k} r e = subst (λ (y : List ℕ). IsLineWord w y k) (sym e) r

bound_on : (s : Sort) (z y : List ℕ) → y ≡ sign_of s ++ z → OnTaken (λ w k. IsLineWord w y k) (bound_at s z)
bound_on s z y e = after_on (λ x k. IsRunName x × (z ≡ x ++ k)) (both (λ w k. IsLineWord w y k)) (name_at z) _ (name_on z) (λ x r h.
    if_on (both (λ w k. IsLineWord w y k)) (starts 61 r) _ _ (λ c.
    after_on (λ t k. IsRunTerm t (drop 1 r) k × HasFewNodes t) (both (λ w k. IsLineWord w y k)) (small_term (drop 1 r)) _ (small_term_on (drop 1 r)) (λ t k i.
    from (word_bound {v = sorted s x} h.0 i.0 i.1)
    (e ∙ (ap (λ u. sign_of s ++ u) (h.1 ∙ ap (λ u. x ++ u) (first_is 61 r c)) ∙ sym (append_assoc (sign_of s) x (61 ∷ drop 1 r)))))) (λ c. tt))

tilde_on : (z y : List ℕ) → y ≡ 126 ∷ z → OnTaken (λ w k. IsLineWord w y k) (tilde_at z)
tilde_on z y e =
    if_on (both (λ w k. IsLineWord w y k)) (starts_letter z) _ _ (λ c. bound_on Fresh z y e) (λ c.
    after_on (λ n k. IsNumber n × (z ≡ decimal n ++ k)) (both (λ w k. IsLineWord w y k)) (number_at z) _ (number_on z) (λ n k h.
    from (word_fresh h.0) (e ∙ ap (λ u. 126 ∷ u) h.1)))

public_on : (z y : List ℕ) → y ≡ 39 ∷ z → OnTaken (λ w k. IsLineWord w y k) (public_word_at z)
public_on z y e = after_on (λ s k. IsRunContent s × (z ≡ s ++ (39 ∷ k))) (both (λ w k. IsLineWord w y k)) (content_at z) _ (content_on z) (λ s k h.
    from (word_public h.0) (e ∙ ap (λ u. 39 ∷ u) h.1))

letter_on : (z : List ℕ) → OnTaken (λ w k. IsLineWord w z k) (letter_at z)
letter_on z = after_on (λ x k. IsToken kind.Ident x × (z ≡ x ++ k)) (both (λ w k. IsLineWord w z k)) (identifier_at z) _ (identifier_on z) (λ x r h.
    if_on (both (λ w k. IsLineWord w z k)) (starts 61 r) _ _ (λ c. bound_on Msg z z refl) (λ c. from (word_identifier h.0) h.1))

number_word_on : (z : List ℕ) → OnTaken (λ w k. IsLineWord w z k) (number_word_at z)
number_word_on z = after_on (λ n k. IsNumber n × (z ≡ decimal n ++ k)) (both (λ w k. IsLineWord w z k)) (number_at z) _ (number_on z) (λ n k h.
    from (word_number h.0) h.1)

pub word_on : (z : List ℕ) → OnTaken (λ w k. IsLineWord w z k) (word_at z)
unfolding word_at
word_on z =
    if_on (both (λ w k. IsLineWord w z k)) (starts 126 z) _ _ (λ e. tilde_on (drop 1 z) z (first_is 126 z e)) (λ e.
    if_on (both (λ w k. IsLineWord w z k)) (starts 36 z) _ _ (λ e. bound_on Pub (drop 1 z) z (first_is 36 z e)) (λ e.
    if_on (both (λ w k. IsLineWord w z k)) (starts 39 z) _ _ (λ e. public_on (drop 1 z) z (first_is 39 z e)) (λ e.
    if_on (both (λ w k. IsLineWord w z k)) (starts_letter z) _ _ (λ e. letter_on z) (λ e. number_word_on z))))

mapped_on : {A B : Type 0} (P : A → Type 0) (Q : B → Type 0) (f : A → B) (o : Option A) → OnSome P o → ((x : A) → P x → Q (f x)) → OnSome Q (option_map f o)
mapped_on P Q f None h g = tt
mapped_on P Q f (Some x) h g = g x h

pub words_on : (n : ℕ) (z : List ℕ) → OnSome (λ ws. AreLineWords ws z) (words_in n z)
unfolding words_in
words_on zero z = tt
words_on (suc n) z = after_on (λ w k. IsLineWord w z k) (λ ws. AreLineWords ws z) (word_at z) _ (word_on z) (next (words_on n)) where
  next : ((y : List ℕ) → OnSome (λ ws. AreLineWords ws y) (words_in n y)) → (w : LineWord) (r : List ℕ) → IsLineWord w z r → OnSome (λ ws. AreLineWords ws z) (next_words (words_in n) w r)
  next on w [] h = words_last h
  next on w (b ∷ y) h = if_on (λ ws. AreLineWords ws z) (b == 32) _ _ (λ e.
      mapped_on (λ ws. AreLineWords ws y) (λ ws. AreLineWords ws z) (λ ws. w ∷ ws) (words_in n y) (on y) (λ ws m.
      words_more (subst (λ (k : List ℕ). IsLineWord w z k) (ap (λ c. c ∷ y) (eqb-true b 32 e)) h) m)) (λ e. tt)

-- what stands behind a word of a line
abbrev pub Divides : List ℕ → Type 0
Divides k = Closes k × (starts 61 k ≡ false)

no_digit_sign : (c : ℕ) (n : ℕ) (k : List ℕ) → is_ascii_digit c ≡ false → IsNumber n → starts c (decimal n ++ k) ≡ false
no_digit_sign c n k other fits =
    let f = number_first n k fits in
    rw f.2 (at f.0 (f.0 == c) refl f.3 other)
  where
    at : (b : ℕ) (e : Bool) → (b == c) ≡ e → is_ascii_digit b ≡ true → is_ascii_digit c ≡ false → e ≡ false
    at b false e d o = refl
    at b true e d o = let same : b ≡ c = eqb-true b c e in absurd (cc)

no_letter : (n : ℕ) (k : List ℕ) → IsNumber n → starts_letter (decimal n ++ k) ≡ false
no_letter n k fits =
    let f = number_first n k fits in
    rw f.2 (at f.0 f.3)
  where
    at : (b : ℕ) → is_ascii_digit b ≡ true → is_ascii_alphabetic b ≡ false
    at b d = grind arith

bound_read : {t : Tree} {z k : List ℕ} (s : Sort) (x : List ℕ) → IsRunName x → IsRunTerm t z k → HasFewNodes t → Closes k → bound_at s (x ++ (61 ∷ z)) ≡ Some (bound (sorted s x) t, k)
unfolding after
bound_read {z = z} s x n r small c = rw (name_read x (61 ∷ z) n refl, small_term_read r small c) refl

value_read : {t : Tree} {z k : List ℕ} (s : Sort) (x : List ℕ) → IsRunName x → IsRunTerm t z k → HasFewNodes t → Closes k → word_at ((sign_of s ++ x) ++ (61 ∷ z)) ≡ Some (bound (sorted s x) t, k)
unfolding word_at after
value_read {z = z} Fresh x n r small c = rw (letter_first x (61 ∷ z) n.is, bound_read Fresh x n r small c) refl
value_read Pub x n r small c = rw (bound_read Pub x n r small c) refl
value_read {z = z} Msg x n r small c =
    rw (no_sign 126 x (61 ∷ z) refl n.is, no_sign 36 x (61 ∷ z) refl n.is, no_sign 39 x (61 ∷ z) refl n.is, letter_first x (61 ∷ z) n.is, identifier_read x (61 ∷ z) n.is refl, bound_read Msg x n r small c) refl

pub word_read : {w : LineWord} {z k : List ℕ} → IsLineWord w z k → Divides k → word_at z ≡ Some (w, k)
unfolding word_at after
word_read (word_identifier {x = x} {k = k} is) c =
    rw (no_sign 126 x k refl is, no_sign 36 x k refl is, no_sign 39 x k refl is, letter_first x k is, identifier_read x k is c.0.0, c.1) refl
word_read (word_number {n = n} {k = k} is) c =
    rw (no_digit_sign 126 n k refl is, no_digit_sign 36 n k refl is, no_digit_sign 39 n k refl is, no_letter n k is, number_read n k is (ends_digits k c.0.0)) refl
word_read (word_fresh {n = n} {k = k} is) c = rw (no_letter n k is, number_read n k is (ends_digits k c.0.0)) refl
word_read (word_public {s = s} {k = k} is) c = rw (content_read s k is) refl
word_read (word_bound {v = v} n r small) c = value_read v.sort v.name n r small c.0

mutual
  term_within : {t : Tree} {z k : List ℕ} → IsRunTerm t z k → length k ≤ length z
  term_within (term_public {s = s} {k = k} is) = omega (arith, length-append s (39 ∷ k))
  term_within (term_fresh {n = n} {k = k} is) = omega (arith, length-append (decimal n) k)
  term_within (term_constant {f = f} {k = k} n) = omega (arith, length-append f k)
  term_within (term_symbol {f = f} {z = z} n r) = omega (arith, length-append f (40 ∷ z), terms_within r)
  term_within (term_tuple r s) = omega (arith, term_within r, rest_within s)

  rest_within : {u : Tree} {z k : List ℕ} → IsRunRest u z k → length k ≤ length z
  rest_within (rest_last r) = omega (arith, term_within r)
  rest_within (rest_more r s) = omega (arith, term_within r, rest_within s)

  terms_within : {ts : Trees} {z k : List ℕ} → AreRunTerms ts z k → length k ≤ length z
  terms_within (terms_last r) = omega (arith, term_within r)
  terms_within (terms_more r s) = omega (arith, term_within r, terms_within s)

-- what follows a word is shorter
pub word_shorter : {w : LineWord} {z k : List ℕ} → IsLineWord w z k → length k < length z
word_shorter (word_identifier {x = x} {k = k} is) = omega (arith, length-append x k, some x is) where
  some : (x : List ℕ) → IsToken kind.Ident x → 0 < length x
  some _ (ident l all) = omega arith
word_shorter (word_number {n = n} {k = k} is) = omega (arith, length-append (decimal n) k, number_some n is)
word_shorter (word_fresh {n = n} {k = k} is) = omega (arith, length-append (decimal n) k)
word_shorter (word_public {s = s} {k = k} is) = omega (arith, length-append s (39 ∷ k))
word_shorter (word_bound {v = v} {z = z} n r small) = omega (arith, length-append (variable_text v) (61 ∷ z), term_within r)

pub words_read : {ws : List LineWord} {z : List ℕ} → AreLineWords ws z → (n : ℕ) → length z ≤ n → words_in n z ≡ Some ws
unfolding words_in after
words_read (words_last r) zero le = absurd (omega (arith, le, word_shorter r))
words_read (words_more r s) zero le = absurd (omega (arith, le, word_shorter r))
words_read (words_last r) (suc n) le = rw (word_read r ((tt, refl), refl)) refl
words_read (words_more r s) (suc n) le = rw (word_read r ((refl, refl), refl), words_read s n (omega (arith, le, word_shorter r))) refl

-- all of the bytes are these words, and no other
pub words_are : (z : List ℕ) (ws : List LineWord) → words_of z ≡ Some ws → AreLineWords ws z
words_are z ws e = some_on (λ ws. AreLineWords ws z) (words_of z) ws e (words_on (length z) z)

pub are_words : (z : List ℕ) (ws : List LineWord) → AreLineWords ws z → words_of z ≡ Some ws
are_words z ws r = words_read r (length z) (omega arith)
