-- The arguments of a use: what is read as such is spelled so, and what is spelled so is read.
use Rattle.std.proofs.Common.{◌≡◌, ◌≤◌, ◌<◌, ℕ, zero, suc, List, [], ◌∷◌, length, drop, Some, None, refl, subst, arith}
use Rattle.std.specs.Prelude.{codes, if◌then◌else◌}
use Rattle.std.proofs.lemmas.List.Elements.{All-nil, All-cons, All-head, All-tail}
use Rattle.sap_terms.specs.Signature.{Sig}
use Rattle.sap_terms.specs.Tree.{Tree}
use Rattle.sap_grammar.specs.declared.limits.Limits.{Limits}
use Rattle.sap_grammar.specs.Words.{Word, mark, starts}
use Rattle.sap_grammar.specs.Sizes.{IsSmall, AreSmall, is_small}
use Rattle.sap_grammar.specs.TermGrammar.{IsList, IsShort, list_last, list_more}
use Rattle.sap_grammar.specs.Reading.{Read, Reader, after, given, behind, list_of}
use Rattle.sap_grammar.specs.TermReading.{short_term, term, rest}
use Rattle.sap_draft.specs.code.ProcessReading.{arguments}
use Rattle.sap_grammar.specs.TermLaws.{AreRead, AreSpelled}
use Rattle.sap_grammar.proofs.ReadingLaws.Ends.{term_shorter, list_shorter}
use Rattle.sap_grammar.proofs.ReadingLaws.OnRead.{Says, OnRead, on_all, after_on, if_on, starts_is}

-- terms within the limits, one or more, and the closing parenthesis
pub record AreArguments (g : Sig) (m : Limits) (ts : List Tree) (a b : List Word) : Type 0 where
  pub spelled : IsList g ts a b
  pub small : AreSmall m ts

last_argument : {g : Sig} {m : Limits} {t : Tree} {a b : List Word} → IsShort g m t a (mark (codes ")") ∷ b) → AreArguments g m (t ∷ []) a b
last_argument {m = m} {t = t} r = record { spelled = list_last r.spelled; small = All-cons (IsSmall m) t [] r.small (All-nil (IsSmall m)) }

one_more : {g : Sig} {m : Limits} {t : Tree} {ts : List Tree} {a b c : List Word} → IsShort g m t a (mark (codes ",") ∷ b) → AreArguments g m ts b c → AreArguments g m (t ∷ ts) a c
one_more {m = m} {t = t} {ts = ts} r s = record { spelled = list_more r.spelled s.spelled; small = All-cons (IsSmall m) t ts r.small s.small }

short_on : {g : Sig} {m : Limits} {t : Tree} {a b c : List Word} → IsShort g m t a b → b ≡ c → IsShort g m t a c
short_on {g = g} {m = m} {t = t} {a = a} r e = subst (λ (y : List Word). IsShort g m t a y) e r

module _ (laws : AreRead) (g : Sig) (m : Limits) where
  one : Reader Tree
  one = short_term g m

  pub argument_shrinks : (ws b : List Word) (t : Tree) → short_term g m ws ≡ Some (t, b) → length b < length ws
  argument_shrinks ws b t e = let r = laws.term_is g m t ws b e in term_shorter r.spelled

  -- what is read so is spelled so
  pub list_sound : (n : ℕ) (ws : List Word) → OnRead (λ ts b. AreArguments g m ts ws b) (list_of (codes ")") (short_term g m) n ws)
  list_sound zero ws = tt
  list_sound (suc n) ws =
      let Q : Says (List Tree) = λ ts b. AreArguments g m ts ws b in
      after_on (λ t b. IsShort g m t ws b) Q (short_term g m ws) _ (on_all (λ t b. IsShort g m t ws b) (short_term g m ws) (λ t b e. laws.term_is g m t ws b e)) (λ t r h.
      if_on Q (starts (codes ")") r) _ _
      (λ e. last_argument (short_on h (starts_is (codes ")") r e)))
      (λ _. if_on Q (starts (codes ",") r) _ _
      (λ e. put_before t r (short_on h (starts_is (codes ",") r e)) (list_of (codes ")") (short_term g m) n (drop 1 r)) (list_sound n (drop 1 r)))
      (λ _. tt)))
    where
      put_before : (t : Tree) (r : List Word) → IsShort g m t ws (mark (codes ",") ∷ drop 1 r) → (o : Read (List Tree)) → OnRead (λ ts b. AreArguments g m ts (drop 1 r) b) o
          → OnRead (λ ts b. AreArguments g m ts ws b) (behind (t ∷ []) o)
      put_before t r h None k = tt
      put_before t r h (Some p) k = one_more h k

  pub arguments_sound : (ws : List Word) → OnRead (λ ts b. AreArguments g m ts ws b) (arguments g m ws)
  arguments_sound ws = list_sound (length ws) ws

  -- what is spelled so is read, in as many turns as there are words
  list_read : {ts : List Tree} {a b : List Word} → IsList g ts a b → AreSmall m ts → (n : ℕ) → length a ≤ n → list_of (codes ")") (short_term g m) n a ≡ Some (ts, b)
  unfolding after
  list_read r small zero le = absurd (omega (arith, le, list_shorter r))
  list_read (list_last {t = t} {a = a} {b = b} r) small (suc n) le =
      let is : IsShort g m t a (mark (codes ")") ∷ b) = record { spelled = r; small = All-head (IsSmall m) t [] small } in
      rw (laws.term_read g m t a (mark (codes ")") ∷ b) is refl) refl
  list_read (list_more {t = t} {ts = ts} {a = a} {b = b} r s) small (suc n) le =
      let is : IsShort g m t a (mark (codes ",") ∷ b) = record { spelled = r; small = All-head (IsSmall m) t ts small } in
      rw (laws.term_read g m t a (mark (codes ",") ∷ b) is refl, list_read s (All-tail (IsSmall m) t ts small) n (omega (arith, le, term_shorter r))) refl

  pub arguments_read : {ts : List Tree} {a b : List Word} → IsList g ts a b → AreSmall m ts → arguments g m a ≡ Some (ts, b)
  arguments_read {a = a} r small = list_read r small (length a) (omega arith)

-- the same words are arguments under each signature
pub arguments_too : AreSpelled → (h : Sig) {g : Sig} {m : Limits} {ts : List Tree} {a b : List Word} → IsList g ts a b → AreSmall m ts → (us : List Tree) × IsList h us a b × AreSmall m us
arguments_too laws h {g = g} {m = m} (list_last {t = t} {a = a} {b = b} r) small =
    let u = laws.term_too g h m t a (mark (codes ")") ∷ b) (record { spelled = r; small = All-head (IsSmall m) t [] small }) in
    let is = u.1 in
    (u.0 ∷ [], list_last is.spelled, All-cons (IsSmall m) u.0 [] is.small (All-nil (IsSmall m)))
arguments_too laws h {g = g} {m = m} (list_more {t = t} {ts = ts} {a = a} {b = b} r s) small =
    let u = laws.term_too g h m t a (mark (codes ",") ∷ b) (record { spelled = r; small = All-head (IsSmall m) t ts small }) in
    let is = u.1 in
    let us = arguments_too laws h {m = m} s (All-tail (IsSmall m) t ts small) in
    (u.0 ∷ us.0, list_more is.spelled us.1, All-cons (IsSmall m) u.0 us.0 is.small us.2)

-- nothing is read where nothing is left
pub no_argument : (g : Sig) (m : Limits) → short_term g m [] ≡ None
unfolding short_term term rest after given
no_argument g m = by m.term_levels
  where
    by : (d : ℕ) → after (term g d []) (λ t r. if is_small m t then Some (t, r) else None) ≡ None
    by zero = refl
    by (suc d) = refl
