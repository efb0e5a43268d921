-- What holds of each token where it stands.
use Rattle.std.proofs.Common.{◌≡◌, ◌≤◌, ◌+◌, ◌-◌, ℕ, zero, suc, Bool, true, false, List, [], ◌∷◌, ◌++◌, append_assoc, length, take, drop, refl, sym, ap, subst, ◌∙◌, arith}
use Rattle.std.specs.Prelude.{Ok, Err, Some, slice_get, ⊤, ◌&&◌, ◌==◌}
use Rattle.std.specs.List.{list_all}
use Rattle.std.specs.Char.{is_ascii_digit}
use Rattle.std.proofs.lemmas.Grind.{common_steps}
use Rattle.sap_text.specs.declared.token.Kind.{Kind}
use Rattle.sap_text.specs.declared.token.Token.{Token}
use Rattle.sap_text.specs.Tokens.{is_word, is_content, line_feeds, IsToken, ident, number, quoted, symbol, IsLongest, Lexed, before, IsLexed, ended, skipped, taken, long, failed}
use Rattle.sap_text.specs.Spans.{text_of, AreTokens}
use Rattle.sap_text.proofs.Classes.{symbol_fact}
use Rattle.sap_text.proofs.Joins.{taken_front, dropped_front}

left : (a b : Bool) → (a && b) ≡ true → a ≡ true
left true b e = refl
left false b e = absurd (cc)

right : (a b : Bool) → (a && b) ≡ true → b ≡ true
right true b e = e
right false b e = absurd (cc)

-- bytes that pass a test that no line feed passes
no_feeds : (f : ℕ → Bool) → f 10 ≡ false → (z : List ℕ) → list_all f z ≡ true → line_feeds z ≡ 0
no_feeds f none [] all = refl
no_feeds f none (x ∷ z) all =
    let here : f x ≡ true = left (f x) (list_all f z) all in
    let other : (x == 10) ≡ false = by_test (x == 10) refl here in
    let more : line_feeds z ≡ 0 = no_feeds f none z (right (f x) (list_all f z) all) in
    rw other more
  where
    by_test : (b : Bool) → (x == 10) ≡ b → f x ≡ true → b ≡ false
    by_test false e here = refl
    by_test true e here =
        let same : x ≡ 10 = grind arith in
        let clash : true ≡ false = sym here ∙ (ap f same ∙ none) in
        absurd (cc)

feeds_joined : (p q : List ℕ) → line_feeds (p ++ q) ≡ line_feeds p + line_feeds q
feeds_joined p q = grind (arith, common_steps)

token_feeds : {k : Kind} {p : List ℕ} → IsToken k p → line_feeds p ≡ 0
token_feeds (ident {b = b} {z = z} l w) =
    let here : is_word b ≡ true = rw l refl in
    no_feeds is_word refl (b ∷ z) (rw (here, w) refl)
token_feeds (number {b = b} {z = z} l w) = no_feeds is_ascii_digit refl (b ∷ z) (rw (l, w) refl)
token_feeds (quoted z w) =
    let inner : line_feeds z ≡ 0 = no_feeds is_content refl z w in
    let all : line_feeds (z ++ (39 ∷ [])) ≡ line_feeds z + 0 = feeds_joined z (39 ∷ []) in
    let whole : line_feeds (39 ∷ (z ++ (39 ∷ []))) ≡ line_feeds (z ++ (39 ∷ [])) = refl in
    whole ∙ omega (arith, inner, all)
token_feeds (symbol {s = s} is) = let e : (line_feeds s == 0) ≡ true = symbol_fact (λ t. line_feeds t == 0) refl s is in grind arith

pub record Placed (z : List ℕ) (t : Token) : Type 0 where
  pub is : IsToken t.kind (text_of z t)
  pub longest : (j : Kind) (q c : List ℕ) → drop t.from z ≡ q ++ c → IsToken j q → length q ≤ t.to - t.from
  pub line : t.line ≡ 1 + line_feeds (take t.from z)

abbrev ArePlaced : List ℕ → Lexed → Type 0
ArePlaced z (Ok ts) = (k : ℕ) (t : Token) → slice_get ts k ≡ Some t → Placed z t
ArePlaced z (Err f) = ⊤

with_first : (z : List ℕ) (t : Token) (o : Lexed) → Placed z t → ArePlaced z o → ArePlaced z (before t o)
with_first z t (Ok ts) first later = at_place
  where
    at_place : (k : ℕ) (u : Token) → slice_get (t ∷ ts) k ≡ Some u → Placed z u
    at_place zero u e = let same : t ≡ u = cc in subst (λ (x : Token). Placed z x) same first
    at_place (suc k) u e = later k u e
with_first z t (Err f) first later = tt

joined_length : (pre p : List ℕ) → length (pre ++ p) ≡ length pre + length p
joined_length pre p = grind (arith, common_steps)

module _ (z pre p b : List ℕ) (k : Kind) (at line : ℕ) (whole : z ≡ pre ++ (p ++ b)) (size : length pre ≡ at) (lines : line ≡ 1 + line_feeds pre) (s : IsLongest k p b) where
  behind : drop at z ≡ p ++ b
  behind = ap (λ y. drop at y) whole ∙ dropped_front at pre (p ++ b) size

  placed_here : Placed z (record { kind = k; from = at; to = at + length p; line = line })
  placed_here =
      let wide : (at + length p) - at ≡ length p = omega arith in
      let bytes : take ((at + length p) - at) (drop at z) ≡ p = ap (λ n. take n (drop at z)) wide ∙ (ap (λ y. take (length p) y) behind ∙ taken_front (length p) p b refl) in
      let front : take at z ≡ pre = ap (λ y. take at y) whole ∙ taken_front at pre (p ++ b) size in
      record {
        is = subst (λ (y : List ℕ). IsToken k y) (sym bytes) s.is;
        longest = λ j q c e t. subst (λ (n : ℕ). length q ≤ n) (sym wide) (s.longest j q c (sym behind ∙ e) t);
        line = lines ∙ ap (λ y. 1 + line_feeds y) (sym front);
      }

placed : {m at line : ℕ} {w : List ℕ} {o : Lexed} → IsLexed m at line w o → (z pre : List ℕ) → z ≡ pre ++ w → length pre ≡ at → line ≡ 1 + line_feeds pre → ArePlaced z o
placed ended z pre whole size lines = none
  where
    none : (k : ℕ) (t : Token) → slice_get {X = Token} [] k ≡ Some t → Placed z t
    none k t e = absurd (cc)
placed (skipped {p = p} {b = b} {o = o} s r) z pre whole size lines =
    let n = joined_length pre p in
    let f = feeds_joined pre p in
    placed r z (pre ++ p) (whole ∙ sym (append_assoc pre p b)) (omega (arith, n, size)) (omega (arith, f, lines))
placed {at = at} {line = line} (taken {k = k} {p = p} {b = b} {o = o} s le r) z pre whole size lines =
    let n = joined_length pre p in
    let f = feeds_joined pre p in
    let none = token_feeds s.is in
    with_first z (record { kind = k; from = at; to = at + length p; line = line }) o (placed_here z pre p b k at line whole size lines s)
    (placed r z (pre ++ p) (whole ∙ sym (append_assoc pre p b)) (omega (arith, n, size)) (omega (arith, f, lines, none)))
placed (long s lt) z pre whole size lines = tt
placed (failed f) z pre whole size lines = tt

pub token_placed : (z : List ℕ) (ts : List Token) (k : ℕ) (t : Token) → AreTokens z ts → slice_get ts k ≡ Some t → Placed z t
token_placed z ts k t are e = placed are.1 z [] refl refl refl k t e
