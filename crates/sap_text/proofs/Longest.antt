-- What is the longest token where it stands.
use Rattle.std.proofs.Common.{◌≡◌, ◌≤◌, ◌+◌, ℕ, Bool, true, false, List, [], ◌∷◌, ◌++◌, append_assoc, length, take, refl, sym, ap, subst, ◌∙◌, arith, rules}
use Rattle.std.specs.Prelude.{◌==◌, ◌&&◌, not}
use Rattle.std.specs.List.{list_all, prefix_len}
use Rattle.std.specs.Char.{is_ascii_alphabetic, is_ascii_digit}
use Rattle.std.specs.Str.{bytes_eq}
use Rattle.std.proofs.lemmas.Grind.{common_steps}
use Rattle.std.proofs.lemmas.Slice.Eq.{bytes_eq-Decides}
use Rattle.sap_text.specs.declared.token.Kind.TheVariants as kind
use Rattle.sap_text.specs.Tokens.{is_word, is_content, is_symbol, begins_comment, IsToken, ident, number, quoted, symbol, IsLongest, Stops, longest_symbol, stands_alone}
use Rattle.sap_text.proofs.Splits.{run_is, run_most}
use Rattle.sap_text.proofs.Sound.{longest_by_kind, symbol_small, NoSymbol, no_symbol}

-- a byte of a class that has no `/` is none
no_slash : (f : ℕ → Bool) → f 47 ≡ false → (b : ℕ) → f b ≡ true → (b == 47) ≡ false
no_slash f lacks b is_in = go (b == 47) refl
  where
    is : (m n : ℕ) → (m == n) ≡ true → m ≡ n
    is m n e = search rules

    go : (c : Bool) → (b == 47) ≡ c → (b == 47) ≡ false
    go false e = e
    go true e = absurd (let there : f 47 ≡ true = subst (λ (x : ℕ). f x ≡ true) (is b 47 e) is_in in cc (lacks, there))

no_comment : (b : ℕ) (z : List ℕ) → (b == 47) ≡ false → begins_comment (b ∷ z) ≡ false
no_comment b [] e = refl
no_comment b (x ∷ z) e = rw e refl

-- a run of bytes of one class, where it stops
run_longest : (f : ℕ → Bool) (p b q c : List ℕ) → list_all f p ≡ true → Stops f b → p ++ b ≡ q ++ c → list_all f q ≡ true → length q ≤ length p
run_longest f p b q c all stops e every =
    let most : length q ≤ prefix_len f (q ++ c) = run_most f q c every in
    let here : prefix_len f (p ++ b) ≡ length p = run_is f p b all stops in
    let there : prefix_len f (q ++ c) ≡ length p = ap (λ (y : List ℕ). prefix_len f y) (sym e) ∙ here in
    omega (arith, most, there)

name_run : {p : List ℕ} → IsToken kind.Ident p → list_all is_word p ≡ true
name_run (ident {b = b} l w) = let here : is_word b ≡ true = rw l refl in rw (here, w) refl

name_no_comment : {p : List ℕ} (b : List ℕ) → IsToken kind.Ident p → begins_comment (p ++ b) ≡ false
name_no_comment b (ident {b = x} {z = z} l w) = no_comment x (z ++ b) (no_slash is_ascii_alphabetic refl x l)

pub name_longest : (p b : List ℕ) → IsToken kind.Ident p → Stops is_word b → IsLongest kind.Ident p b
name_longest p b is stops =
    longest_by_kind kind.Ident p b (name_no_comment b is) is (λ q c e r. run_longest is_word p b q c (name_run is) stops e (name_run r))

number_run : {p : List ℕ} → IsToken kind.Number p → list_all is_ascii_digit p ≡ true
number_run (number {b = b} l w) = rw (l, w) refl

number_no_comment : {p : List ℕ} (b : List ℕ) → IsToken kind.Number p → begins_comment (p ++ b) ≡ false
number_no_comment b (number {b = x} {z = z} l w) = no_comment x (z ++ b) (no_slash is_ascii_digit refl x l)

pub number_longest : (p b : List ℕ) → IsToken kind.Number p → Stops is_ascii_digit b → IsLongest kind.Number p b
number_longest p b is stops =
    longest_by_kind kind.Number p b (number_no_comment b is) is (λ q c e r. run_longest is_ascii_digit p b q c (number_run is) stops e (number_run r))

pub quoted_longest : (s b : List ℕ) → list_all is_content s ≡ true → IsLongest kind.Quoted (39 ∷ (s ++ (39 ∷ []))) b
quoted_longest s b all =
    longest_by_kind kind.Quoted (39 ∷ (s ++ (39 ∷ []))) b (no_comment 39 ((s ++ (39 ∷ [])) ++ b) refl) (quoted s all) (λ q c e r. most q c e r)
  where
    most : (q c : List ℕ) → 39 ∷ ((s ++ (39 ∷ [])) ++ b) ≡ q ++ c → IsToken kind.Quoted q → length q ≤ length (39 ∷ (s ++ (39 ∷ [])))
    most q c e (quoted y content) =
        let tails : (s ++ (39 ∷ [])) ++ b ≡ (y ++ (39 ∷ [])) ++ c = cc in
        let here : s ++ (39 ∷ b) ≡ y ++ (39 ∷ c) = sym (append_assoc s (39 ∷ []) b) ∙ (tails ∙ append_assoc y (39 ∷ []) c) in
        let one : prefix_len is_content (s ++ (39 ∷ b)) ≡ length s = run_is is_content s (39 ∷ b) all refl in
        let two : prefix_len is_content (y ++ (39 ∷ c)) ≡ length y = run_is is_content y (39 ∷ c) content refl in
        let same : length s ≡ length y = sym one ∙ (ap (λ (x : List ℕ). prefix_len is_content x) here ∙ two) in
        let more : length (s ++ (39 ∷ [])) ≡ length s + 1 = grind (arith, common_steps) in
        let again : length (y ++ (39 ∷ [])) ≡ length y + 1 = grind (arith, common_steps) in
        omega (arith, same, more, again)

-- a symbol that stands first is no longer than the longest
module _ (z q c : List ℕ) (whole : z ≡ q ++ c) (is : is_symbol q ≡ true) where
  within : (n : ℕ) → length q ≤ n → length q ≤ length (take n z)
  within n le = let all : length z ≡ length q + length c = ap length whole ∙ grind (arith, common_steps) in grind (arith, common_steps)

  not_so_long : (n : ℕ) → length q ≤ n + 1 → NoSymbol (n + 1) z → length q ≤ n
  not_so_long n le none = by_size (length q == n + 1) refl
    where
      number_is : (a b : ℕ) → (a == b) ≡ true → a ≡ b
      number_is a b e = search rules

      number_not : (a b : ℕ) → (a == b) ≡ false → a ≡ b → ⊥
      number_not a b e = grind arith

      by_size : (t : Bool) → (length q == n + 1) ≡ t → length q ≤ n
      by_size true e = absurd (none q c whole (number_is (length q) (n + 1) e) is)
      by_size false e = below (length q) n le (number_not (length q) (n + 1) e)
        where
          below : (a b : ℕ) → a ≤ b + 1 → (a ≡ b + 1 → ⊥) → a ≤ b
          below a b le other = grind arith

  longest_is : length q ≤ length (longest_symbol z)
  longest_is = by_three (is_symbol (take 3 z)) refl (is_symbol (take 2 z)) refl (is_symbol (take 1 z)) refl
    where
      two : is_symbol (take 3 z) ≡ false → length q ≤ 2
      two e = not_so_long 2 (symbol_small q is) (no_symbol 3 z e)

      one : is_symbol (take 3 z) ≡ false → is_symbol (take 2 z) ≡ false → length q ≤ 1
      one e f = not_so_long 1 (two e) (no_symbol 2 z f)

      by_three : (t : Bool) → is_symbol (take 3 z) ≡ t → (u : Bool) → is_symbol (take 2 z) ≡ u → (v : Bool) → is_symbol (take 1 z) ≡ v → length q ≤ length (longest_symbol z)
      by_three true e u f v g = rw e (within 3 (symbol_small q is))
      by_three false e true f v g = rw (e, f) (within 2 (two e))
      by_three false e false f true g = rw (e, f, g) (within 1 (one e f))
      by_three false e false f false g = rw (e, f, g) (not_so_long 0 (one e f) (no_symbol 1 z g))

both : (a b : Bool) → (a && b) ≡ true → (a ≡ true) × (b ≡ true)
both true true e = (refl, refl)
both true false e = absurd (cc)
both false b e = absurd (cc)

negated : (a : Bool) → not a ≡ true → a ≡ false
negated true e = absurd (cc)
negated false e = refl

pub symbol_longest : (s b : List ℕ) → stands_alone s b ≡ true → IsLongest kind.Symbol s b
symbol_longest s b e =
    let first = both (is_symbol s) (not (begins_comment (s ++ b)) && bytes_eq (longest_symbol (s ++ b)) s) e in
    let second = both (not (begins_comment (s ++ b))) (bytes_eq (longest_symbol (s ++ b)) s) first.1 in
    let same : longest_symbol (s ++ b) ≡ s = (bytes_eq-Decides (longest_symbol (s ++ b)) s).0 second.1 in
    longest_by_kind kind.Symbol s b (negated (begins_comment (s ++ b)) second.0) (symbol first.0) (λ q c f r. most q c f r same)
  where
    most : (q c : List ℕ) → s ++ b ≡ q ++ c → IsToken kind.Symbol q → longest_symbol (s ++ b) ≡ s → length q ≤ length s
    most q c f (symbol is) same = subst (λ (x : List ℕ). length q ≤ length x) same (longest_is (s ++ b) q c f is)
