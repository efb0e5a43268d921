-- Turns of the readers of lists.
use Rattle.std.proofs.Common.{◌≡◌, ◌≤◌, ◌<◌, ◌-◌, ℕ, zero, suc, List, [], ◌∷◌, ◌++◌, append_assoc, length, drop, Some, None, true, false, refl, sym, ap, ◌∙◌, arith}
use Rattle.std.specs.Prelude.{codes}
use Rattle.std.proofs.lemmas.List.{length-drop}
use Rattle.sap_text.specs.declared.token.Token.{Token}
use Rattle.sap_grammar.specs.Words.{Word, words_of, starts}
use Rattle.sap_grammar.specs.Reading.{Read, Reader, after, list_of, behind}
use Rattle.sap_grammar.proofs.ReadingLaws.Tokens.{words-drop, length-words}

module _ {A : Type 0} (closing : List ℕ) (one : Reader A) where
  list_stop : (n : ℕ) (ws : List Word) → one ws ≡ None → list_of closing one n ws ≡ None
  unfolding after
  list_stop zero ws e = refl
  list_stop (suc n) ws e = rw e refl

  list_last : (n : ℕ) (ws r : List Word) (v : A) → 0 < n → one ws ≡ Some (v, r) → starts closing r ≡ true → list_of closing one n ws ≡ Some (v ∷ [], drop 1 r)
  unfolding after
  list_last zero ws r v lt e f = absurd (omega (arith, lt))
  list_last (suc n) ws r v lt e f = rw (e, f) refl

  list_bad : (n : ℕ) (ws r : List Word) (v : A) → one ws ≡ Some (v, r) → starts closing r ≡ false → starts (codes ",") r ≡ false → list_of closing one n ws ≡ None
  unfolding after
  list_bad zero ws r v e f h = refl
  list_bad (suc n) ws r v e f h = rw (e, f, h) refl

  list_go : (n m : ℕ) (ws r : List Word) (v : A) → n ≡ suc m → one ws ≡ Some (v, r) → starts closing r ≡ false → starts (codes ",") r ≡ true
      → list_of closing one n ws ≡ behind (v ∷ []) (list_of closing one m (drop 1 r))
  unfolding after
  list_go zero m ws r v is e f h = absurd (omega (arith, is))
  list_go (suc n) m ws r v is e f h = let same : n ≡ m = omega (arith, is) in rw (e, f, h, same) refl

-- what was read before stands in front, in two steps or in one
pub behind_behind : {A : Type 0} (xs ys : List A) (r : Read (List A)) → behind xs (behind ys r) ≡ behind (xs ++ ys) r
behind_behind xs ys None = refl
behind_behind {A = A} xs ys (Some p) = ap (λ (z : List A). Some (z, p.1)) (sym (append_assoc xs ys p.0))

-- what follows a value is shorter
abbrev pub Shrinks : {A : Type 0} → Reader A → Type 0
Shrinks {A = A} one = (ws b : List Word) (v : A) → one ws ≡ Some (v, b) → length b < length ws

-- behind a value and one more token
pub shorter_still : {A : Type 0} {one : Reader A} → Shrinks one → (z : List ℕ) (ts next rest : List Token) (v : A) → one (words_of z ts) ≡ Some (v, words_of z next) → rest ≡ drop 1 next → length rest < length ts
shorter_still shrinks z ts next rest v e f =
    let fewer : length (words_of z next) < length (words_of z ts) = shrinks (words_of z ts) (words_of z next) v e in
    let less : length rest ≡ length next - 1 = ap (λ (y : List Token). length y) f ∙ length-drop 1 next in
    omega (arith, less, fewer, length-words z next, length-words z ts)

-- one turn of the loop, where `xs` was read before the tokens `ts`, and `all` is what reading all of them gives
module _ {A : Type 0} {one : Reader A} (closing : List ℕ) (shrinks : Shrinks one) (z : List ℕ) (ts : List Token) (xs : List A) (n : ℕ) (all : Read (List A)) (long : length ts ≤ n) (so_far : all ≡ behind xs (list_of closing one n (words_of z ts))) where
  pub turn_stop : one (words_of z ts) ≡ None → all ≡ None
  turn_stop e = so_far ∙ ap (λ (r : Read (List A)). behind xs r) (list_stop closing one n (words_of z ts) e)

  module _ (v : A) (next : List Token) (is : one (words_of z ts) ≡ Some (v, words_of z next)) where
    some_left : 0 < n
    some_left = let fewer : length (words_of z next) < length (words_of z ts) = shrinks (words_of z ts) (words_of z next) v is in omega (arith, long, fewer, length-words z ts)

    pub turn_last : (ys : List A) (rest : List Token) → ys ≡ xs ++ (v ∷ []) → rest ≡ drop 1 next → starts closing (words_of z next) ≡ true → all ≡ Some (ys, words_of z rest)
    turn_last ys rest f h s =
        rw (f, h, words-drop z 1 next) (so_far ∙ ap (λ (r : Read (List A)). behind xs r) (list_last closing one n (words_of z ts) (words_of z next) v some_left is s))

    pub turn_bad : starts closing (words_of z next) ≡ false → starts (codes ",") (words_of z next) ≡ false → all ≡ None
    turn_bad s c = so_far ∙ ap (λ (r : Read (List A)). behind xs r) (list_bad closing one n (words_of z ts) (words_of z next) v is s c)

    pub turn_go : (ys : List A) (rest : List Token) → ys ≡ xs ++ (v ∷ []) → rest ≡ drop 1 next → starts closing (words_of z next) ≡ false → starts (codes ",") (words_of z next) ≡ true
        → (m : ℕ) × (length rest ≤ m) × (all ≡ behind ys (list_of closing one m (words_of z rest)))
    turn_go ys rest f h s c =
        let fewer : length rest < length ts = shorter_still shrinks z ts next rest v is h in
        let left : n ≡ suc (n - 1) = omega (arith, long, fewer) in
        let go = list_go closing one n (n - 1) (words_of z ts) (words_of z next) v left is s c in
        let whole = so_far ∙ (ap (λ (r : Read (List A)). behind xs r) go ∙ behind_behind xs (v ∷ []) (list_of closing one (n - 1) (drop 1 (words_of z next)))) in
        (n - 1, omega (arith, long, fewer), rw (f, h, words-drop z 1 next) whole)
