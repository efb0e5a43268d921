-- Which symbols are others than those of builtins.
use Rattle.std.proofs.Common.{◌≡◌, ℕ, Bool, true, false, not, ◌&&◌, ◌||◌, List, Option, Some, None, refl, sym, ap, ◌∙◌, ⊎_elim}
use Rattle.std.proofs.lemmas.Bool.{false≢true, true≢false, or_left, or_right, or_cases}
use Rattle.sap_terms.proofs.PlainLaws.Known.{clash}
use Rattle.sap_terms.specs.Signature.{Sig, arity_of, has_builtin}
use Rattle.sap_terms.specs.declared.signature.Builtin.{Builtin}
use Rattle.sap_terms.specs.declared.signature.Builtin.TheVariants.{Hashing, Symmetric, Asymmetric, Signing, RevealingSigning}
use Rattle.sap_notes.specs.OtherSymbols.{IsAnother, speaks_of}
use Rattle.sap_notes.specs.code.Others.{added_speaks, is_another, is_another_of, some_added_speaks, some_speaks}

-- whether one of the first two does, or one of the first three
abbrev two_speak : List ℕ → ℕ → Bool
two_speak x n = speaks_of Symmetric x n || speaks_of Asymmetric x n

abbrev three_speak : List ℕ → ℕ → Bool
three_speak x n = two_speak x n || speaks_of Signing x n

-- what an equation of a builtin speaks of, one of some builtin does
spoken : (b : Builtin) (x : List ℕ) (n : ℕ) → speaks_of b x n ≡ true → some_speaks x n ≡ true
spoken Hashing x n h = absurd (false≢true h)
spoken Symmetric x n h =
    or_left (three_speak x n) (speaks_of RevealingSigning x n)
    (or_left (two_speak x n) (speaks_of Signing x n) (or_left (speaks_of Symmetric x n) (speaks_of Asymmetric x n) h))
spoken Asymmetric x n h =
    or_left (three_speak x n) (speaks_of RevealingSigning x n)
    (or_left (two_speak x n) (speaks_of Signing x n) (or_right (speaks_of Symmetric x n) (speaks_of Asymmetric x n) h))
spoken Signing x n h = or_left (three_speak x n) (speaks_of RevealingSigning x n) (or_right (two_speak x n) (speaks_of Signing x n) h)
spoken RevealingSigning x n h = or_right (three_speak x n) (speaks_of RevealingSigning x n) h

abbrev IsSpoken : List ℕ → ℕ → Type 0
IsSpoken x n = (b : Builtin) × (speaks_of b x n ≡ true)

speaker : (x : List ℕ) (n : ℕ) → some_speaks x n ≡ true → IsSpoken x n
speaker x n h = ⊎_elim of_three (λ e. (RevealingSigning, e)) (or_cases (three_speak x n) (speaks_of RevealingSigning x n) h) where
  of_two : two_speak x n ≡ true → IsSpoken x n
  of_two e = ⊎_elim (λ l. (Symmetric, l)) (λ r. (Asymmetric, r)) (or_cases (speaks_of Symmetric x n) (speaks_of Asymmetric x n) e)

  of_three : three_speak x n ≡ true → IsSpoken x n
  of_three e = ⊎_elim of_two (λ r. (Signing, r)) (or_cases (two_speak x n) (speaks_of Signing x n) e)

-- so of those that were added
abbrev two_added : Sig → List ℕ → ℕ → Bool
two_added g x n = added_speaks g x n Symmetric || added_speaks g x n Asymmetric

abbrev three_added : Sig → List ℕ → ℕ → Bool
three_added g x n = two_added g x n || added_speaks g x n Signing

added : (g : Sig) (b : Builtin) (x : List ℕ) (n : ℕ) → added_speaks g x n b ≡ true → some_added_speaks g x n ≡ true
added g Hashing x n h = absurd (by (has_builtin g Hashing) h) where
  by : (b : Bool) → (b && false) ≡ true → ⊥
  by true e = false≢true e
  by false e = false≢true e
added g Symmetric x n h =
    or_left (three_added g x n) (added_speaks g x n RevealingSigning)
    (or_left (two_added g x n) (added_speaks g x n Signing) (or_left (added_speaks g x n Symmetric) (added_speaks g x n Asymmetric) h))
added g Asymmetric x n h =
    or_left (three_added g x n) (added_speaks g x n RevealingSigning)
    (or_left (two_added g x n) (added_speaks g x n Signing) (or_right (added_speaks g x n Symmetric) (added_speaks g x n Asymmetric) h))
added g Signing x n h = or_left (three_added g x n) (added_speaks g x n RevealingSigning) (or_right (two_added g x n) (added_speaks g x n Signing) h)
added g RevealingSigning x n h = or_right (three_added g x n) (added_speaks g x n RevealingSigning) h

abbrev IsAdded : Sig → List ℕ → ℕ → Type 0
IsAdded g x n = (b : Builtin) × (added_speaks g x n b ≡ true)

adder : (g : Sig) (x : List ℕ) (n : ℕ) → some_added_speaks g x n ≡ true → IsAdded g x n
adder g x n h = ⊎_elim of_three (λ e. (RevealingSigning, e)) (or_cases (three_added g x n) (added_speaks g x n RevealingSigning) h) where
  of_two : two_added g x n ≡ true → IsAdded g x n
  of_two e = ⊎_elim (λ l. (Symmetric, l)) (λ r. (Asymmetric, r)) (or_cases (added_speaks g x n Symmetric) (added_speaks g x n Asymmetric) e)

  of_three : three_added g x n ≡ true → IsAdded g x n
  of_three e = ⊎_elim of_two (λ r. (Signing, r)) (or_cases (two_added g x n) (added_speaks g x n Signing) e)

both : (a b : Bool) → a ≡ true → b ≡ true → (a && b) ≡ true
both true b e f = f
both false b e f = absurd (false≢true e)

both_are : (a b : Bool) → (a && b) ≡ true → (a ≡ true) × (b ≡ true)
both_are true b e = (refl, e)
both_are false b e = absurd (false≢true e)

is_not : (b : Bool) → not b ≡ true → b ≡ false
is_not true e = absurd (false≢true e)
is_not false e = refl

not_is : (b : Bool) → (b ≡ true → ⊥) → not b ≡ true
not_is true h = absurd (h refl)
not_is false h = refl

none : (b : Bool) → (b ≡ true → ⊥) → b ≡ false
none true h = absurd (h refl)
none false h = refl

module _ (g : Sig) (x : List ℕ) where
  of_arity : (o : Option ℕ) → arity_of g x ≡ o → is_another_of g x o ≡ true → IsAnother g x
  of_arity None is h = absurd (false≢true h)
  of_arity (Some n) is h =
      let parts = both_are (some_speaks x n) (not (some_added_speaks g x n)) h in
      let one = speaker x n parts.0 in record {
        arity = n;
        held = is;
        builtin = one.0;
        spoken = one.1;
        none_added = λ b has. none (speaks_of b x n) (λ e. clash (some_added_speaks g x n) (added g b x n (both (has_builtin g b) (speaks_of b x n) has e)) (is_not (some_added_speaks g x n) parts.1));
      }

  pub another_is : is_another g x ≡ true → IsAnother g x
  another_is h = of_arity (arity_of g x) refl h

  pub is_another_is : IsAnother g x → is_another g x ≡ true
  is_another_is a = ap (is_another_of g x) a.held ∙ both (some_speaks x a.arity) (not (some_added_speaks g x a.arity)) (spoken a.builtin x a.arity a.spoken)
      (not_is (some_added_speaks g x a.arity) no_adder) where
        no_adder : some_added_speaks g x a.arity ≡ true → ⊥
        no_adder e =
            let one = adder g x a.arity e in
            let parts = both_are (has_builtin g one.0) (speaks_of one.0 x a.arity) one.1 in
            true≢false (sym parts.1 ∙ a.none_added one.0 parts.0)
