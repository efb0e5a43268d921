-- Numbers that are taken.
use Rattle.std.proofs.Common.{◌≡◌, ◌≤◌, ◌<◌, ℕ, zero, suc, ◌+◌, ◌-◌, ◌*◌, ◌/◌, ◌%◌, ◌^◌, Bool, true, false, List, [], ◌∷◌, ◌++◌, append_assoc, append-nil, length, get_or, Option, Some, None, refl, sym, ap, subst, ◌∙◌, arith}
use Rattle.std.specs.Prelude.{◌==◌, nat_lt, decimal, if◌then◌else◌}
use Rattle.std.specs.List.{list_all}
use Rattle.std.specs.Char.{is_ascii_digit, digit_value}
use Rattle.std.specs.Str.Parse.{AllDigits, digits_value_after, digits_value}
use Rattle.std.specs.Int.{IsInRange}
use Rattle.std.proofs.lemmas.Bool.{eqb-true, lt-ltb}
use Rattle.std.proofs.lemmas.Str.{digit_value_digit}
use Rattle.std.proofs.lemmas.Str.Parse.{digit_from_value}
use Rattle.std.proofs.lemmas.Fmt.{decimal_digit, decimal_step, decimal_is_IsNumeral, first_decimal}
use Rattle.sap_text.specs.Tokens.{Stops}
use Rattle.sap_terms.proofs.PlainLaws.Tests.{and_left}
use Rattle.sap_run_lines.specs.RunTerms.{IsNumber}
use Rattle.sap_run_lines.specs.code.Taking.{front, back, with_digit, with_digits, only_zero, number_of, number_at, given}
use Rattle.sap_run_lines.proofs.Prefixes.{front_back, front_is, back_is}
use Rattle.sap_run_lines.proofs.OnTaken.{OnTaken, both, given_on}

-- a digit behind a number
record Digit (v b w : ℕ) : Type 0 where
  low : 48 ≤ b
  high : b ≤ 57
  is : w ≡ v * 10 + (b - 48)
  fits : w < 2 ^ 64

digit_is : (v b w : ℕ) → with_digit v b ≡ Some w → Digit v b w
digit_is v b w e = at (is_ascii_digit b) (nat_lt (v * 10 + (b - 48)) (2 ^ 64)) refl refl e where
  at : (d l : Bool) → is_ascii_digit b ≡ d → nat_lt (v * 10 + (b - 48)) (2 ^ 64) ≡ l
      → (if d then (if l then Some (v * 10 + (b - 48)) else None) else None) ≡ Some w → Digit v b w
  at false l p q h = absurd (cc)
  at true false p q h = absurd (cc)
  at true true p q h =
      let range : (48 ≤ b) × (b ≤ 57) = grind arith in
      let same : v * 10 + (b - 48) ≡ w = cc in
      let small : v * 10 + (b - 48) < 2 ^ 64 = grind arith in
      record { low = range.0; high = range.1; is = sym same; fits = rw (sym same) small }

-- the text of a number with one digit more
digit_text : (v b w : ℕ) → 0 < v → Digit v b w → decimal w ≡ decimal v ++ b ∷ []
digit_text v b w some d =
    let top : w / 10 ≡ v = omega (arith, d.low, d.high, d.is) in
    let end : 48 + w % 10 ≡ b = omega (arith, d.low, d.high, d.is) in
    decimal_step w (omega (arith, some, d.is)) d.fits ∙ (λ i. decimal (top i) ++ (end i ∷ []))

digits_are : (v : ℕ) (z : List ℕ) (u : ℕ) → 0 < v → v < 2 ^ 64 → with_digits v z ≡ Some u → (decimal u ≡ decimal v ++ z) × (u < 2 ^ 64)
unfolding with_digits given
digits_are v [] u some fits e = let same : v ≡ u = cc in (rw (sym same) (sym (append-nil (decimal v))), rw (sym same) fits)
digits_are v (b ∷ z) u some fits e = go (λ w more small h. digits_are w z u more small h) (with_digit v b) refl e where
  go : ((w : ℕ) → 0 < w → w < 2 ^ 64 → with_digits w z ≡ Some u → (decimal u ≡ decimal w ++ z) × (u < 2 ^ 64))
      → (o : Option ℕ) → with_digit v b ≡ o → given o (λ w. with_digits w z) ≡ Some u → (decimal u ≡ decimal v ++ b ∷ z) × (u < 2 ^ 64)
  go are None f h = absurd (cc)
  go are (Some w) f h =
      let d = digit_is v b w f in
      let more = are w (omega (arith, some, d.is)) d.fits h in
      (more.0 ∙ (ap (λ y. y ++ z) (digit_text v b w some d) ∙ append_assoc (decimal v) (b ∷ []) z), more.1)

number_is : (x : List ℕ) (n : ℕ) → number_of x ≡ Some n → (decimal n ≡ x) × (n < 2 ^ 64)
unfolding with_digits given
number_is [] n e = absurd (cc)
number_is (b ∷ z) n e = at (b == 48) refl e where
  zero_is : (y : List ℕ) → b ≡ 48 → only_zero y ≡ Some n → (decimal n ≡ b ∷ y) × (n < 2 ^ 64)
  zero_is [] is h = let none : 0 ≡ n = cc in (rw (sym none, is) (decimal_digit 0 (omega arith)), omega (arith, none))
  zero_is (c ∷ y) is h = absurd (cc)

  go : (o : Option ℕ) → with_digit 0 b ≡ o → (b ≡ 48 → ⊥) → given o (λ w. with_digits w z) ≡ Some n → (decimal n ≡ b ∷ z) × (n < 2 ^ 64)
  go None f other h = absurd (cc)
  go (Some w) f other h =
      let d = digit_is 0 b w f in
      let some : 0 < w = positive w d.low d.is other in
      let one : w < 10 = omega (arith, d.low, d.high, d.is) in
      let is : 48 + w ≡ b = omega (arith, d.low, d.is) in
      let more = digits_are w z n some d.fits h in
      (more.0 ∙ ap (λ y. y ++ z) (decimal_digit w one ∙ ap (λ c. c ∷ []) is), more.1)
    where
      positive : (w : ℕ) → 48 ≤ b → w ≡ 0 * 10 + (b - 48) → (b ≡ 48 → ⊥) → 0 < w
      positive zero le is other = absurd (other (omega (arith, le, is)))
      positive (suc w) le is other = omega arith

  at : (c : Bool) → (b == 48) ≡ c → (if c then only_zero z else with_digits 0 (b ∷ z)) ≡ Some n → (decimal n ≡ b ∷ z) × (n < 2 ^ 64)
  at true f h = zero_is z (eqb-true b 48 f) h
  at false f h = go (with_digit 0 b) refl (λ is. absurd (differ is f)) h where
    differ : b ≡ 48 → (b == 48) ≡ false → ⊥
    differ is f = let g : true ≡ false = rw is at f in cc

pub number_on : (z : List ℕ) → OnTaken (λ n r. IsNumber n × (z ≡ decimal n ++ r)) (number_at z)
unfolding number_at
number_on z = given_on (both (λ n r. IsNumber n × (z ≡ decimal n ++ r))) (number_of (front is_ascii_digit z)) _ (λ n e.
    let is = number_is (front is_ascii_digit z) n e in
    (is.1, front_back is_ascii_digit z ∙ ap (λ y. y ++ back is_ascii_digit z) (sym is.0)))

value_grows : (v : ℕ) (z : List ℕ) → v ≤ digits_value_after 10 v z
value_grows v [] = omega arith
value_grows v (c ∷ z) = omega (arith, value_grows (v * 10 + digit_value c) z)

read_at : (v c x : ℕ) → IsInRange 48 57 c → x + 48 ≡ c → v * 10 + x < 2 ^ 64 → with_digit v c ≡ Some (v * 10 + x)
read_at v c x is e fits =
    let digit : is_ascii_digit c ≡ true = grind arith in
    let same : v * 10 + (c - 48) ≡ v * 10 + x = omega (arith, e) in
    let small : nat_lt (v * 10 + x) (2 ^ 64) ≡ true = lt-ltb (v * 10 + x) (2 ^ 64) fits in
    rw (digit, same, small) refl

digit_read : (v c : ℕ) → digit_value c < 10 → v * 10 + digit_value c < 2 ^ 64 → with_digit v c ≡ Some (v * 10 + digit_value c)
digit_read v c d fits = let is = digit_from_value c d in read_at v c (digit_value c) is (digit_value_digit c is) fits

digits_read : (v : ℕ) (z : List ℕ) → AllDigits 10 z → digits_value_after 10 v z < 2 ^ 64 → with_digits v z ≡ Some (digits_value_after 10 v z)
unfolding with_digits given
digits_read v [] d fits = refl
digits_read v (c ∷ z) d fits =
    rw (digit_read v c d.0 (omega (arith, fits, value_grows (v * 10 + digit_value c) z))) (digits_read (v * 10 + digit_value c) z d.1 fits)

all_digits : (z : List ℕ) → AllDigits 10 z → list_all is_ascii_digit z ≡ true
all_digits [] d = refl
all_digits (c ∷ z) d =
    rw (is_digit c (digit_from_value c d.0)) (all_digits z d.1)
  where
    is_digit : (c : ℕ) → IsInRange 48 57 c → is_ascii_digit c ≡ true
    is_digit c is = grind arith

number_back : (n : ℕ) → n < 2 ^ 64 → number_of (decimal n) ≡ Some n
number_back zero fits = rw (decimal_digit 0 (omega arith)) refl
number_back (suc m) fits = at (decimal (suc m)) (decimal_is_IsNumeral (suc m) fits).0.1 (decimal_is_IsNumeral (suc m) fits).1 (first_decimal (suc m) (omega arith) fits) where
  at : (x : List ℕ) → AllDigits 10 x → digits_value 10 x ≡ suc m → 48 < get_or x 0 0 → number_of x ≡ Some (suc m)
  at [] d is lead = absurd (omega (arith, lead))
  at (b ∷ z) d is lead =
      let lead_is : (b == 48) ≡ false = grind (arith, lead) in
      rw lead_is (digits_read 0 (b ∷ z) d (subst (λ (n : ℕ). n < 2 ^ 64) (sym is) fits) ∙ ap Some is)

pub number_read : (n : ℕ) (k : List ℕ) → IsNumber n → Stops is_ascii_digit k → number_at (decimal n ++ k) ≡ Some (n, k)
unfolding number_at given
number_read n k fits stops =
    let all : list_all is_ascii_digit (decimal n) ≡ true = all_digits (decimal n) (decimal_is_IsNumeral n fits).0.1 in
    rw (front_is is_ascii_digit (decimal n) k all stops, back_is is_ascii_digit (decimal n) k all stops, number_back n fits) refl

-- a number begins with a digit
pub number_first : (n : ℕ) (k : List ℕ) → IsNumber n → (b : ℕ) × (y : List ℕ) × (decimal n ++ k ≡ b ∷ y) × (is_ascii_digit b ≡ true)
number_first n k fits = at (decimal n) (decimal_is_IsNumeral n fits).0.0 (all_digits (decimal n) (decimal_is_IsNumeral n fits).0.1) where
  at : (x : List ℕ) → 0 < length x → list_all is_ascii_digit x ≡ true → (b : ℕ) × (y : List ℕ) × (x ++ k ≡ b ∷ y) × (is_ascii_digit b ≡ true)
  at [] some all = absurd (omega (arith, some))
  at (b ∷ x) some all = (b, x ++ k, refl, and_left (is_ascii_digit b) (list_all is_ascii_digit x) all)

pub number_some : (n : ℕ) → IsNumber n → 0 < length (decimal n)
number_some n fits = (decimal_is_IsNumeral n fits).0.0
