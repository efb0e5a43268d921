-- Which line and column offsets of a small file have, and what is shown of it.
use Rattle.std.proofs.Common.{◌≡◌, ◌≤◌, ◌<◌, ◌+◌, ℕ, zero, suc, refl, sym, ap, subst, arith}
use Rattle.sap_stretches.specs.StretchExamples.{stretch}
use Rattle.sap_stretches.specs.declared.position.Position.{Position}
use Rattle.sap_stretches.specs.PositionExamples.{at, second_byte, second_line, two_lines}
use Rattle.sap_stretches.specs.Positions.{IsFeed, IsPlaceText, IsPosition, LineBegins, LineEnds}
use Rattle.sap_stretches.proofs.Positions.{one_position}

only_two : (k : ℕ) → k + 1 ≡ 3 → k ≡ 2
only_two k e = omega (arith, e)

begins_at : (n : ℕ) → 3 ≤ n → n ≤ 5 → LineBegins two_lines n 3
begins_at n low high = record {
  order = low;
  begins = λ k e. subst (λ (j : ℕ). IsFeed two_lines j) (sym (only_two k e)) refl;
  no_feed = λ k le lt. none k le (omega (arith, lt, high));
}
  where
    none : (k : ℕ) → 3 ≤ k → k < 5 → IsFeed two_lines k → ⊥
    none zero le lt e = absurd (omega (arith, le))
    none (suc zero) le lt e = absurd (omega (arith, le))
    none (suc (suc zero)) le lt e = absurd (omega (arith, le))
    none (suc (suc (suc zero))) le lt e = absurd (omega (arith, e))
    none (suc (suc (suc (suc zero)))) le lt e = absurd (omega (arith, e))
    none (suc (suc (suc (suc (suc k))))) le lt e = absurd (omega (arith, lt))

ends_at : (n : ℕ) → 3 ≤ n → n ≤ 5 → LineEnds two_lines n 5
ends_at n low high = record {
  order = high;
  inside = omega arith;
  ends = λ lt. absurd (omega (arith, lt));
  no_feed = λ k le lt. (begins_at 5 (omega arith) (omega arith)).no_feed k (omega (arith, le, low)) lt;
}

first_begins : LineBegins two_lines 2 0
first_begins = record {
  order = omega arith;
  begins = λ k e. absurd (omega (arith, e));
  no_feed = λ k le lt. none k lt;
}
  where
    none : (k : ℕ) → k < 2 → IsFeed two_lines k → ⊥
    none zero lt e = absurd (omega (arith, e))
    none (suc zero) lt e = absurd (omega (arith, e))
    none (suc (suc k)) lt e = absurd (omega (arith, lt))

pub at_second : IsPosition two_lines 3 (at 2 1)
at_second = record { from = 3; begins = begins_at 3 (omega arith) (omega arith); line = refl; column = refl }

pub at_feed : IsPosition two_lines 2 (at 1 3)
at_feed = record { from = 0; begins = first_begins; line = refl; column = refl }

pub at_end : IsPosition two_lines 5 (at 2 3)
at_end = record { from = 3; begins = begins_at 5 (omega arith) (omega arith); line = refl; column = refl }

line_of : (p q : Position) → p ≡ q → p.line ≡ q.line
line_of p q e = ap (λ (r : Position). r.line) e

column_of : (p q : Position) → p ≡ q → p.column ≡ q.column
column_of p q e = ap (λ (r : Position). r.column) e

pub not_first_line : IsPosition two_lines 3 (at 1 4) → ⊥
not_first_line h =
    let e : 2 ≡ 1 = line_of (at 2 1) (at 1 4) (one_position two_lines 3 (at 2 1) (at 1 4) at_second h) in
    absurd (omega (arith, e))

pub not_from_zero : IsPosition two_lines 3 (at 2 0) → ⊥
not_from_zero h =
    let e : 1 ≡ 0 = column_of (at 2 1) (at 2 0) (one_position two_lines 3 (at 2 1) (at 2 0) at_second h) in
    absurd (omega (arith, e))

pub text_of_second : IsPlaceText two_lines (stretch 3 5) second_line
text_of_second = record {
  position = at 2 1;
  is_position = at_second;
  from = 3;
  begins = begins_at 3 (omega arith) (omega arith);
  to = 5;
  ends = ends_at 3 (omega arith) (omega arith);
  text = refl;
}

at_fourth : IsPosition two_lines 4 (at 2 2)
at_fourth = record { from = 3; begins = begins_at 4 (omega arith) (omega arith); line = refl; column = refl }

pub text_of_byte : IsPlaceText two_lines (stretch 4 5) second_byte
text_of_byte = record {
  position = at 2 2;
  is_position = at_fourth;
  from = 3;
  begins = begins_at 4 (omega arith) (omega arith);
  to = 5;
  ends = ends_at 4 (omega arith) (omega arith);
  text = refl;
}
