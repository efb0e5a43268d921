-- Digits written from the last to the first.
use Rattle.std.proofs.Common.{◌≡◌, ◌≤◌, ◌<◌, ◌+◌, ◌-◌, ◌*◌, ◌/◌, ◌%◌, ◌^◌, ℕ, zero, suc, List, [], ◌∷◌, ◌++◌, append_assoc, length, drop, decimal, sym, ap, ◌∙◌, arith}
use Rattle.std.specs.Prelude.{slice_set}
use Rattle.std.proofs.lemmas.Fmt.{decimal_digit, decimal_step}
use Rattle.std.proofs.lemmas.Grind.{common_steps}

-- what is written at a place stands before what stood behind it
pub drop_written : (at v : ℕ) (z : List ℕ) → at < length z → drop at (slice_set z at v) ≡ v ∷ drop (at + 1) z
drop_written at v z lt = grind (arith, common_steps)

power_before : (at : ℕ) → 1 ≤ at → 10 ^ at ≡ 10 * 10 ^ (at - 1)
power_before zero le = absurd (omega (arith, le))
power_before (suc at) le = grind arith

pub front_fits : (at rest : ℕ) → 1 ≤ at → rest < 10 ^ at → rest / 10 < 10 ^ (at - 1)
front_fits at rest le lt = let e = power_before at le in let low : rest < 10 * 10 ^ (at - 1) = rw e at lt in omega (arith, low)

pub ends_within : (at rest : ℕ) → 10 ≤ rest → 1 ≤ at → rest < 10 ^ at → 1 ≤ at - 1
ends_within zero rest high le lt = absurd (omega (arith, le))
ends_within (suc zero) rest high le lt = absurd (omega (arith, high, lt))
ends_within (suc (suc at)) rest high le lt = omega arith

pub digit_written : (rest at : ℕ) (z : List ℕ) → 10 ≤ rest → rest < 2 ^ 64 → 1 ≤ at → at ≤ length z
    → decimal rest ++ drop at z ≡ decimal (rest / 10) ++ drop (at - 1) (slice_set z (at - 1) (48 + rest % 10))
digit_written rest at z high fits some within =
    let more : at - 1 + 1 ≡ at = omega (arith, some) in
    let last : drop (at - 1) (slice_set z (at - 1) (48 + rest % 10)) ≡ (48 + rest % 10) ∷ drop at z =
    drop_written (at - 1) (48 + rest % 10) z (omega (arith, some, within)) ∙ ap (λ k. (48 + rest % 10) ∷ drop k z) more in
    ap (λ y. y ++ drop at z) (decimal_step rest high fits) ∙ (append_assoc (decimal (rest / 10)) ((48 + rest % 10) ∷ []) (drop at z) ∙ ap (λ y. decimal (rest / 10) ++ y) (sym last))

pub last_written : (rest at : ℕ) (z : List ℕ) → rest < 10 → 1 ≤ at → at ≤ length z → decimal rest ++ drop at z ≡ drop (at - 1) (slice_set z (at - 1) (48 + rest))
last_written rest at z low some within =
    let more : at - 1 + 1 ≡ at = omega (arith, some) in
    let last : drop (at - 1) (slice_set z (at - 1) (48 + rest)) ≡ (48 + rest) ∷ drop at z = drop_written (at - 1) (48 + rest) z (omega (arith, some, within)) ∙ ap (λ k. (48 + rest) ∷ drop k z) more in
    ap (λ y. y ++ drop at z) (decimal_digit rest low) ∙ sym last
