-- Of one number it holds a second time.
use Rattle.std.proofs.Common.{◌≡◌, ◌<◌, ℕ, arith}
use Rattle.sap_terms.proofs.PlainLaws.Numbers.{same_number}
use Rattle.sap_where.specs.Where.{IsSecond}

not_second : (P : ℕ → Type 0) (j k : ℕ) → IsSecond P j → IsSecond P k → j < k → ⊥
not_second P j k a b lt =
    let same = b.no_other j lt a.is in
    let before = a.before in
    let also = b.no_other a.first (omega (arith, before, lt)) a.is_first in
    absurd (omega (arith, same, before, also))

pub one_second : (P : ℕ → Type 0) (j k : ℕ) → IsSecond P j → IsSecond P k → j ≡ k
one_second P j k a b = same_number j k (not_second P j k a b) (not_second P k j b a)
