-- Numbers and limits.
use Rattle.std.proofs.Common.{rules, ◌≡◌, ◌≤◌, ◌<◌, ℕ, true, false}
use Rattle.std.specs.Prelude.{nat_le}

-- a number within the limit
pub fits : (m n : ℕ) → m ≤ n → nat_le m n ≡ true
fits m n le = search rules

-- a number above the limit
pub over : (m n : ℕ) → n < m → nat_le m n ≡ false
over m n lt = search rules

-- what is found to be within the limit
pub le_of : (m n : ℕ) → nat_le m n ≡ true → m ≤ n
le_of m n e = search rules

pub ruleset limits = (fits, over)
