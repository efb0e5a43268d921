-- The digits of a path.
use Rattle.std.specs.Prelude.{◌≤◌, ℕ, List, All}

-- 1 or 2
abbrev pub IsDigit : ℕ → Type 0
IsDigit d = (1 ≤ d) × (d ≤ 2)

-- each of these is one
abbrev pub AreDigits : List ℕ → Type 0
AreDigits path = All IsDigit path
