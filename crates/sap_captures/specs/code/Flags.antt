-- Which flags are set.
use Rattle.std.specs.Prelude.{◌≡◌, ◌⊎◌, ◌↔◌, ℕ, Bool, true, List, length, slice_get, Some}

-- the flag is set
abbrev pub IsFlagged : List Bool → ℕ → Type 0
IsFlagged fs i = slice_get fs i ≡ Some true

-- there are as many, and those of these numbers are set too, and no others
pub record IsGrown (more : ℕ → Type 0) (fs gs : List Bool) : Type 0 where
  pub length_is : length gs ≡ length fs
  pub set : (i : ℕ) → IsFlagged gs i ↔ (IsFlagged fs i ⊎ more i)
