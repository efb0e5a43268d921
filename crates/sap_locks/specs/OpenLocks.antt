-- The locks that a place holds as open, and those that are open there by the way to it.
use Rattle.std.specs.Prelude.{◌≡◌, ℕ, Contains}
use Rattle.sap_process.specs.Scopes.{Spot}
use Rattle.sap_locks.specs.Ways.{IsOpen, LockSite}

-- they are one place, and the labels are those of the locks that are open there by the way to it
pub record HasOpenLocks (a : Spot) (s : LockSite) : Type 0 where
  pub path_is : a.path ≡ s.path
  pub body_is : a.body ≡ s.body
  pub labels : (n : ℕ) → Contains a.above.open_locks n → IsOpen s.above.way n
  pub all : (n : ℕ) → IsOpen s.above.way n → Contains a.above.open_locks n
