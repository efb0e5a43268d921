-- All roles of a process: their names by number, and which one a thread has along each path.
use Rattle.std.specs.Prelude.{ℕ, List, Option}

-- the name of each role by its number, and the number of the role that a thread has along a path, if it has one there
pub record Cast : Type 0 where
  pub names : List (List ℕ)
  pub at : List ℕ → Option ℕ
