-- What comes with a term.
use Rattle.std.specs.Prelude.{◌≡◌, ℕ, slice_get, Some}
use Rattle.sap_derive.specs.declared.clause.Clause.{Clause}
use Rattle.sap_derive.specs.declared.closure.Closure.{Closure}

-- clauses came, and no more is known
pub record Adds (old new : Closure) : Type 0 where
  pub kept : (c : ℕ) (k : Clause) → slice_get old.clauses c ≡ Some k → slice_get new.clauses c ≡ Some k
  pub known : new.known ≡ old.known
  pub ways : new.ways ≡ old.ways
