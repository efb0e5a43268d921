-- Tests of terms by truth values: contracts of callers join them into larger tests. Each takes what its definition says.
use Rattle.std.specs.Prelude.{ℕ, Bool, true, false, ◌&&◌, ◌||◌, nat_eq, Option, Some, None, length}
use Rattle.sap_terms.specs.Signature.{Sig, arity_of, is_destructor_of}
use Rattle.sap_terms.specs.Tree.{Tree, variable, public, fresh, apply, Trees, none, more, list_of}

-- the arity is there and is this
abbrev pub has_arity : Option ℕ → ℕ → Bool
has_arity None k = false
has_arity (Some n) k = nat_eq n k

abbrev mutual
  -- each symbol is held with its arity
  pub is_over : Sig → Tree → Bool
  is_over g (variable v) = true
  is_over g (public n) = true
  is_over g (fresh k) = true
  is_over g (apply f ts) = has_arity (arity_of g f) (length (list_of ts)) && are_over g ts

  -- in each of these
  pub are_over : Sig → Trees → Bool
  are_over g none = true
  are_over g (more t ts) = is_over g t && are_over g ts

abbrev mutual
  -- no variable stands in the tree
  pub is_ground : Tree → Bool
  is_ground (variable v) = false
  is_ground (public n) = true
  is_ground (fresh k) = true
  is_ground (apply f ts) = are_ground ts

  -- nor in any of these
  pub are_ground : Trees → Bool
  are_ground none = true
  are_ground (more t ts) = is_ground t && are_ground ts

abbrev mutual
  -- a destructor stands in the tree
  pub has_destructor : Sig → Tree → Bool
  has_destructor g (variable v) = false
  has_destructor g (public n) = false
  has_destructor g (fresh k) = false
  has_destructor g (apply f ts) = is_destructor_of g f || any_has_destructor g ts

  -- in one of these
  pub any_has_destructor : Sig → Trees → Bool
  any_has_destructor g none = false
  any_has_destructor g (more t ts) = has_destructor g t || any_has_destructor g ts
