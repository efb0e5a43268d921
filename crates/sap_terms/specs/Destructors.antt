-- Terms that a destructor stands in.
use Rattle.std.specs.Prelude.{◌≡◌, ◌⊎◌, true}
use Rattle.sap_terms.specs.Signature.{Sig, is_destructor_of}
use Rattle.sap_terms.specs.Tree.{Tree, variable, public, fresh, apply, Trees, none, more}

abbrev mutual
  -- a destructor stands in the tree, at its head or below
  pub HasDestructor : Sig → Tree → Type 0
  HasDestructor g (variable v) = ⊥
  HasDestructor g (public n) = ⊥
  HasDestructor g (fresh k) = ⊥
  HasDestructor g (apply f ts) = (is_destructor_of g f ≡ true) ⊎ AnyHasDestructor g ts

  -- in one of these
  pub AnyHasDestructor : Sig → Trees → Type 0
  AnyHasDestructor g none = ⊥
  AnyHasDestructor g (more t ts) = HasDestructor g t ⊎ AnyHasDestructor g ts
