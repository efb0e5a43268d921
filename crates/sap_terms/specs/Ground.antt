-- Ground terms.
use Rattle.sap_terms.specs.Tree.{Tree, variable, public, fresh, apply, Trees, none, more}

abbrev mutual
  -- no variable stands in the tree
  pub IsGround : Tree → Type 0
  IsGround (variable v) = ⊥
  IsGround (public n) = Unit {0}
  IsGround (fresh k) = Unit {0}
  IsGround (apply f ts) = AreGround ts

  -- nor in any of these
  pub AreGround : Trees → Type 0
  AreGround none = Unit {0}
  AreGround (more t ts) = IsGround t × AreGround ts
