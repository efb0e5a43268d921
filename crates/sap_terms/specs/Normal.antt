-- Normal terms.
pub use Rattle.sap_terms.specs.Subterms.{EachSubterm, EachSubtermWithin}
use Rattle.sap_terms.specs.Tree.{Tree, Trees}
use Rattle.sap_terms.specs.Equations.{Equations, IsInstance}
use Rattle.sap_terms.specs.Equal.{IsTheoryEqual}

-- the tree is an instance of no equation's left side
abbrev pub IsNoLeftSide : Equations → Tree → Type 0
IsNoLeftSide e t = (b : Tree) → IsInstance e t b → ⊥

-- no subterm is an instance of a left side
abbrev pub IsNormal : Equations → Tree → Type 0
IsNormal e t = EachSubterm (IsNoLeftSide e) t

-- all of these are normal
abbrev pub AreNormal : Equations → Trees → Type 0
AreNormal e ts = EachSubtermWithin (IsNoLeftSide e) ts

-- n is normal, and theory-equal to t
pub record IsNormalForm (e : Equations) (t n : Tree) : Type 0 where
  pub equal : IsTheoryEqual e t n
  pub normal : IsNormal e n
