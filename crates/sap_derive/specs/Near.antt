-- What is deduced by terms that stand in the frame or in what is deduced, and by no others.
use Rattle.std.specs.Prelude.{ℕ, List, ◌∷◌, Contains, All}
use Rattle.sap_terms.specs.Tree.{Tree, apply, Trees, more}
use Rattle.sap_terms.specs.Signature.{Sig, HoldsBuiltins}
use Rattle.sap_terms.specs.Equations.{equations}
use Rattle.sap_terms.specs.Normal.{IsNormal}
use Rattle.sap_terms.specs.Deduce.{IsDerivation, IsDeducible}

-- the tree is one of these
pub data IsAmong (t : Tree) : Trees → Type 0 where
  first_one : {ts : Trees} → IsAmong t (more t ts)
  other : {u : Tree} {ts : Trees} → IsAmong t ts → IsAmong t (more u ts)

-- the first tree stands in the second, or is it
pub data IsSubterm (t : Tree) : Tree → Type 0 where
  whole : IsSubterm t t
  within : {f : List ℕ} {ts : Trees} {u : Tree} → IsAmong u ts → IsSubterm t u
      → IsSubterm t (apply f ts)

-- it stands in the goal, or in a term of the frame
pub record IsNear (frame : List Tree) (goal t : Tree) : Type 0 where
  pub above : Tree
  pub among : Contains (goal ∷ frame) above
  pub stands : IsSubterm t above

-- a derivation that ends in the goal, and has no terms but near ones
pub record IsDerivedNear (g : Sig) (names : List ℕ) (frame : List Tree) (goal : Tree) : Type 0 where
  pub earlier : List Tree
  pub derivation : IsDerivation g names frame (goal ∷ earlier)
  pub near : All (IsNear frame goal) (goal ∷ earlier)

-- what is deducible from names and a normal frame is derived near, if it is normal
abbrev pub DerivationsStayNear : Type 0
DerivationsStayNear =
    (g : Sig) (names : List ℕ) (frame : List Tree) (goal : Tree) → HoldsBuiltins g
    → All (IsNormal (equations g)) frame → IsNormal (equations g) goal
    → IsDeducible g names frame goal → IsDerivedNear g names frame goal
