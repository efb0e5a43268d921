-- Whether a term is deducible is decided.
use Rattle.std.specs.Prelude.{◌⊎◌, ℕ, List, All}
use Rattle.sap_terms.specs.Deduce.{IsDeducible}
use Rattle.sap_terms.specs.Equations.{equations}
use Rattle.sap_terms.specs.Normal.{IsNormal}
use Rattle.sap_terms.specs.Signature.{Sig, HoldsBuiltins}
use Rattle.sap_terms.specs.Tree.{Tree}

-- from names and normal terms, a normal term is deducible or isn't
abbrev pub DeducibilityIsDecided : Type 0
DeducibilityIsDecided =
    (g : Sig) (names : List ℕ) (frame : List Tree) (goal : Tree) → HoldsBuiltins g
    → All (IsNormal (equations g)) frame → IsNormal (equations g) goal
    → IsDeducible g names frame goal ⊎ ¬ IsDeducible g names frame goal
