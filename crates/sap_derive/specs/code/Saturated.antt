-- What has all that symbols make of it, of the terms asked for.
use Rattle.std.specs.Prelude.{◌≡◌, ℕ, List, length, Contains, All, Some}
use Rattle.sap_terms.specs.Tree.{Tree, public, fresh, apply, Trees, trees_of}
use Rattle.sap_terms.specs.Signature.{Sig, IsPublic, arity_of}
use Rattle.sap_terms.specs.Equations.{equations}
use Rattle.sap_terms.specs.Normal.{IsNormalForm}
use Rattle.sap_derive.specs.Near.{IsAmong}

-- the terms have the parts of each of them
abbrev pub HaveParts : (Tree → Type 0) → Type 0
HaveParts A = (f : List ℕ) (ts : Trees) (t : Tree) → A (apply f ts) → IsAmong t ts → A t

-- K has what the adversary is given, and what comes of K by one symbol; of all this only what is among the terms A is asked
pub record IsSaturated (g : Sig) (names : List ℕ) (frame : List Tree) (A K : Tree → Type 0) : Type 0 where
  pub publics : (n : List ℕ) → A (public n) → K (public n)
  pub names_too : (k : ℕ) → Contains names k → A (fresh k) → K (fresh k)
  pub given : All K frame
  pub applied : (f : List ℕ) (ts : List Tree) (t : Tree) → IsPublic g f → arity_of g f ≡ Some (length ts) → All K ts → All A ts → A t
      → IsNormalForm (equations g) (apply f (trees_of ts)) t → K t
