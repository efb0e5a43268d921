-- What can be deduced from names and a frame, that is, from the terms that were sent.
use Rattle.std.specs.Prelude.{◌≡◌, ℕ, List, [], ◌∷◌, length, find, nat_le, Contains, All, Some}
use Rattle.sap_terms.specs.Tree.{Tree, public, fresh, apply, trees_of}
use Rattle.sap_terms.specs.Signature.{Sig, IsPublic, arity_of}
use Rattle.sap_terms.specs.Equations.{equations}
use Rattle.sap_terms.specs.Normal.{IsNormalForm}

-- a public name, a name of these, a term of the frame, or the normal form of a public symbol on earlier terms
pub data IsDerived (g : Sig) (names : List ℕ) (frame earlier : List Tree) (t : Tree) : Type 0 where
  a_public : (n : List ℕ) → t ≡ public n → IsDerived g names frame earlier t
  a_name : (k : ℕ) → Contains names k → t ≡ fresh k → IsDerived g names frame earlier t
  given : Contains frame t → IsDerived g names frame earlier t
  applied : (f : List ℕ) (ts : List Tree) → IsPublic g f → arity_of g f ≡ Some (length ts)
      → All (Contains earlier) ts → IsNormalForm (equations g) (apply f (trees_of ts)) t
      → IsDerived g names frame earlier t

-- a list of terms, the last one first, each of which comes so from those before it
abbrev pub IsDerivation : Sig → List ℕ → List Tree → List Tree → Type 0
IsDerivation g names frame [] = Unit {0}
IsDerivation g names frame (t ∷ ts) = IsDerived g names frame ts t × IsDerivation g names frame ts

-- such a list ends in a normal form of the term
pub record IsDeducible (g : Sig) (names : List ℕ) (frame : List Tree) (t : Tree) : Type 0 where
  pub form : Tree
  pub is_form : IsNormalForm (equations g) t form
  pub earlier : List Tree
  pub derivation : IsDerivation g names frame (form ∷ earlier)

-- entries are numbered from 0: the first of these numbers that is no entry's of so many
abbrev pub IsFirstUnknown : ℕ → List ℕ → ℕ → Type 0
IsFirstUnknown count ks k = find (nat_le count) ks ≡ Some k
