-- Lines of an adversary, and the terms that they give.
use Rattle.std.specs.Prelude.{◌≡◌, ◌≤◌, ℕ, List, [], ◌∷◌, ◌++◌, length, map, slice_get, Some}
use Rattle.sap_terms.specs.Tree.{Tree, public, apply, trees_of, node_count}
use Rattle.sap_terms.specs.Signature.{Sig, IsPublic, arity_of}
use Rattle.sap_terms.specs.Equations.{equations}
use Rattle.sap_terms.specs.Normal.{IsNormalForm}
use Rattle.sap_terms.specs.declared.limits.TheConstants.{MOST_TERM_NODES}
use Rattle.sap_derive.specs.declared.line.Line.{Line}
use Rattle.sap_derive.specs.declared.line.Line.TheVariants.{Public, Apply}

-- the line is possible where these terms are known, and gives this term
pub data IsLine (g : Sig) (ts : List Tree) : Line → Tree → Type 0 where
  writes : (a : List ℕ) → IsLine g ts (Public a) (public a)
  applies : (f ks : List ℕ) (us : List Tree) (t : Tree) → IsPublic g f → arity_of g f ≡ Some (length ks)
      → map (slice_get ts) ks ≡ map Some us → IsNormalForm (equations g) (apply f (trees_of us)) t
      → node_count t ≤ MOST_TERM_NODES → IsLine g ts (Apply f ks) t

-- the lines are possible in turn behind these terms, and give those
pub data Give (g : Sig) (ts : List Tree) : List Line → List Tree → Type 0 where
  no_lines : Give g ts [] []
  one_more : (ls : List Line) (us : List Tree) (l : Line) (u : Tree) → Give g ts ls us → IsLine g (ts ++ us) l u
      → Give g ts (ls ++ l ∷ []) (us ++ u ∷ [])
