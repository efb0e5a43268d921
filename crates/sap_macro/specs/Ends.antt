-- Where chains of names without parameters end.
use Rattle.std.specs.Prelude.{◌≡◌, ℕ, List, [], Some, slice_get}
use Rattle.sap_terms.specs.Tree.{Tree}
use Rattle.sap_macro.specs.Indexed.{IsDefined}
use Rattle.sap_macro.specs.Written.{Written, nil, call, parallel, replicated, act, test, lookup, Definition}

-- from the one process one comes to the other, through names without parameters alone
pub data ComesTo (ds : List Definition) : Written → Written → Type 0 where
  here : {w : Written} → ComesTo ds w w
  through : {f : List ℕ} {d : Definition} {w : Written} (ts : List Tree) → IsDefined ds f d
      → d.params ≡ [] → ComesTo ds d.body w → ComesTo ds (call f ts) w

-- it is no name of a definition without parameters
abbrev pub IsLast : List Definition → Written → Type 0
IsLast ds nil = Unit {0}
IsLast ds (call f ts) = (d : Definition) → IsDefined ds f d → ¬ (d.params ≡ [])
IsLast ds (parallel p q) = Unit {0}
IsLast ds (replicated p) = Unit {0}
IsLast ds (act a p) = Unit {0}
IsLast ds (test t u p q) = Unit {0}
IsLast ds (lookup t x p q) = Unit {0}

-- the chain of names without parameters that begins with the one process ends with the other
pub record IsEnd (ds : List Definition) (w p : Written) : Type 0 where
  pub comes : ComesTo ds w p
  pub last : IsLast ds p

-- here stands the index of the definition with whose body the chain ends that begins with the body of this one
pub record IsEndAt (ds : List Definition) (ends : List ℕ) (k : ℕ) (d : Definition) : Type 0 where
  pub at : ℕ
  pub definition : Definition
  pub told : slice_get ends k ≡ Some at
  pub stands : slice_get ds at ≡ Some definition
  pub ends_there : IsEnd ds d.body definition.body

-- so it is for each definition
abbrev pub AreEnds : List Definition → List ℕ → Type 0
AreEnds ds ends = (k : ℕ) (d : Definition) → slice_get ds k ≡ Some d → IsEndAt ds ends k d
