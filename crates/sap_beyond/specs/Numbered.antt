-- Places of what is written behind definitions, by their numbers in preorder and by how many digits their paths have.
use Rattle.std.specs.Prelude.{◌≡◌, ◌<◌, ℕ, List, Some, length, map, slice_get}
use Rattle.sap_process.specs.Proc.{Proc}
use Rattle.sap_process.specs.Sites.{Site, sites}
use Rattle.sap_macro.specs.Expansion.{expansion}
use Rattle.sap_macro.specs.Written.{Written, Definition}

-- the paths of all places of a process, in preorder
abbrev pub paths : Proc → List (List ℕ)
paths x = map (λ (site : Site). site.path) (sites x)

-- behind these definitions place number k, from 0, of the process has this path, whatever names the file has
abbrev pub IsNumbered : List Definition → Written → ℕ → List ℕ → Type 0
IsNumbered ds p k path =
    (identifiers : List (List ℕ)) → slice_get (paths (expansion ds identifiers p).process) k ≡ Some path

-- it is the path of a place, has so many digits, and no path of a place with a lesser number has as many
pub record IsFirstDeep (ds : List Definition) (p : Written) (n : ℕ) (path : List ℕ) : Type 0 where
  pub number : ℕ
  pub stands : IsNumbered ds p number path
  pub deep : length path ≡ n
  pub first : (k : ℕ) (other : List ℕ) → k < number → IsNumbered ds p k other → ¬ (length other ≡ n)
