-- Names with their numbers, and nodes as keys.
use Rattle.std.specs.Prelude.{◌≡◌, ℕ, List, Option, Some, map, All}
use Rattle.sap_terms.specs.NameMap.{value_at}
use Rattle.sap_share.specs.declared.key.Key.{Key}
use Rattle.sap_share.specs.declared.node.Node.{Node}
use Rattle.sap_share.specs.declared.node.Node.TheVariants.{Public, Fresh, App}

-- the number of the node's name; 0 where it is a name that somebody made
abbrev pub name_number : List (List ℕ × ℕ) → Node → Option ℕ
name_number m (Public n) = value_at m n
name_number m (Fresh k) = Some 0
name_number m (App f ks) = value_at m f

-- the nodes of the keys
abbrev pub nodes_in : List Key → List Node
nodes_in ks = map (λ (k : Key). k.node) ks

-- each key has the number of its node's name
abbrev pub AreNumbered : List (List ℕ × ℕ) → List Key → Type 0
AreNumbered m ks = All (λ (k : Key). name_number m k.node ≡ Some k.name) ks

-- a name that has a number keeps it
abbrev pub KeepsNumbers : List (List ℕ × ℕ) → List (List ℕ × ℕ) → Type 0
KeepsNumbers old new = (n : List ℕ) (k : ℕ) → value_at old n ≡ Some k → value_at new n ≡ Some k
