-- Where the other place of a flaw of the process of a file stands, where it has two.
use Rattle.std.specs.Prelude.{◌≡◌, ℕ, List, [], take}
use Rattle.sap_process.specs.Proc.{Proc}
use Rattle.sap_process.specs.Sites.{Site, sites}
use Rattle.sap_process.specs.declared.flaw.Flaw.{Flaw}
use Rattle.sap_process.specs.declared.flaw.Flaw.TheVariants.{FactClash, Rebound, SortClash}
use Rattle.sap_nodes.specs.FlawNodes.{IsNodeOf}
use Rattle.sap_other_nodes.specs.OtherBinders.{IsBinderOf}
use Rattle.sap_other_nodes.specs.OtherFacts.{IsOtherFact}
use Rattle.sap_other_nodes.specs.declared.other_binder.Binder.TheVariants.{On}
use Rattle.sap_other_nodes.specs.declared.other_binder.OtherNode.{OtherNode}
use Rattle.sap_read.specs.Item.{signature_of}
use Rattle.sap_read_places.specs.declared.told.Told.{Told}
use Rattle.sap_read_places.specs.FlawPlaces.{IsFlawPlace, IsNodeTold}

-- the name of this node of the place is bound by node k of the head at this path
pub record IsBoundBy (p : Proc) (s : Site) (node : ℕ) (path : List ℕ) (k : ℕ) : Type 0 where
  pub binder : OtherNode
  pub binds : IsBinderOf [] p s node (On binder)
  pub path_is : path ≡ take binder.depth s.path
  pub node_is : k ≡ binder.node

-- with which node this node of the place stands against the rules, where the flaw speaks of it: a name that is bound again, and a variable
-- with another sign, with the node that binds it; a fact with the first of its name and kind that differs from it
abbrev pub IsOtherNode : Flaw → Proc → Site → ℕ → List ℕ → ℕ → Type 0
IsOtherNode Rebound p s node path k = IsBoundBy p s node path k
IsOtherNode SortClash p s node path k = IsBoundBy p s node path k
IsOtherNode FactClash p s node path k = IsOtherFact p s.path node path k
IsOtherNode _ p s node path k = ⊥

-- the flaw that the process of the file has at this path has its other place there: with its first place, and the node of which it speaks
pub record IsOtherFlawPlace (z : List ℕ) (w : Flaw) (path : List ℕ) (t : Told) : Type 0 where
  pub first : Told
  pub at : IsFlawPlace z w path first
  pub node : ℕ
  pub speaks : IsNodeOf (signature_of at.placed.standing) (take at.number (sites at.process)) at.site w node
  pub other_path : List ℕ
  pub other_node : ℕ
  pub other : IsOtherNode w at.process at.site node other_path other_node
  pub told : IsNodeTold (signature_of at.placed.standing) z at.tokens at.definitions at.main other_path other_node t

-- the flaws that have one in each file that is refused for them
abbrev pub HasOtherNode : Flaw → Type 0
HasOtherNode Rebound = Unit {0}
HasOtherNode SortClash = Unit {0}
HasOtherNode FactClash = Unit {0}
HasOtherNode _ = ⊥
