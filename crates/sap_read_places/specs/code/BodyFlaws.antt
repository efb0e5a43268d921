-- What is told of a flaw of a definition's body.
use Rattle.std.specs.Prelude.{◌≡◌, ℕ, List, MatchOption, Option, Some, None, slice_get, take}
use Rattle.sap_terms.specs.Signature.{Sig}
use Rattle.sap_terms.specs.declared.var.Var.{Var}
use Rattle.sap_text.specs.declared.token.Token.{Token}
use Rattle.sap_process.specs.Proc.{Proc}
use Rattle.sap_process.specs.Sites.{Site, sites_in}
use Rattle.sap_process.specs.declared.flaw.Flaw.{Flaw}
use Rattle.sap_uses.specs.ScopeFlaws.{params_in_scope}
use Rattle.sap_nodes.specs.FlawNodes.{IsTold}
use Rattle.sap_nodes.specs.declared.full.Spoken.{Spoken}
use Rattle.sap_origin.specs.Definitions.{LocatedDefinition, plain_definition}
use Rattle.sap_origin.specs.Meant.{definition_of}
use Rattle.sap_seen.specs.SeenPlaces.{seen_of}
use Rattle.sap_read_places.specs.declared.told.Told.{Told}
use Rattle.sap_read_places.specs.code.BodyNodes.{IsInBody}

-- the node of which a flaw speaks, if it speaks of one
abbrev pub node_of : Option Spoken → Option ℕ
node_of None = None
node_of (Some f) = f.node

-- the flaw speaks of this node of the place at this path, or of none, where these variables are in scope at the root
abbrev pub IsNodeAlong : Sig → List Var → Proc → Flaw → List ℕ → Option ℕ → Type 0
IsNodeAlong g scope p w path r =
    (k : ℕ) (s : Site) → slice_get (sites_in scope p) k ≡ Some s → s.path ≡ path → IsTold g (take k (sites_in scope p)) s w r

-- this is told of the node of this number, or nothing where there is no number
abbrev pub IsOfNode : List ℕ → List Token → List LocatedDefinition → LocatedDefinition → List ℕ → Option ℕ → Option Told → Type 0
IsOfNode z ts ds d path None o = o ≡ None
IsOfNode z ts ds d path (Some k) o = IsInBody z ts ds d.body d.behind path k o

-- this is told of the flaw of the definition's body at this path
pub record IsOfBody (g : Sig) (z : List ℕ) (ts : List Token) (ds : List LocatedDefinition) (w : Flaw) (path : List ℕ)
    (o : Option Told) (d : LocatedDefinition) : Type 0 where
  pub node : Option ℕ
  pub speaks : IsNodeAlong g (params_in_scope (plain_definition d)) (seen_of ds d.body) w path node
  pub told : IsOfNode z ts ds d path node o

-- of that of the definition of this name, or nothing where there is none
abbrev pub IsOfName : Sig → List ℕ → List Token → List LocatedDefinition → List ℕ → Flaw → List ℕ → Option Told → Type 0
IsOfName g z ts ds name w path o = MatchOption (definition_of ds name) (o ≡ None) (IsOfBody g z ts ds w path o)
