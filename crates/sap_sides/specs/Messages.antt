-- What facts are made of: messages within the limit, and patterns without destructors.
use Rattle.std.specs.Prelude.{◌≡◌, ◌≤◌, ℕ, Some, All}
use Rattle.sap_terms.specs.Destructors.{AnyHasDestructor}
use Rattle.sap_terms.specs.Ground.{AreGround}
use Rattle.sap_terms.specs.Message.{IsMessage}
use Rattle.sap_terms.specs.Piles.{Pile}
use Rattle.sap_terms.specs.Signature.{Sig}
use Rattle.sap_terms.specs.Tree.{Tree, node_count, trees_of}
use Rattle.sap_terms.specs.declared.fact.Fact.{Fact}
use Rattle.sap_terms.specs.declared.var.Sort.TheVariants.{Msg}
use Rattle.sap_terms.specs.declared.limits.TheConstants.{MOST_TERM_NODES}
use Rattle.sap_facts.specs.Facts.{fact_at}

-- a message of at most 256 nodes
pub record IsSmallMessage (g : Sig) (t : Tree) : Type 0 where
  pub message : IsMessage g Msg t
  pub small : node_count t ≤ MOST_TERM_NODES

-- so are the fact's arguments
abbrev pub IsSmallMessageFact : Sig → Fact → Type 0
IsSmallMessageFact g f = All (IsSmallMessage g) f.args

-- so are those of each fact that stands
abbrev pub HoldsSmallMessages : Sig → Pile → Type 0
HoldsSmallMessages g facts = (k : ℕ) (f : Fact) → fact_at facts k ≡ Some f → IsSmallMessageFact g f

-- no destructor stands in the fact
abbrev pub HasNoDestructor : Sig → Fact → Type 0
HasNoDestructor g f = AnyHasDestructor g (trees_of f.args) → ⊥

-- the fact's arguments are ground
abbrev pub IsGroundFact : Fact → Type 0
IsGroundFact f = AreGround (trees_of f.args)
