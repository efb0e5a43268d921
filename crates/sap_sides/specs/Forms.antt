-- Normal forms of facts, and those that are too large.
use Rattle.std.specs.Prelude.{◌≡◌, ◌⊎◌, List, map, length}
use Rattle.std.specs.List.{AllZip, flat_map}
use Rattle.sap_terms.specs.Choice.{Choice, instance}
use Rattle.sap_terms.specs.Equations.{equations}
use Rattle.sap_terms.specs.Modulo.{instance_facts, AreFormsOfFacts}
use Rattle.sap_terms.specs.Signature.{Sig}
use Rattle.sap_terms.specs.Tree.{Tree, trees_of}
use Rattle.sap_terms.specs.declared.fact.Fact.{Fact}
use Rattle.sap_terms.specs.declared.limits.TheConstants.{MOST_TERM_NODES}
use Rattle.sap_rewrite.specs.Large.{SomeSubtermWithin, HasLargeForm}
use Rattle.sap_sides.specs.SharedFacts.{fact_seen, AreFactsBelow}
use Rattle.sap_sides.specs.declared.shared_fact.SharedFact.{SharedFact}

-- some subterm of these has a normal form of more than 256 nodes
abbrev pub SomeLarge : Sig → List Tree → Type 0
SomeLarge g ts = SomeSubtermWithin (HasLargeForm (equations g) MOST_TERM_NODES) (trees_of ts)

-- the arguments of these facts, one fact after another
abbrev pub args_of : List Fact → List Tree
args_of fs = flat_map (λ (f : Fact). f.args) fs

-- the facts have the same arguments
abbrev pub HaveArgs : List Fact → List Fact → Type 0
HaveArgs fs hs = AllZip (λ (f h : Fact). f.args ≡ h.args) fs hs

-- these are the normal forms of a rule's acts under the choice, and with numbers for their arguments those of its right side;
-- no subterm has a normal form of more than 256 nodes
pub record AreSides (g : Sig) (σ : Choice) (acts right : List Fact) (ts : List Tree) (shown : List Fact) (added : List SharedFact) : Type 0 where
  pub below : AreFactsBelow (length ts) added
  pub acts_forms : AreFormsOfFacts (equations g) (instance_facts σ acts) shown
  pub right_forms : AreFormsOfFacts (equations g) (instance_facts σ right) (map (fact_seen ts) added)
  pub within_acts : SomeLarge g (map (instance σ) (args_of acts)) → ⊥
  pub within_right : SomeLarge g (map (instance σ) (args_of right)) → ⊥

-- some subterm of the acts or of the right side has
abbrev pub HasLargeSide : Sig → Choice → List Fact → List Fact → Type 0
HasLargeSide g σ acts right = SomeLarge g (map (instance σ) (args_of acts)) ⊎ SomeLarge g (map (instance σ) (args_of right))
