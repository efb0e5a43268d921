-- Terms and facts that are evaluated under what is bound.
use Rattle.std.specs.Prelude.{◌≡◌, ◌⊎◌, List, [], ◌∷◌, ℕ, map}
use Rattle.sap_terms.specs.Choice.{instance}
use Rattle.sap_terms.specs.Equations.{equations}
use Rattle.sap_terms.specs.Ground.{IsGround}
use Rattle.sap_terms.specs.Message.{IsOver}
use Rattle.sap_terms.specs.Modulo.{instance_fact, IsFormOfFact}
use Rattle.sap_terms.specs.Normal.{IsNormalForm}
use Rattle.sap_terms.specs.Signature.{Sig}
use Rattle.sap_terms.specs.Tree.{Tree}
use Rattle.sap_terms.specs.declared.fact.Fact.{Fact}
use Rattle.sap_terms.specs.declared.limits.TheConstants.{MOST_TERM_NODES}
use Rattle.sap_share.specs.Env.{given, IsSmallForm}
use Rattle.sap_share.specs.Shared.{Shared, tree_at}
use Rattle.sap_share.specs.declared.env.Bound.{Bound}
use Rattle.sap_lines.specs.Faults.{EvaluateLarge, EvaluateSmall}
use Rattle.sap_lines.specs.declared.fault.PFault.{PFault}
use Rattle.sap_lines.specs.declared.fault.PFault.TheVariants.{Mem, TermLarge}

-- the number is that of a normal form of at most 256 nodes
abbrev pub IsSmallNumber : Shared → ℕ → Type 0
IsSmallNumber s k = IsSmallForm (equations s.sig) MOST_TERM_NODES s.trees k

-- the term stands for a ground term over the signature
pub record CanEvaluate (s : Shared) (env : List Bound) (t : Tree) : Type 0 where
  pub ground : IsGround (instance (given s.trees env) t)
  pub over : IsOver s.sig t

-- the number is that of the normal form of what the term stands for, and no subterm of that has a large one
pub record IsValue (s u : Shared) (env : List Bound) (t : Tree) (k : ℕ) : Type 0 where
  pub number : IsSmallNumber u k
  pub form : IsNormalForm (equations s.sig) (instance (given s.trees env) t) (tree_at u.trees k)
  pub small : EvaluateSmall s.sig (instance (given s.trees env) t ∷ [])

-- these are the numbers of two
pub record AreValues (s u : Shared) (env : List Bound) (t v : Tree) (j k : ℕ) : Type 0 where
  pub first_number : IsSmallNumber u j
  pub second_number : IsSmallNumber u k
  pub first_form : IsNormalForm (equations s.sig) (instance (given s.trees env) t) (tree_at u.trees j)
  pub second_form : IsNormalForm (equations s.sig) (instance (given s.trees env) v) (tree_at u.trees k)
  pub small : EvaluateSmall s.sig (instance (given s.trees env) t ∷ instance (given s.trees env) v ∷ [])

-- why terms are not evaluated: for want of memory, or since a subterm of one has a large normal form
abbrev pub IsValueFault : Sig → List Tree → PFault → Type 0
IsValueFault g ts f = (f ≡ Mem) ⊎ ((f ≡ TermLarge) × EvaluateLarge g ts)

-- the list holds one fact, the normal form of what the first fact stands for, and no subterm of that has a large one
pub record IsShown (s : Shared) (env : List Bound) (f : Fact) (hs : List Fact) : Type 0 where
  pub fact : Fact
  pub alone : hs ≡ fact ∷ []
  pub form : IsFormOfFact (equations s.sig) (instance_fact (given s.trees env) f) fact
  pub small : EvaluateSmall s.sig (map (instance (given s.trees env)) f.args)
