-- Formulas made ready for a trace, as plain values: variables are slots, and each guard has facts of the trace.
use Rattle.std.specs.Prelude.{ℕ, Bool, List, Option}
use Rattle.sap_match.specs.Atoms.{Atom, Sight}
use Rattle.sap_terms.specs.Tree.{Tree}

-- an action atom that is a guard, and the facts of its name
pub record Guard : Type 0 where
  pub atom : Atom
  pub facts : List Sight

-- a formula made ready
pub data Plan : Type 0 where
  always : Bool → Plan
  shows : List ℕ → Atom → Plan
  equals : Tree → Tree → List (Option ℕ) → List (Option ℕ) → Plan
  at_once : Option ℕ → Option ℕ → Plan
  before : Option ℕ → Option ℕ → Plan
  inverse : Plan → Plan
  and_then : Plan → Plan → Plan
  or_else : Plan → Plan → Plan
  if_then : Plan → Plan → Plan
  alike : Plan → Plan → Plan
  search : Bool → List Guard → Plan → Plan
