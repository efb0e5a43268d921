-- Claims, as plain values: that a formula made ready has a truth value, so far as a choice shows it.
use Rattle.std.specs.Prelude.{ℕ, Bool, List, Option}
use Rattle.sap_formula.specs.declared.binder.Binder.{Binder}
use Rattle.sap_match.specs.Atoms.{Held}
use Rattle.sap_search.specs.Plan.{Guard, Plan}

-- what is chosen: a binder and what it stands for
pub record Chosen : Type 0 where
  pub binder : Binder
  pub value : Held

-- a binder and the slot of its name
pub record Slotted : Type 0 where
  pub binder : Binder
  pub slot : Option ℕ

-- a claim: that the test of this gives this truth value; that both of two hold, or the first one that does; that some choice
-- of facts for these guards leads to values of these binders, the last one first, under which one holds
pub data Claim : Type 0 where
  tested : Bool → Plan → Claim
  each : Claim → Claim → Claim
  first : Claim → Claim → Claim
  choosing : List Guard → List Slotted → Claim → Claim
