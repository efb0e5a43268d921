-- Action atoms whose variables are slots, as plain values; what slots hold, and facts of a trace with their times.
use Rattle.std.specs.Prelude.{ℕ, List, Option}
use Rattle.sap_terms.specs.Tree.{Tree, Trees}
use Rattle.sap_terms.specs.declared.fact.Fact.{Fact}

-- a fact of the trace, and its time
pub record Sight : Type 0 where
  pub time : ℕ
  pub fact : Fact

-- what a slot holds
pub data Held : Type 0 where
  held_term : Tree → Held
  held_time : ℕ → Held

-- an action atom: the arguments of its fact and the slot of its time, none where it fills the next one
pub record Atom : Type 0 where
  pub args : Trees
  pub marks : List (Option ℕ)
  pub time : Option ℕ
