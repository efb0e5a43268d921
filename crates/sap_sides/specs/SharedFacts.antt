-- Facts whose arguments are numbers of shared terms.
use Rattle.std.specs.Prelude.{◌≡◌, ℕ, List, map, length, Option, Some, None, All}
use Rattle.sap_terms.specs.Piles.{Pile}
use Rattle.sap_terms.specs.Tree.{Tree}
use Rattle.sap_terms.specs.declared.fact.Fact.{Fact}
use Rattle.sap_share.specs.Shared.{trees_at, AreBelow}
use Rattle.sap_sides.specs.declared.shared_fact.SharedFact.{SharedFact}

-- the fact, with the trees of its numbers
abbrev pub fact_seen : List Tree → SharedFact → Fact
fact_seen ts s = record { name = s.name; persistent = s.persistent; args = trees_at ts s.args }

-- the numbers in these facts are below the count
abbrev pub AreFactsBelow : ℕ → List SharedFact → Type 0
AreFactsBelow count ss = All (λ (s : SharedFact). AreBelow count s.args) ss

-- the one is the other with numbers for its arguments
pub record IsShared (ts : List Tree) (f : Fact) (s : SharedFact) : Type 0 where
  pub below : AreBelow (length ts) s.args
  pub is : fact_seen ts s ≡ f

-- the ones are the others with numbers for their arguments
pub record AreShared (ts : List Tree) (fs : List Fact) (ss : List SharedFact) : Type 0 where
  pub below : AreFactsBelow (length ts) ss
  pub are : map (fact_seen ts) ss ≡ fs

-- the fact of a slot, with the trees of its numbers, if it stands
abbrev pub slot_seen : List Tree → Option SharedFact → Option Fact
slot_seen ts None = None
slot_seen ts (Some s) = Some (fact_seen ts s)

-- the facts of all slots
abbrev pub slots_seen : List Tree → List (Option SharedFact) → Pile
slots_seen ts slots = map (slot_seen ts) slots

-- the numbers in the slot are below the count
abbrev pub IsSlotBelow : ℕ → Option SharedFact → Type 0
IsSlotBelow count None = Unit {0}
IsSlotBelow count (Some s) = AreBelow count s.args

-- so are those in all slots
abbrev pub AreSlotsBelow : ℕ → List (Option SharedFact) → Type 0
AreSlotsBelow count slots = All (IsSlotBelow count) slots
