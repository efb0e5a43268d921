-- For which traces a guard stands. `H k f` is read: time k has the fact f.
use Rattle.std.specs.Prelude.{◌≡◌, ℕ, ◌<◌, ◌≤◌, ◌⊎◌, ◌↔◌, Bool, List, Option, MatchOption, Contains, IsTrue, true}
use Rattle.sap_shapes.specs.ReservedFacts.{delete_fact, event_fact, init_fact, input_fact, insert_fact, lock_fact, unlock_fact}
use Rattle.sap_restrict.specs.Shown.{HasAlike}
use Rattle.sap_restrict.specs.Standard.{IsAdmitted}
use Rattle.sap_terms.specs.AdversaryFacts.{k_fact}
use Rattle.sap_terms.specs.Message.{IsMessageTrace}
use Rattle.sap_terms.specs.Reserved.{is_reserved}
use Rattle.sap_terms.specs.Signature.{Sig}
use Rattle.sap_terms.specs.Trace.{Trace}
use Rattle.sap_terms.specs.Tree.{Tree}
use Rattle.sap_terms.specs.declared.fact.Fact.{Fact}

-- what a guard keeps of a trace
pub record Machine : Type 0 where
  pub started : Bool
  pub stored : Tree → Option Tree
  pub held : Tree → Option Tree
  pub usable : Option Tree

-- a time has one fact with a reserved name, or none
abbrev pub HasOneReserved : List Fact → Type 0
HasOneReserved p = (f h : Fact) → Contains p f → Contains p h → is_reserved f.name ≡ true → is_reserved h.name ≡ true → f ≡ h

-- v was inserted at x at time j; from j on nothing was deleted at x, and behind j nothing was inserted there
pub record IsStored (H : ℕ → Fact → Type 0) (x v : Tree) (j : ℕ) : Type 0 where
  pub inserted : H j (insert_fact x v)
  pub deletes : (k : ℕ) → H k (delete_fact x) → k < j
  pub inserts : (z : Tree) (k : ℕ) → H k (insert_fact x z) → k ≤ j

-- a delete came after each insert at x
abbrev pub IsUnset : (ℕ → Fact → Type 0) → Tree → Type 0
IsUnset H x = (y : Tree) (j : ℕ) → H j (insert_fact x y) → (k : ℕ) × H k (delete_fact x) × (j < k)

-- v is what the store has at x: it was inserted last, and nothing else with it
abbrev pub HasValue : (ℕ → Fact → Type 0) → Tree → Tree → Type 0
HasValue H x v = (j : ℕ) × IsStored H x v j × ((z : Tree) → H j (insert_fact x z) → z ≡ v)

-- the unlock of the name l comes after time i
abbrev pub IsReleased : (ℕ → Fact → Type 0) → Tree → Tree → ℕ → Type 0
IsReleased H l x i = (k : ℕ) × H k (unlock_fact l x) × (i < k)

-- after each lock of x comes the unlock of its name
abbrev pub IsUnlocked : (ℕ → Fact → Type 0) → Tree → Type 0
IsUnlocked H x = (l : Tree) (i : ℕ) → H i (lock_fact l x) → IsReleased H l x i

-- x was locked under the name l at time i and not unlocked under it from then on; after each lock under another name came its
-- unlock
pub record IsHeldSince (H : ℕ → Fact → Type 0) (l x : Tree) (i : ℕ) : Type 0 where
  pub locked : H i (lock_fact l x)
  pub unlocks : (k : ℕ) → H k (unlock_fact l x) → k < i
  pub others : (m : Tree) (k : ℕ) → H k (lock_fact m x) → (m ≡ l) ⊎ IsReleased H m x k

-- the adversary was shown to know x at time j; behind j it isn't shown to know any term, and from j on there is no event and no
-- input
pub record IsUsable (H : ℕ → Fact → Type 0) (x : Tree) (j : ℕ) : Type 0 where
  pub known : H j (k_fact x)
  pub last : (y : Tree) (k : ℕ) → H k (k_fact y) → k ≤ j
  pub events : (k : ℕ) → H k event_fact → k < j
  pub inputs : (y : Tree) (k : ℕ) → H k (input_fact y) → k < j

-- an input of x may come next, and of nothing else
abbrev pub MayTake : (ℕ → Fact → Type 0) → Tree → Type 0
MayTake H x = (j : ℕ) × IsUsable H x j × ((y : Tree) → H j (k_fact y) → y ≡ x)

-- the machine keeps of the trace whether it started, what the store has, what is held under which name, and what an input may
-- take next; and all seven formulas are true on the trace, for each signature for which it is one of messages
pub record KeepsTrace (m : Machine) (tr : Trace) : Type 0 where
  pub started : IsTrue m.started ↔ ((i : ℕ) × HasAlike tr i init_fact)
  pub stored : (x : Tree) → MatchOption (m.stored x) (IsUnset (HasAlike tr) x) (λ v. HasValue (HasAlike tr) x v)
  pub held : (x : Tree) → MatchOption (m.held x) (IsUnlocked (HasAlike tr) x) (λ l. (i : ℕ) × IsHeldSince (HasAlike tr) l x i)
  pub usable : MatchOption m.usable ((x : Tree) (j : ℕ) → ¬ IsUsable (HasAlike tr) x j) (λ x. MayTake (HasAlike tr) x)
  pub admitted : (g : Sig) → IsMessageTrace g tr → IsAdmitted g tr
