-- What each restriction says, as a sentence about facts and times. `H k f` is read: time k has the fact f.
use Rattle.std.specs.Prelude.{◌≡◌, ℕ, ◌<◌, ◌≤◌, ◌⊎◌}
use Rattle.sap_shapes.specs.ReservedFacts.{delete_fact, eq_fact, event_fact, init_fact, input_fact, insert_fact, is_in_fact, is_not_set_fact, lock_fact, not_eq_fact, unlock_fact}
use Rattle.sap_restrict.specs.Shown.{HasFact}
use Rattle.sap_restrict.specs.declared.which.Which.{Which}
use Rattle.sap_restrict.specs.declared.which.Which.TheVariants.{Eq, In, InEv, Init, Lock, NotEq, NotIn}
use Rattle.sap_terms.specs.AdversaryFacts.{k_fact}
use Rattle.sap_terms.specs.Equal.{IsTheoryEqual}
use Rattle.sap_terms.specs.Equations.{Equations}
use Rattle.sap_terms.specs.Trace.{Trace}
use Rattle.sap_terms.specs.Tree.{Tree}
use Rattle.sap_terms.specs.declared.fact.Fact.{Fact}

-- no two times have Init()
abbrev pub InitOnce : (ℕ → Fact → Type 0) → Type 0
InitOnce H = (i j : ℕ) → H i init_fact → H j init_fact → i ≡ j

-- the two terms of each Eq are theory-equal
abbrev pub EachEqual : Equations → (ℕ → Fact → Type 0) → Type 0
EachEqual e H = (x y : Tree) (i : ℕ) → H i (eq_fact x y) → IsTheoryEqual e x y

-- those of each NotEq are not
abbrev pub EachUnequal : Equations → (ℕ → Fact → Type 0) → Type 0
EachUnequal e H = (x y : Tree) (i : ℕ) → H i (not_eq_fact x y) → IsTheoryEqual e x y → ⊥

-- v was inserted at x at time j, before i; from j to i nothing was deleted at x, and behind j, up to i, nothing was inserted
-- there
pub record IsFound (H : ℕ → Fact → Type 0) (i : ℕ) (x v : Tree) (j : ℕ) : Type 0 where
  pub inserted : H j (insert_fact x v)
  pub before : j < i
  pub deletes : (k : ℕ) → H k (delete_fact x) → (k < j) ⊎ (i < k)
  pub inserts : (z : Tree) (k : ℕ) → H k (insert_fact x z) → (k ≤ j) ⊎ (i < k)

-- what a lookup found was inserted last
abbrev pub EachFound : (ℕ → Fact → Type 0) → Type 0
EachFound H = (x v : Tree) (i : ℕ) → H i (is_in_fact x v) → (j : ℕ) × IsFound H i x v j

-- where a lookup found nothing, a delete came after each insert
abbrev pub EachMissed : (ℕ → Fact → Type 0) → Type 0
EachMissed H = (x y : Tree) (i j : ℕ) → H i (is_not_set_fact x) → H j (insert_fact x y) → j < i → (k : ℕ) × H k (delete_fact x) × (j < k) × (k < i)

-- between two locks of a term comes the unlock of the first
abbrev pub EachLock : (ℕ → Fact → Type 0) → Type 0
EachLock H = (l m x : Tree) (i j : ℕ) → H i (lock_fact l x) → H j (lock_fact m x) → i < j → (k : ℕ) × H k (unlock_fact l x) × (i < k) × (k < j)

-- the adversary was shown to know x at time j, before i; behind j, up to i, it isn't shown to know any term, and from j on
-- there is no event up to i, and no input before i
pub record IsServed (H : ℕ → Fact → Type 0) (i : ℕ) (x : Tree) (j : ℕ) : Type 0 where
  pub known : H j (k_fact x)
  pub before : j < i
  pub last : (y : Tree) (k : ℕ) → H k (k_fact y) → (k ≤ j) ⊎ (i < k)
  pub events : (k : ℕ) → H k event_fact → (k < j) ⊎ (i < k)
  pub inputs : (y : Tree) (k : ℕ) → H k (input_fact y) → (k < j) ⊎ (i ≤ k)

-- each input takes what the adversary was last shown to know
abbrev pub EachServed : (ℕ → Fact → Type 0) → Type 0
EachServed H = (x : Tree) (i : ℕ) → H i (input_fact x) → (j : ℕ) × IsServed H i x j

-- the sentence of each
abbrev pub Says : Equations → (ℕ → Fact → Type 0) → Which → Type 0
Says e H Init = InitOnce H
Says e H Eq = EachEqual e H
Says e H NotEq = EachUnequal e H
Says e H In = EachFound H
Says e H NotIn = EachMissed H
Says e H Lock = EachLock H
Says e H InEv = EachServed H

-- the trace meets all but that of one start
pub record Demands (e : Equations) (tr : Trace) : Type 0 where
  pub equal : EachEqual e (HasFact tr)
  pub unequal : EachUnequal e (HasFact tr)
  pub found : EachFound (HasFact tr)
  pub missed : EachMissed (HasFact tr)
  pub lock : EachLock (HasFact tr)
  pub served : EachServed (HasFact tr)

-- it meets all seven
pub record MeetsDemands (e : Equations) (tr : Trace) : Type 0 where
  pub init : InitOnce (HasFact tr)
  pub demands : Demands e tr
