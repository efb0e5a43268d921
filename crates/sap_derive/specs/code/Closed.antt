-- The closure of clauses over numbers.
use Rattle.std.specs.Prelude.{◌≡◌, ◌<◌, ◌≤◌, ◌⊎◌, ℕ, List, [], ◌∷◌, ◌++◌, length, slice_get, Some, Vec}
use Rattle.std.specs.declared.alloc.Global.{Global}
use Rattle.sap_derive.specs.code.Lines.{premises_of}
use Rattle.sap_derive.specs.code.Listed.{IsListed, AreListed, AreListedBefore, StandOnce}
use Rattle.sap_derive.specs.declared.clause.Clause.{Clause}
use Rattle.sap_derive.specs.declared.closure.Closure.{Closure}
use Rattle.sap_derive.specs.declared.grounds.Wait.{Wait}
use Rattle.sap_derive.specs.declared.grounds.Grounds.{Grounds}
use Rattle.sap_derive.specs.declared.grounds.Grounds.TheVariants.{Given, By}

-- what a clause gives is in the list, where all that it stands on is
abbrev pub IsClosedUnder : List Clause → List ℕ → Type 0
IsClosedUnder clauses items = (c : ℕ) (clause : Clause) → slice_get clauses c ≡ Some clause → AreListed items (premises_of clause.line) → IsListed items clause.gives

-- at this place stands the first of these numbers that isn't in the list
pub record IsFirstUnlisted (items ns : List ℕ) (place : ℕ) : Type 0 where
  pub number : ℕ
  pub at : slice_get ns place ≡ Some number
  pub unlisted : ¬ IsListed items number
  pub before : AreListedBefore items ns place

-- the wait is one of those at this number, at this index
pub record IsWaitAt (waiting : List (Vec Wait Global)) (n k : ℕ) (w : Wait) : Type 0 where
  pub waits : Vec Wait Global
  pub at_number : slice_get waiting n ≡ Some waits
  pub at_index : slice_get waits.items k ≡ Some w

-- each wait is there still
abbrev pub KeepsWaits : List (Vec Wait Global) → List (Vec Wait Global) → Type 0
KeepsWaits old new = (n k : ℕ) (w : Wait) → IsWaitAt old n k w → IsWaitAt new n k w

-- it is one of those at this number
abbrev pub IsParked : List (Vec Wait Global) → ℕ → Wait → Type 0
IsParked waiting n w = (k : ℕ) × IsWaitAt waiting n k w

-- the clause stands on the number at the wait's place, and what stands before it is known
pub record IsWait (clauses : List Clause) (known : List ℕ) (n : ℕ) (w : Wait) : Type 0 where
  pub clause : Clause
  pub is : slice_get clauses w.clause ≡ Some clause
  pub at : slice_get (premises_of clause.line) w.place ≡ Some n
  pub before : AreListedBefore known (premises_of clause.line) w.place

-- what is known at this rank was given by the clause, all of whose numbers have lesser ranks
pub record IsStep (clauses : List Clause) (known : List ℕ) (rank c : ℕ) : Type 0 where
  pub clause : Clause
  pub is : slice_get clauses c ≡ Some clause
  pub gives : slice_get known rank ≡ Some clause.gives
  pub before : (k n : ℕ) → slice_get (premises_of clause.line) k ≡ Some n → (j : ℕ) × (j < rank) × (slice_get known j ≡ Some n)

-- what is known is known once, and in some way; and each wait is one
pub record IsSoundOf (clauses : List Clause) (known : List ℕ) (ways : List Grounds) (waiting : List (Vec Wait Global)) (placed done looked : ℕ) : Type 0 where
  pub count : length ways ≡ length known
  pub once : StandOnce known
  pub steps : (rank c : ℕ) → slice_get ways rank ≡ Some (By c) → IsStep clauses known rank c
  pub waits : (n k : ℕ) (w : Wait) → IsWaitAt waiting n k w → IsWait clauses known n w
  pub placed_within : placed ≤ length clauses
  pub done_within : done ≤ length known
  pub none_looked : length known ≤ done → looked ≡ 0

abbrev pub IsSound : Closure → Type 0
IsSound s = IsSoundOf s.clauses s.known s.ways.items s.waiting.items s.placed s.done s.looked

-- what the clause gives is known
pub record IsUsed (clauses : List Clause) (known : List ℕ) (c : ℕ) : Type 0 where
  pub clause : Clause
  pub is : slice_get clauses c ≡ Some clause
  pub gives : IsListed known clause.gives

-- the clause waits at a number that isn't known
pub record IsWaiting (known : List ℕ) (waiting : List (Vec Wait Global)) (c : ℕ) : Type 0 where
  pub number : ℕ
  pub index : ℕ
  pub wait : Wait
  pub at : IsWaitAt waiting number index wait
  pub clause : wait.clause ≡ c
  pub unknown : ¬ IsListed known number

-- it waits at a number that isn't known, or where it is still to be looked at
pub record IsAhead (known : List ℕ) (waiting : List (Vec Wait Global)) (done looked c : ℕ) : Type 0 where
  pub number : ℕ
  pub index : ℕ
  pub wait : Wait
  pub at : IsWaitAt waiting number index wait
  pub clause : wait.clause ≡ c
  pub ahead : (rank : ℕ) → slice_get known rank ≡ Some number → (done < rank) ⊎ ((done ≡ rank) × (looked ≤ index))

-- each clause that was looked at has given its number, or waits
abbrev pub AreSettled : Closure → Type 0
AreSettled s = (c : ℕ) → c < s.placed → IsUsed s.clauses s.known c ⊎ IsAhead s.known s.waiting.items s.done s.looked c

-- what holds between calls
pub record IsClosure (s : Closure) : Type 0 where
  pub sound : IsSound s
  pub settled : AreSettled s

-- the number was given
pub record IsGiven (s : Closure) (n : ℕ) : Type 0 where
  pub rank : ℕ
  pub is : slice_get s.known rank ≡ Some n
  pub way : slice_get s.ways.items rank ≡ Some Given

-- nothing was learned, or the number, in this way
pub data Learns (known : List ℕ) (ways : List Grounds) (n : ℕ) (way : Grounds) (new_known : List ℕ) (new_ways : List Grounds) : Type 0 where
  nothing : new_known ≡ known → new_ways ≡ ways → Learns known ways n way new_known new_ways
  one : new_known ≡ known ++ n ∷ [] → new_ways ≡ ways ++ way ∷ [] → Learns known ways n way new_known new_ways

-- what is known stays known, at its rank
abbrev pub KeepsKnown : List ℕ → List ℕ → Type 0
KeepsKnown old new = (k n : ℕ) → slice_get old k ≡ Some n → slice_get new k ≡ Some n

-- clauses stay, and what is known stays known; no more was given
pub record Grows (old new : Closure) : Type 0 where
  pub clauses : new.clauses ≡ old.clauses
  pub known : KeepsKnown old.known new.known
  pub given : (n : ℕ) → IsGiven new n → IsGiven old n

-- so they do; waits stay, and none comes at what was known
pub record Advances (old new : Closure) : Type 0 where
  pub grows : Grows old new
  pub placed : new.placed ≡ old.placed
  pub done : new.done ≡ old.done
  pub looked : new.looked ≡ old.looked
  pub later : (k n : ℕ) → slice_get new.known k ≡ Some n → (slice_get old.known k ≡ Some n) ⊎ (length old.known ≤ k)
  pub kept : KeepsWaits old.waiting.items new.waiting.items
  pub only : (n k : ℕ) (w : Wait) → IsListed old.known n → IsWaitAt new.waiting.items n k w → IsWaitAt old.waiting.items n k w
