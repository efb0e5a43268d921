-- What a derivation needs of what is known, and the lines that it has.
use Rattle.std.specs.Prelude.{◌≡◌, ◌<◌, ◌⊎◌, ℕ, List, [], ◌∷◌, ◌++◌, length, slice_get, Some}
use Rattle.sap_derive.specs.code.Lines.{premises_of}
use Rattle.sap_derive.specs.code.Listed.{IsListed, StandOnce}
use Rattle.sap_derive.specs.declared.clause.Clause.{Clause}
use Rattle.sap_derive.specs.declared.closure.Closure.{Closure}
use Rattle.sap_derive.specs.declared.line.Line.{Line}
use Rattle.sap_derive.specs.declared.line.Line.TheVariants.{Public, Apply}
use Rattle.sap_derive.specs.declared.grounds.Grounds.TheVariants.{By}

-- what is known at this rank is no entry, and was given by the clause
pub record IsBy (s : Closure) (entries : List ℕ) (rank : ℕ) (clause : Clause) : Type 0 where
  pub number : ℕ
  pub at : slice_get s.known rank ≡ Some number
  pub new : ¬ IsListed entries number
  pub index : ℕ
  pub way : slice_get s.ways.items rank ≡ Some (By index)
  pub is : slice_get s.clauses index ≡ Some clause

-- that clause stands on what is known at the rank j
pub record StandsOn (s : Closure) (entries : List ℕ) (rank j : ℕ) : Type 0 where
  pub clause : Clause
  pub by : IsBy s entries rank clause
  pub place : ℕ
  pub number : ℕ
  pub premise : slice_get (premises_of clause.line) place ≡ Some number
  pub at : slice_get s.known j ≡ Some number

-- the goal's rank is needed, and what a needed rank stands on
pub data IsNeeded (s : Closure) (entries : List ℕ) (goal : ℕ) : ℕ → Type 0 where
  goal_itself : IsNeeded s entries goal goal
  premise : (rank j : ℕ) → IsNeeded s entries goal rank → StandsOn s entries rank j → IsNeeded s entries goal j

-- at this rank the number is known, which is no entry
pub record IsNewRank (known entries : List ℕ) (n rank : ℕ) : Type 0 where
  pub at : slice_get known rank ≡ Some n
  pub new : ¬ IsListed entries n

-- so is one of these numbers
abbrev pub IsNewRankOf : List ℕ → List ℕ → List ℕ → ℕ → Type 0
IsNewRankOf known entries numbers rank = (k n : ℕ) × (slice_get numbers k ≡ Some n) × IsNewRank known entries n rank

-- the number is an entry, or its rank is one of these
abbrev pub IsCovered : List ℕ → List ℕ → List ℕ → ℕ → Type 0
IsCovered known entries ranks n = IsListed entries n ⊎ ((j : ℕ) → slice_get known j ≡ Some n → IsListed ranks j)

-- so is each of these numbers
abbrev pub AreCovered : List ℕ → List ℕ → List ℕ → List ℕ → Type 0
AreCovered known entries ranks numbers = (k n : ℕ) → slice_get numbers k ≡ Some n → IsCovered known entries ranks n

-- the rank is needed, and its number is no entry
pub record IsNeededNew (s : Closure) (entries : List ℕ) (goal rank : ℕ) : Type 0 where
  pub below : rank < length s.known
  pub needed : IsNeeded s entries goal rank
  pub new : (n : ℕ) → slice_get s.known rank ≡ Some n → ¬ IsListed entries n

-- these are needed; the goal is an entry or its rank is one of them, and so is all that they stand on
pub record AreNeeded (s : Closure) (entries : List ℕ) (goal : ℕ) (ranks : List ℕ) : Type 0 where
  pub itself : (n : ℕ) → slice_get s.known goal ≡ Some n → IsCovered s.known entries ranks n
  pub needed : (rank : ℕ) → IsListed ranks rank → IsNeededNew s entries goal rank
  pub closed : (rank j n : ℕ) → IsListed ranks rank → StandsOn s entries rank j → slice_get s.known j ≡ Some n → IsCovered s.known entries ranks n

-- so they are, each once, as far as what the first of them, so many, stand on
pub record AreNeededTo (s : Closure) (entries : List ℕ) (goal : ℕ) (ranks : List ℕ) (count : ℕ) : Type 0 where
  pub itself : (n : ℕ) → slice_get s.known goal ≡ Some n → IsCovered s.known entries ranks n
  pub needed : (rank : ℕ) → IsListed ranks rank → IsNeededNew s entries goal rank
  pub closed : (k rank j n : ℕ) → k < count → slice_get ranks k ≡ Some rank → StandsOn s entries rank j → slice_get s.known j ≡ Some n
      → IsCovered s.known entries ranks n
  pub once : StandOnce ranks

-- at these places of the list stand these numbers
pub record ArePlaces (items numbers places : List ℕ) : Type 0 where
  pub count : length places ≡ length numbers
  pub each : (k n : ℕ) → slice_get numbers k ≡ Some n → (p : ℕ) × (slice_get places k ≡ Some p) × (slice_get items p ≡ Some n)

-- the second line stands on places where the first stands on numbers
abbrev pub IsLineOver : List ℕ → Line → Line → Type 0
IsLineOver items (Public a) line = line ≡ Public a
IsLineOver items (Apply f numbers) line = (places : List ℕ) × (line ≡ Apply f places) × ArePlaces items numbers places

-- the lines give these numbers, all needed, each behind the entries and those before it, none of which it is
pub data IsWritten (s : Closure) (entries : List ℕ) (goal : ℕ) : List Line → List ℕ → Type 0 where
  no_lines : IsWritten s entries goal [] []
  one_more : (lines : List Line) (found : List ℕ) (rank c : ℕ) (clause : Clause) (line : Line) → IsWritten s entries goal lines found
      → IsNeeded s entries goal rank → slice_get s.known rank ≡ Some clause.gives → slice_get s.clauses c ≡ Some clause
      → ¬ IsListed (entries ++ found) clause.gives → IsLineOver (entries ++ found) clause.line line
      → IsWritten s entries goal (lines ++ line ∷ []) (found ++ clause.gives ∷ [])

-- at one rank nothing is written, since its number stands in the list; or the line that gives it
pub data Writes (s : Closure) (rank : ℕ) (items : List ℕ) (lines : List Line) (new_items : List ℕ) (new_lines : List Line) : Type 0 where
  there : (n : ℕ) → slice_get s.known rank ≡ Some n → IsListed items n → new_items ≡ items → new_lines ≡ lines → Writes s rank items lines new_items new_lines
  one_line : (c : ℕ) (clause : Clause) (line : Line) → slice_get s.known rank ≡ Some clause.gives
      → slice_get s.clauses c ≡ Some clause → ¬ IsListed items clause.gives → IsLineOver items clause.line line
      → new_items ≡ items ++ clause.gives ∷ [] → new_lines ≡ lines ++ line ∷ [] → Writes s rank items lines new_items new_lines

-- at the first of these ranks, so many, all is written
pub record IsWrittenTo (s : Closure) (entries : List ℕ) (goal : ℕ) (ranks : List ℕ) (count : ℕ) (items : List ℕ) (lines : List Line) : Type 0 where
  pub found : List ℕ
  pub are : items ≡ entries ++ found
  pub written : IsWritten s entries goal lines found
  pub done : (k j n : ℕ) → k < count → slice_get ranks k ≡ Some j → slice_get s.known j ≡ Some n → IsListed items n
