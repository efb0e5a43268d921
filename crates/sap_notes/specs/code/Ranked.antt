-- The notes of some kinds, and two such lists as one.
use Rattle.std.specs.Prelude.{◌≤◌, ◌<◌, ℕ, Bool, ◌&&◌, ◌||◌, nat_eq, nat_lt, List, [], ◌∷◌, ◌++◌, Contains, length, if◌then◌else◌}
use Rattle.sap_stretches.specs.Stretches.{IsInBytes}
use Rattle.sap_notes.specs.Notes.{AreAscending, IsNote, rank}
use Rattle.sap_stretches.specs.declared.stretch.Stretch.{Stretch}
use Rattle.sap_notes.specs.declared.note.Kind.{Kind}
use Rattle.sap_notes.specs.declared.note.Note.{Note}

-- these are the notes that are true of the file whose kinds have ranks from the first number to before the second, all of them, in the
-- order of the file, and they stand in its bytes
pub record AreRanked (low high : ℕ) (z : List ℕ) (ns : List Note) : Type 0 where
  pub order : AreAscending ns
  pub are : (n : Note) → Contains ns n → IsNote z n
  pub kinds : (n : Note) → Contains ns n → (low ≤ rank n.kind) × (rank n.kind < high)
  pub all : (n : Note) → IsNote z n → low ≤ rank n.kind → rank n.kind < high → Contains ns n
  pub inside : (n : Note) → Contains ns n → IsInBytes (length z) n.word

-- a note of this kind at a stretch
abbrev pub note_of : Kind → Stretch → Note
note_of kind s = record { kind = kind; word = s }

-- the first note stands before the second
abbrev pub comes_before : Note → Note → Bool
comes_before n m =
    nat_lt n.word.from m.word.from || (nat_eq n.word.from m.word.from && nat_lt (rank n.kind) (rank m.kind))

-- those that stand before this one, up to the first that doesn't, and those from that on
abbrev pub ahead_of : Note → List Note → List Note
ahead_of n [] = []
ahead_of n (m ∷ ms) = if comes_before m n then m ∷ ahead_of n ms else []

abbrev pub from_there : Note → List Note → List Note
from_there n [] = []
from_there n (m ∷ ms) = if comes_before m n then from_there n ms else m ∷ ms

-- both lists as one
abbrev pub merged : List Note → List Note → List Note
merged [] ms = ms
merged (n ∷ ns) ms = ahead_of n ms ++ (n ∷ merged ns (from_there n ms))
