-- How far a run was read in pieces.
use Rattle.std.specs.Prelude.{◌≡◌, ◌≢◌, ◌≤◌, ◌+◌, ℕ, min, List, [], ◌∷◌, ◌++◌, length, replicate, All, slice_get, Option, None, Some}
use Rattle.std.specs.Io.KnownBytes.{Consumes}
use Rattle.std.specs.List.{concat}
use Rattle.sap_run_texts.specs.RunReading.{Reading, StandsFor}
use Rattle.sap_outside.specs.Outside.{piece_bytes, IsNextPart}
use Rattle.sap_outside.specs.Requests.{Request, next, Requested}
use Rattle.sap_outside.specs.RunPieces.{most_run_bytes, IsReadUp, ArePieces}

-- how many bytes these are, and the first of them
abbrev pub IsTallyOf : List ℕ → ℕ → Option ℕ → Type 0
IsTallyOf z given first = (given ≡ length z) × (first ≡ slice_get z 0)

-- a reader of runs was fed these bytes
pub record IsFed (old new : Reading) (z : List ℕ) : Type 0 where
  pub kinds : new.kinds ≡ old.kinds
  pub stands : (before : List ℕ) → StandsFor old before → StandsFor new (before ++ z)

-- a reader was fed a piece of the rest of a file, and the tally of what was read went on by it
pub record IsPieceFed (rest left : Option (List ℕ)) (old new : Reading) (given : ℕ) (first : Option ℕ) (given_after : ℕ) (first_after : Option ℕ) : Type 0 where
  pub piece : List ℕ
  pub small : length piece ≤ piece_bytes
  pub part : IsNextPart rest left piece
  pub fed : IsFed old new piece
  pub tally : (z : List ℕ) → IsTallyOf z given first → IsTallyOf (z ++ piece) given_after first_after

-- for so many pieces
abbrev pub nexts : ℕ → List Request
nexts n = replicate n (next piece_bytes)

-- pieces that came before the end: all but the last are no more than a run may have
pub data AreWithin : List (List ℕ) → Type 0 where
  none_yet : AreWithin []
  all_but : (before : List (List ℕ)) (last : List ℕ) → length (concat before) ≤ most_run_bytes → AreWithin (before ++ last ∷ [])

-- these bytes came in pieces that each have some, and for each of these a shelf was asked once
pub record HaveCome (z : List ℕ) (asked_before asked_after : Option (List Request)) : Type 0 where
  pub came : List (List ℕ)
  pub whole : z ≡ concat came
  pub small : All (λ (piece : List ℕ). length piece ≤ piece_bytes) came
  pub some : All (λ (piece : List ℕ). piece ≢ []) came
  pub within : AreWithin came
  pub asked : Requested (nexts (length came)) asked_before asked_after

-- a reader was fed what a file has lost since, this is its tally, and so a shelf was asked
pub record ArePiecesFed (file left : Option (List ℕ)) (old new : Reading) (given : ℕ) (first : Option ℕ) (asked_before asked_after : Option (List Request)) : Type 0 where
  pub z : List ℕ
  pub small : given ≤ most_run_bytes + piece_bytes
  pub part : Consumes file left z
  pub fed : IsFed old new z
  pub tally : IsTallyOf z given first
  pub come : HaveCome z asked_before asked_after

-- first bytes of a file, where it is told, as many as are read of a run
abbrev pub IsReadUpWhereTold : Option (List ℕ) → List ℕ → Type 0
IsReadUpWhereTold None z = Unit {0}
IsReadUpWhereTold (Some file) z = IsReadUp file z

-- a reader was fed as much of a file as is read of a run, in these pieces, this is its tally, and so a shelf was asked
pub record IsRunFed (file : Option (List ℕ)) (old new : Reading) (given : ℕ) (first : Option ℕ) (asked_before asked_after : Option (List Request)) : Type 0 where
  pub z : List ℕ
  pub small : given ≤ most_run_bytes + piece_bytes
  pub part : IsReadUpWhereTold file z
  pub fed : IsFed old new z
  pub tally : IsTallyOf z given first
  pub pieces : List (List ℕ)
  pub are : ArePieces pieces
  pub whole : z ≡ concat pieces
  pub asked : Requested (nexts (length pieces)) asked_before asked_after

-- how many bytes of the rest of a file may have come before the last piece of it was asked for, by what is told of it
abbrev pub may_come_of : Option (List ℕ) → ℕ
may_come_of None = most_run_bytes
may_come_of (Some rest) = min most_run_bytes (length rest)

-- a shelf was asked for pieces, so many at most
pub record WasAsked (most : ℕ) (asked_before asked_after : Option (List Request)) : Type 0 where
  pub times : ℕ
  pub few : times ≤ most
  pub asked : Requested (nexts times) asked_before asked_after
