-- The bytes of a run, which are read in pieces, and what is answered of them.
use Rattle.std.specs.Prelude.{◌≡◌, ◌≢◌, ◌≤◌, ◌<◌, ◌+◌, ◌⊎◌, ℕ, min, List, [], ◌∷◌, ◌++◌, length, All, Option, None, Some, IsSomeAnd, Result, Ok, Err}
use Rattle.std.specs.FinMap as map
use Rattle.std.specs.List.{concat}
use Rattle.sap_run_texts.specs.declared.run.Kinds.{Kinds}
use Rattle.sap_run_texts.specs.declared.run.Run.{Run}
use Rattle.sap_run_texts.specs.declared.run_fault.RunFault.TheVariants as fault
use Rattle.sap_run_texts.specs.declared.limits.TheConstants.{MOST_PROCESS_STEPS, MOST_RULE_STEPS}
use Rattle.sap_run_texts.specs.RunTexts.{IsHeaded, process_head, rule_head, IsRunRead}
use Rattle.sap_outside.specs.declared.run_refusal.RunRefusal.{RunRefusal}
use Rattle.sap_outside.specs.declared.run_refusal.RunRefusal.TheVariants as refusal
use Rattle.sap_outside.specs.Outside.{Files, piece_bytes}
use Rattle.sap_outside.specs.Requests.{Request, Requested, for_run}

-- how many bytes a run may have, and most of all that may be fetched
abbrev pub most_run_bytes : ℕ
most_run_bytes = 16777216

-- first bytes of a file: all of them, unless they are more than a run may have, and then by one piece at most
pub record IsReadUp (file z : List ℕ) : Type 0 where
  pub left : List ℕ
  pub part : file ≡ z ++ left
  pub whole : length z ≤ most_run_bytes → left ≡ []
  pub short : length z ≤ most_run_bytes + piece_bytes

-- the joined pieces that reading a run of this name may give, by what the shelf tells
abbrev pub IsJoined : Option Files → List ℕ → List ℕ → Type 0
IsJoined None name z = length z ≤ most_run_bytes + piece_bytes
IsJoined (Some files) name z = IsSomeAnd (map.get files name) (λ file. IsReadUp file z)

-- how many bytes these are, where there are some
abbrev pub held_length : Option (List ℕ) → ℕ
held_length None = 0
held_length (Some z) = length z

-- how many bytes of a run of this name may have come before its last piece was asked for, by what the shelf tells; none where
-- it isn't held
abbrev pub may_come : Option Files → List ℕ → ℕ
may_come None name = most_run_bytes
may_come (Some files) name = min most_run_bytes (held_length (map.get files name))

-- the pieces of a run as they were given: each has so many bytes at most, each but the last has some, and all but the last are no more
-- than a run may have; the last one is empty, or with it they are more
pub record ArePieces (pieces : List (List ℕ)) : Type 0 where
  pub before : List (List ℕ)
  pub last : List ℕ
  pub parted : pieces ≡ before ++ last ∷ []
  pub small : All (λ (piece : List ℕ). length piece ≤ piece_bytes) pieces
  pub some : All (λ (piece : List ℕ). piece ≢ []) before
  pub within : length (concat before) ≤ most_run_bytes
  pub ends : (last ≡ []) ⊎ (most_run_bytes < length (concat pieces))

-- reading the run of this name may give these bytes, and behind the first of these requests the shelf was asked to open it, once, and
-- for the pieces of these bytes, and for nothing else
pub record WasRead (holds : Option Files) (name : List ℕ) (first : List Request)
    (asked_before asked_after : Option (List Request)) (z : List ℕ) : Type 0 where
  pub joined : IsJoined holds name z
  pub pieces : List (List ℕ)
  pub are : ArePieces pieces
  pub whole : z ≡ concat pieces
  pub asked : Requested (first ++ for_run name (length pieces)) asked_before asked_after

-- reading the run of this name was given up, and behind the first of these requests the shelf was asked to open it, once, for pieces, one
-- more at most than bytes may have come, and for nothing else
pub record WasGivenUp (holds : Option Files) (name : List ℕ) (first : List Request)
    (asked_before asked_after : Option (List Request)) : Type 0 where
  pub nexts : ℕ
  pub few : nexts ≤ may_come holds name + 1
  pub asked : Requested (first ++ for_run name nexts) asked_before asked_after

-- what is answered of these bytes, where runs of this kind are asked for: the run; or why they are none, which is that they are
-- too many, whatever else is wrong, or what their reader says, and for too many steps how many a run of its kind may have
pub data IsRunAnswer (kinds : Kinds) (z : List ℕ) : Result Run RunRefusal → Type 0 where
  is_run : {run : Run} → length z ≤ most_run_bytes → IsRunRead kinds z (Ok run)
      → IsRunAnswer kinds z (Ok run)
  too_long : most_run_bytes < length z → IsRunAnswer kinds z (Err refusal.TooLong)
  bad_head : length z ≤ most_run_bytes → IsRunRead kinds z (Err fault.BadHead)
      → IsRunAnswer kinds z (Err refusal.BadHead)
  bad_line : {line : ℕ} → length z ≤ most_run_bytes → IsRunRead kinds z (Err (fault.BadLine line))
      → IsRunAnswer kinds z (Err (refusal.BadLine line))
  too_many_of_process : {body : List ℕ} → length z ≤ most_run_bytes → IsHeaded process_head body z
      → IsRunRead kinds z (Err fault.TooManySteps)
      → IsRunAnswer kinds z (Err (refusal.TooManySteps MOST_PROCESS_STEPS))
  too_many_of_rules : {body : List ℕ} → length z ≤ most_run_bytes → IsHeaded rule_head body z
      → IsRunRead kinds z (Err fault.TooManySteps)
      → IsRunAnswer kinds z (Err (refusal.TooManySteps MOST_RULE_STEPS))
