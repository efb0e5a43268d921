-- Which answers a call may have, and why.
use Rattle.std.specs.Prelude.{◌≡◌, ℕ, List, [], ◌∷◌, ◌++◌, Option, None, Some, IsSomeAnd, IfSome}
use Rattle.sap_outside.specs.Outside.{Files, IsFetched}
use Rattle.sap_outside.specs.Requests.{Request, Requested, fetch}
use Rattle.sap_outside.specs.Stream.{Stream}
use Rattle.sap_answer.specs.Answer.{Answer, gives, tells, usage_text, read_fault_text, IsPut, IsUnanswered}
use Rattle.sap_tool.specs.Call.{Call, FailedOn, AskedFor}
use Rattle.sap_tool.specs.Commands.{Command, Input, alone, and_run, run_alone, spelled, file_of, run_of, HowRead, in_pieces, at_once, how_read, limit_of, IsUnknown, Accepts, Refuses, RefusesRun, Allows}
use Rattle.sap_refusals.specs.Refusals.{refused_line}
use Rattle.sap_outside.specs.RunPieces.{most_run_bytes, WasRead, WasGivenUp}
use Rattle.sap_refusals.specs.RunFaultTexts.{run_refused_line}
use Rattle.sap_tool.specs.ToldAtOnce.{IsToldAtOnce}

-- a command's answers to what it read: a text that is allowed; a file that is refused, before a run is read; a run that is refused
pub data IsAnswerTo (k : Command) : Input → Answer → Type 0 where
  allowed : {input : Input} {text : List ℕ} → Allows k input text
      → IsAnswerTo k input (gives text)
  refused : {bytes : List ℕ} (why : List ℕ) → Refuses k bytes why
      → IsAnswerTo k (alone bytes) (tells 1 (refused_line why))
  run_refused : {input : Input} (why : List ℕ) → RefusesRun k input why
      → IsAnswerTo k input (tells 2 (run_refused_line why))

-- the words ask for this command
abbrev pub Asks : Call → Command → Type 0
Asks c k = c.words ≡ spelled k

-- to fetch what has this name, where there is one, under this limit
abbrev pub for_name : Option (List ℕ) → ℕ → List Request
for_name None limit = []
for_name (Some name) limit = fetch name limit ∷ []

-- to fetch what the command fetches, and nothing else
abbrev pub for_file : Command → List Request
for_file k = for_name (file_of k) (limit_of k)

-- the command fetches, and these are bytes that this may give, by what the shelf tells
abbrev pub IsFileFetched : Call → Command → List ℕ → Type 0
IsFileFetched c k bytes = IsSomeAnd (file_of k) (λ name. IsFetched c.before.holds name (limit_of k) bytes)

-- reading the run of this name so may give these bytes, by what the shelf tells, and behind the first of these requests the shelf was
-- asked for it, and for nothing else
abbrev pub WasReadSo : HowRead → Option Files → List ℕ → List Request → Option (List Request)
    → Option (List Request) → List ℕ → Type 0
WasReadSo in_pieces holds run first before after z = WasRead holds run first before after z
WasReadSo at_once holds run first before after z =
    IsFetched holds run most_run_bytes z
    × Requested (first ++ fetch run most_run_bytes ∷ []) before after

-- reading it so was given up, and the shelf was asked for it in the same way
abbrev pub WasGivenUpSo : HowRead → Option Files → List ℕ → List Request → Option (List Request)
    → Option (List Request) → Type 0
WasGivenUpSo in_pieces holds run first before after = WasGivenUp holds run first before after
WasGivenUpSo at_once holds run first before after =
    Requested (first ++ fetch run most_run_bytes ∷ []) before after

-- the command reads a run, and these are bytes that this may give, by what the shelf tells; the shelf was asked for the file, where
-- the command has one, then for the run, and for nothing else
abbrev pub WasRunRead : Call → Command → List ℕ → Type 0
WasRunRead c k z =
    IsSomeAnd (run_of k) (λ run.
    WasReadSo (how_read k) c.before.holds run (for_file k) c.before.asked c.after.asked z)

-- this is what the command may have read, by what the shelf tells, and the shelf was asked for nothing else
abbrev pub Fetched : Call → Command → Input → Type 0
Fetched c k (alone bytes) = IsFileFetched c k bytes × AskedFor c (for_file k)
Fetched c k (and_run bytes z) = IsFileFetched c k bytes × WasRunRead c k z
Fetched c k (run_alone z) = WasRunRead c k z

-- it is the run's turn: the command fetches nothing, or it accepts bytes that this may give
abbrev pub IsRunNext : Call → Command → Type 0
IsRunNext c k =
    IfSome (file_of k) (λ name.
    (bytes : List ℕ) × IsFetched c.before.holds name (limit_of k) bytes × Accepts k bytes)

-- the count of faults of what the command fetches rose
abbrev pub FailedOnFile : Call → Command → Type 0
FailedOnFile c k = IsSomeAnd (file_of k) (λ name. FailedOn c name)

-- so it is with the run
abbrev pub FailedOnRun : Call → Command → Type 0
FailedOnRun c k = IsSomeAnd (run_of k) (λ run. FailedOn c run)

-- reading the run was given up, and the shelf was asked for the file, where the command has one, for the run or pieces of it, and
-- for nothing else
abbrev pub WasRunGivenUp : Call → Command → Type 0
WasRunGivenUp c k =
    IsSomeAnd (run_of k) (λ run.
    WasGivenUpSo (how_read k) c.before.holds run (for_file k) c.before.asked c.after.asked)

-- the answers that a call may have, each with its cause
pub data IsAnswer (c : Call) : Answer → Type 0 where
  to_input : {a : Answer} (k : Command) (input : Input) → Asks c k → Fetched c k input
      → IsAnswerTo k input a → IsAnswer c a
  told_at_once : (text : List ℕ) → IsToldAtOnce c.words text → c.after.asked ≡ c.before.asked
      → IsAnswer c (gives text)
  usage : IsUnknown c.words → c.after.asked ≡ c.before.asked → IsAnswer c (tells 3 usage_text)
  unread : (k : Command) → Asks c k → FailedOnFile c k → AskedFor c (for_file k)
      → IsAnswer c (tells 4 read_fault_text)
  unread_run : (k : Command) → Asks c k → IsRunNext c k → FailedOnRun c k → WasRunGivenUp c k
      → IsAnswer c (tells 4 read_fault_text)

-- what the shelf was asked for where memory was wanting before there was an answer: nothing; or the file that the words ask for alone;
-- or, behind a file that is accepted, where there is one, the run, up to where that was given up, or whole
pub data IsBegun (c : Call) : Type 0 where
  asked_nothing : c.after.asked ≡ c.before.asked → IsBegun c
  asked_file : (k : Command) → Asks c k → AskedFor c (for_file k) → IsBegun c
  asked_run : (k : Command) → Asks c k → IsRunNext c k → WasRunGivenUp c k → IsBegun c
  asked_both : (k : Command) (z : List ℕ) → Asks c k → IsRunNext c k → WasRunRead c k z → IsBegun c

-- one of these answers was put; or memory was wanting before there was one, where this is so, and err has the last word
pub data Ended (P : Answer → Type 0) (Begun : Type 0) (out err : Stream) (status : ℕ) : Type 0 where
  answered : (a : Answer) → P a → IsPut a out err status → Ended P Begun out err status
  unanswered : Begun → IsUnanswered out err status → Ended P Begun out err status
