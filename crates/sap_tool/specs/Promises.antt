-- What the program promises of each call.
use Rattle.std.specs.Prelude.{◌≡◌, ◌⊎◌, ℕ, List, [], ◌∷◌, Contains, None, IsSomeAnd}
use Rattle.sap_outside.specs.Stream.{Gained, Failed, CutShort}
use Rattle.sap_tool.specs.Call.{Call, FailedOn, Holds}
use Rattle.sap_tool.specs.Commands.{Command, Input, alone, and_run, run_alone, compile, file_of, run_of, IsUnknown, Refuses, RefusesRun, TakesRun, Allows, Means}
use Rattle.sap_answer.specs.Answer.{Answer, tells, Part, Broken, Starved, CutLast, IsLast, write_fault_text, memory_text}
use Rattle.sap_tool.specs.Answers.{IsAnswer, Asks, Fetched, FailedOnFile, FailedOnRun, IsBegun}
use Rattle.sap_outside.specs.Pieces.{pieces}
use Rattle.sap_refusals.specs.Refusals.{refused_line}
use Rattle.sap_refusals.specs.RunFaultTexts.{run_refused_line}
use Rattle.sap_tool.specs.ToldAtOnce.{IsToldAtOnce}
use Rattle.sap_replay.specs.declared.way.Way.{Way}

-- the shelf tells that it holds these bytes as what the command fetches
abbrev pub HoldsFile : Call → Command → List ℕ → Type 0
HoldsFile c k bytes = IsSomeAnd (file_of k) (λ name. Holds c.before.holds name bytes)

-- it tells that it holds these as the run
abbrev pub HoldsRun : Call → Command → List ℕ → Type 0
HoldsRun c k z = IsSomeAnd (run_of k) (λ run. Holds c.before.holds run z)

-- the shelf tells that it holds what the command reads
abbrev pub HoldsInput : Call → Command → Input → Type 0
HoldsInput c k (alone bytes) = HoldsFile c k bytes × (run_of k ≡ None)
HoldsInput c k (and_run bytes z) = HoldsFile c k bytes × HoldsRun c k z
HoldsInput c k (run_alone z) = (file_of k ≡ None) × HoldsRun c k z

-- a cause refuses the file that was read, where there is one
abbrev pub RefusesFile : Command → Input → List ℕ → Type 0
RefusesFile k (alone bytes) why = Refuses k bytes why
RefusesFile k (and_run bytes z) why = Refuses k bytes why
RefusesFile k (run_alone z) why = ⊥

-- a cause refuses the file, or the run
abbrev pub RefusesInput : Command → Input → List ℕ → Type 0
RefusesInput k input why = RefusesFile k input why ⊎ RefusesRun k input why

-- the count of faults rose of a name that the command reads
abbrev pub FailedOnNamed : Call → Command → Type 0
FailedOnNamed c k = FailedOnFile c k ⊎ FailedOnRun c k

-- out gained a text that the command allows for what was fetched, with what it means, and nothing was put on err
pub record Given (c : Call) : Type 0 where
  pub command : Command
  pub input : Input
  pub text : List ℕ
  pub asked : Asks c command
  pub fetched : Fetched c command input
  pub allowed : Allows command input text
  pub means : Means command input text
  pub out : Gained c.out (pieces text) text
  pub err : Gained c.err 0 []

-- out gained the text that is told at once where the words ask for it, the shelf was asked for nothing, and nothing was put on err
pub record GivenAtOnce (c : Call) : Type 0 where
  pub text : List ℕ
  pub asked : IsToldAtOnce c.words text
  pub fetched : c.after.asked ≡ c.before.asked
  pub out : Gained c.out (pieces text) text
  pub err : Gained c.err 0 []

-- err was told, at once, the text of this status, for one of its causes, and nothing was put on out
pub record Told (c : Call) (status : ℕ) : Type 0 where
  pub text : List ℕ
  pub cause : IsAnswer c (tells status text)
  pub out : Gained c.out 0 []
  pub err : Gained c.err 1 text

-- the count of faults rose of the sink that an answer belongs on, which has a first part of it; and err has the last word, whole
-- unless its put was cut short too
pub record Unwritten (c : Call) : Type 0 where
  pub answer : Answer
  pub cause : IsAnswer c answer
  pub broken : Broken answer c.out c.err
  pub taken : ℕ
  pub last : List ℕ
  pub part : Part answer taken last c.out c.err
  pub word : IsLast (CutLast answer c.err) write_fault_text last

-- err has the last word, whole unless its put was cut short, out has nothing, and the shelf was asked for no more than the call begins
-- with, where there was no answer yet; or the sink that an answer belongs on counted a want of memory, and has a first part of it
pub data Wanting (c : Call) : Type 0 where
  before_all : (last : List ℕ) → IsBegun c → Gained c.out 0 [] → Gained c.err 1 last
      → IsLast (CutShort c.err) memory_text last → Wanting c
  while_put : (a : Answer) (taken : ℕ) (last : List ℕ) → IsAnswer c a → Starved a c.out c.err
      → Part a taken last c.out c.err
      → IsLast (CutLast a c.err) memory_text last → Wanting c

-- the words ask for nothing; or the shelf tells that it holds a file that a cause refuses; or a run that a cause refuses, and the file
-- that belongs to it, where there is one, is accepted
pub data IsRefusedCall (c : Call) : Type 0 where
  unknown : IsUnknown c.words → IsRefusedCall c
  of_file : (k : Command) (bytes why : List ℕ) → Asks c k → HoldsFile c k bytes
      → Refuses k bytes why → IsRefusedCall c
  of_run : (k : Command) (input : Input) (why : List ℕ) → Asks c k → HoldsInput c k input
      → RefusesRun k input why → IsRefusedCall c

-- Each status comes only with its cause and with what it leaves on the two sinks, and the last fields say when 0, 1, 2 and 3 must
-- come, and when out has nothing.
pub record Promises (c : Call) (status : ℕ) : Type 0 where
  pub statuses : Contains (0 ∷ 1 ∷ 2 ∷ 3 ∷ 4 ∷ 5 ∷ 6 ∷ []) status
  pub given : status ≡ 0 → Given c ⊎ GivenAtOnce c
  pub refused : status ≡ 1 → Told c 1
  pub refused_run : status ≡ 2 → Told c 2
  pub usage : status ≡ 3 → Told c 3
  pub unread : status ≡ 4 → Told c 4
  pub unwritten : status ≡ 5 → Unwritten c
  pub wanting : status ≡ 6 → Wanting c
  -- where no put on err was cut short, 5 and 6 leave their word there, and nothing else
  pub last_word : (CutShort c.err → ⊥) → (status ≡ 5 → Gained c.err 1 write_fault_text)
      × (status ≡ 6 → Gained c.err 1 memory_text)
  -- for words that ask for nothing
  pub must_tell_usage : IsUnknown c.words → (status ≡ 3) ⊎ ((status ≡ 5) × Failed c.err)
      ⊎ (status ≡ 6)
  -- for a file that a cause refuses, whatever the run
  pub must_refuse : (k : Command) (bytes why : List ℕ) → Asks c k → HoldsFile c k bytes
      → Refuses k bytes why
      → ((status ≡ 1) × Gained c.err 1 (refused_line why)) ⊎ ((status ≡ 4) × FailedOnFile c k)
      ⊎ ((status ≡ 5) × Failed c.err) ⊎ (status ≡ 6)
  -- for a run that a cause refuses, where its file, if it has one, is accepted
  pub must_refuse_run : (k : Command) (input : Input) (why : List ℕ) → Asks c k
      → HoldsInput c k input → RefusesRun k input why
      → ((status ≡ 2) × Gained c.err 1 (run_refused_line why))
      ⊎ ((status ≡ 4) × FailedOnNamed c k) ⊎ ((status ≡ 5) × Failed c.err) ⊎ (status ≡ 6)
  -- for what is read and no cause refuses
  pub must_answer : (k : Command) (input : Input) → Asks c k → HoldsInput c k input
      → ((why : List ℕ) → RefusesInput k input why → ⊥)
      → (FailedOnNamed c k → ⊥) → (Failed c.out → ⊥) → (status ≡ 0) ⊎ (status ≡ 6)
  -- for a run that is legal, where its file, if it has one, is accepted
  pub must_take : (k : Command) (input : Input) → Asks c k → HoldsInput c k input
      → TakesRun k input
      → (FailedOnNamed c k → ⊥) → (Failed c.out → ⊥) → (status ≡ 0) ⊎ (status ≡ 6)
  -- for a file with a theory: it is its text
  pub must_give : (way : Way) (file bytes text : List ℕ) → Asks c (compile way file)
      → Holds c.before.holds file bytes → Allows (compile way file) (alone bytes) text
      → (FailedOn c file → ⊥) → (Failed c.out → ⊥)
      → ((status ≡ 0) × Gained c.out (pieces text) text) ⊎ (status ≡ 6)
  -- for words that ask for a text that is told at once: it is this text
  pub must_tell : (text : List ℕ) → IsToldAtOnce c.words text → (Failed c.out → ⊥)
      → ((status ≡ 0) × Gained c.out (pieces text) text) ⊎ (status ≡ 6)
  -- where the words, a file or a run are refused, out has nothing, whatever the status
  pub nothing_out : IsRefusedCall c → Gained c.out 0 []
