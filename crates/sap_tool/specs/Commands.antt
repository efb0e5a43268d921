-- What the program is asked for, and what a command reads, refuses and allows, and what it means by that.
use Rattle.std.specs.Prelude.{◌≡◌, ℕ, codes, List, [], ◌∷◌, Option, Some, None, Ok}
use Rattle.sap_read.specs.Files.{FileContent}
use Rattle.sap_rule.specs.declared.theory.Theory.{Theory}
use Rattle.sap_run_texts.specs.declared.run.Kinds.TheVariants.{Rules, Either}
use Rattle.sap_run_texts.specs.declared.run.Run.{Run}
use Rattle.sap_outside.specs.RunPieces.{most_run_bytes, IsRunAnswer}
use Rattle.sap_replay.specs.declared.task.Task.{Task}
use Rattle.sap_replay.specs.declared.task.Task.TheVariants.{ToRules, ToProcess, Judge, Tell, Chart}
use Rattle.sap_replay.specs.declared.way.Way.{Way}
use Rattle.sap_replay.specs.declared.way.Way.TheVariants.{Plain, Inlined, Short}
use Rattle.sap_replay.specs.Tasks.{kinds_of, Writes, Says}
use Rattle.sap_replay.specs.AcceptedFile.{most_bytes, IsAcceptedFile, IsRefusedWith, IsTheoryOf}
use Rattle.sap_replay.specs.AcceptedTheory.{most_theory_bytes, IsAcceptedTheory, IsTheoryRefusedWith}
use Rattle.sap_replay.specs.JsonRuns.{IsAcceptedJson, IsJsonRefusedWith, IsJsonOf, IsReadAsJson, IsRunOfJson, IsReadAsRun}
use Rattle.sap_tool.specs.Meaning.{IsFaithfulText}
use Rattle.sap_tool.specs.WhyTexts.{IsWhyText, IsToldWhy}
use Rattle.sap_tool.specs.AcceptedRuns.{IsReplayed, IsChecked, IsLegalOfFile, IsLegalOfTheory, IsFilledText, IsLegalShortOfFile, IsLegalFilling}
use Rattle.sap_replay.specs.RunRefusals.{IsIllegal, IsIllegalOfTheory, IsNeverIllegal, IsRunRefusedWith}
use Rattle.sap_replay.specs.ShortRuns.{IsShortRefusedWith}
use Rattle.sap_tool.specs.ToldAtOnce.{IsToldAtOnce}

-- what words may ask for, aside from a text that is told at once, for which nothing is read
pub data Command : Type 0 where
  -- the theory of a file, written in this way
  compile : (way : Way) (file : List ℕ) → Command
  -- this task on a run of a file
  replay : (task : Task) (file run : List ℕ) → Command
  -- the run of a file that this short run stands for
  fill : (file run : List ℕ) → Command
  -- what a theory says of a run of its rules
  check : (theory run : List ℕ) → Command
  -- this run as JSON
  to_json : (run : List ℕ) → Command
  -- the run that this JSON is
  from_json : (json : List ℕ) → Command
  -- whether a file is accepted, or why not, where, and what to change
  explain : (file : List ℕ) → Command

-- the word that asks for a theory in this way
abbrev pub word_of_way : Way → List ℕ
word_of_way Plain = codes "compile"
word_of_way Inlined = codes "compile-inline"
word_of_way Short = codes "compile-short"

-- the word that asks for this task
abbrev pub word_of_task : Task → List ℕ
word_of_task ToRules = codes "to-rules"
word_of_task ToProcess = codes "to-process"
word_of_task Judge = codes "judge"
word_of_task Tell = codes "tell"
word_of_task Chart = codes "chart"

-- how a run is read: piece by piece; or fetched at once, as a file is
pub data HowRead : Type 0 where
  in_pieces : HowRead
  at_once : HowRead

-- what a command reads: what it fetches, alone or with a run behind it; or a run alone
pub data Input : Type 0 where
  alone : (bytes : List ℕ) → Input
  and_run : (bytes z : List ℕ) → Input
  run_alone : (z : List ℕ) → Input

-- it is what is fetched alone, and this is so of it
abbrev pub IsAlone : (List ℕ → Type 0) → Input → Type 0
IsAlone P (alone bytes) = P bytes
IsAlone P (and_run bytes z) = ⊥
IsAlone P (run_alone z) = ⊥

-- it is what is fetched with a run behind it, and this is so of both
abbrev pub IsWithRun : (List ℕ → List ℕ → Type 0) → Input → Type 0
IsWithRun P (alone bytes) = ⊥
IsWithRun P (and_run bytes z) = P bytes z
IsWithRun P (run_alone z) = ⊥

-- it is a run alone, and this is so of it
abbrev pub IsRunAlone : (List ℕ → Type 0) → Input → Type 0
IsRunAlone P (alone bytes) = ⊥
IsRunAlone P (and_run bytes z) = ⊥
IsRunAlone P (run_alone z) = P z

-- what a command does
pub record Behaviour : Type 1 where
  -- the words that ask for it
  pub words : List (List ℕ)
  -- what it fetches first, where it does so: a file, a theory, or JSON
  pub file : Option (List ℕ)
  -- how many bytes this may have
  pub limit : ℕ
  -- the run that it reads then
  pub run : Option (List ℕ)
  -- how it reads its run, where it has one: a short run at once, any other in pieces
  pub how : HowRead
  -- it refuses a file or theory of these bytes for this cause; what has neither refuses none, nor does what says why a file is refused
  pub Refuses : List ℕ → List ℕ → Type 0
  -- it accepts them
  pub Accepts : List ℕ → Type 0
  -- it accepts the file or theory that it read, where it has one, and refuses the run for this cause
  pub RefusesRun : Input → List ℕ → Type 0
  -- it takes the run: it accepts the file or theory that it read, where it has one, and the run is legal
  pub TakesRun : Input → Type 0
  -- it allows this text for what it read
  pub Allows : Input → List ℕ → Type 0
  -- what such a text means
  pub Means : Input → List ℕ → Type 0

-- what refuses nothing, accepts all, and has no run
abbrev pub no_cause : List ℕ → List ℕ → Type 0
no_cause bytes why = ⊥

abbrev pub each : List ℕ → Type 0
each bytes = Unit {0}

abbrev pub no_run_cause : Input → List ℕ → Type 0
no_run_cause input why = ⊥

abbrev pub no_run : Input → Type 0
no_run input = ⊥

-- the bytes are an accepted file, or theory
abbrev pub AcceptsFile : List ℕ → Type 0
AcceptsFile bytes = (told : FileContent) × IsAcceptedFile bytes told

abbrev pub AcceptsTheory : List ℕ → Type 0
AcceptsTheory bytes = (t : Theory) × IsAcceptedTheory bytes t

-- the theory of a file
abbrev pub compiling : Way → List ℕ → Behaviour
compiling way file = record {
  words = word_of_way way ∷ file ∷ [];
  file = Some file;
  limit = most_bytes;
  run = None;
  how = in_pieces;
  Refuses = IsRefusedWith;
  Accepts = AcceptsFile;
  RefusesRun = no_run_cause;
  TakesRun = no_run;
  Allows = λ input text. IsAlone (λ bytes. IsTheoryOf way bytes text) input;
  Means = λ input text. IsAlone (λ bytes. IsFaithfulText way bytes text) input;
}

-- a task on a run of a file
abbrev pub replaying : Task → List ℕ → List ℕ → Behaviour
replaying task file run = record {
  words = word_of_task task ∷ file ∷ run ∷ [];
  file = Some file;
  limit = most_bytes;
  run = Some run;
  how = in_pieces;
  Refuses = IsRefusedWith;
  Accepts = AcceptsFile;
  RefusesRun = λ input why. IsWithRun (λ bytes z. (told : FileContent) × IsAcceptedFile bytes told
      × IsRunRefusedWith (kinds_of task) (IsIllegal told) z why) input;
  TakesRun = λ input. IsWithRun (λ bytes z. IsLegalOfFile (kinds_of task) bytes z) input;
  Allows = λ input text. IsWithRun (λ bytes z. IsReplayed (kinds_of task) (Writes task bytes) bytes z text) input;
  Means = λ input text. IsWithRun (λ bytes z. IsReplayed (kinds_of task) (Says task bytes) bytes z text) input;
}

-- the run of a file that a short run stands for
abbrev pub filling : List ℕ → List ℕ → Behaviour
filling file run = record {
  words = codes "fill" ∷ file ∷ run ∷ [];
  file = Some file;
  limit = most_bytes;
  run = Some run;
  how = at_once;
  Refuses = IsRefusedWith;
  Accepts = AcceptsFile;
  RefusesRun = λ input why. IsWithRun (λ bytes z. (told : FileContent) × IsAcceptedFile bytes told
      × IsShortRefusedWith told z why) input;
  TakesRun = λ input. IsWithRun (λ bytes z. IsLegalShortOfFile bytes z) input;
  Allows = λ input text. IsWithRun (λ bytes z. IsFilledText bytes z text) input;
  Means = λ input text. IsWithRun (λ bytes z. IsLegalFilling bytes z text) input;
}

-- what a theory says of a run of its rules
abbrev pub checking : List ℕ → List ℕ → Behaviour
checking theory run = record {
  words = codes "check-rules" ∷ theory ∷ run ∷ [];
  file = Some theory;
  limit = most_theory_bytes;
  run = Some run;
  how = in_pieces;
  Refuses = IsTheoryRefusedWith;
  Accepts = AcceptsTheory;
  RefusesRun = λ input why. IsWithRun (λ bytes z. (t : Theory) × IsAcceptedTheory bytes t
      × IsRunRefusedWith Rules (IsIllegalOfTheory t) z why) input;
  TakesRun = λ input. IsWithRun (λ bytes z. IsLegalOfTheory bytes z) input;
  Allows = λ input text. IsWithRun (λ bytes z. IsChecked bytes z text) input;
  Means = λ input text. IsWithRun (λ bytes z. IsChecked bytes z text) input;
}

-- a run as JSON
abbrev pub writing_json : List ℕ → Behaviour
writing_json run = record {
  words = codes "to-json" ∷ run ∷ [];
  file = None;
  limit = 0;
  run = Some run;
  how = in_pieces;
  Refuses = no_cause;
  Accepts = each;
  RefusesRun = λ input why. IsRunAlone (λ z. IsRunRefusedWith Either IsNeverIllegal z why) input;
  TakesRun = λ input. IsRunAlone (λ z. (r : Run) × IsRunAnswer Either z (Ok r)) input;
  Allows = λ input text. IsRunAlone (λ z. IsJsonOf z text) input;
  Means = λ input text. IsRunAlone (λ z. IsReadAsJson z text) input;
}

-- the run that JSON is
abbrev pub reading_json : List ℕ → Behaviour
reading_json json = record {
  words = codes "from-json" ∷ json ∷ [];
  file = Some json;
  limit = most_run_bytes;
  run = None;
  how = in_pieces;
  Refuses = no_cause;
  Accepts = each;
  RefusesRun = λ input why. IsAlone (λ bytes. IsJsonRefusedWith bytes why) input;
  TakesRun = λ input. IsAlone (λ bytes. (r : Run) × IsAcceptedJson bytes r) input;
  Allows = λ input text. IsAlone (λ bytes. IsRunOfJson bytes text) input;
  Means = λ input text. IsAlone (λ bytes. IsReadAsRun bytes text) input;
}

-- whether a file is accepted, or why not
abbrev pub explaining : List ℕ → Behaviour
explaining file = record {
  words = codes "why" ∷ file ∷ [];
  file = Some file;
  limit = most_bytes;
  run = None;
  how = in_pieces;
  Refuses = no_cause;
  Accepts = each;
  RefusesRun = no_run_cause;
  TakesRun = no_run;
  Allows = λ input text. IsAlone (λ bytes. IsWhyText bytes text) input;
  Means = λ input text. IsAlone (λ bytes. IsToldWhy bytes text) input;
}

-- what each does
abbrev pub behaviour_of : Command → Behaviour
behaviour_of (compile way file) = compiling way file
behaviour_of (replay task file run) = replaying task file run
behaviour_of (fill file run) = filling file run
behaviour_of (check theory run) = checking theory run
behaviour_of (to_json run) = writing_json run
behaviour_of (from_json json) = reading_json json
behaviour_of (explain file) = explaining file

-- in a word each
abbrev pub spelled : Command → List (List ℕ)
spelled k = (behaviour_of k).words

abbrev pub file_of : Command → Option (List ℕ)
file_of k = (behaviour_of k).file

abbrev pub limit_of : Command → ℕ
limit_of k = (behaviour_of k).limit

abbrev pub run_of : Command → Option (List ℕ)
run_of k = (behaviour_of k).run

abbrev pub how_read : Command → HowRead
how_read k = (behaviour_of k).how

abbrev pub Refuses : Command → List ℕ → List ℕ → Type 0
Refuses k = (behaviour_of k).Refuses

abbrev pub Accepts : Command → List ℕ → Type 0
Accepts k = (behaviour_of k).Accepts

abbrev pub RefusesRun : Command → Input → List ℕ → Type 0
RefusesRun k = (behaviour_of k).RefusesRun

abbrev pub TakesRun : Command → Input → Type 0
TakesRun k = (behaviour_of k).TakesRun

abbrev pub Allows : Command → Input → List ℕ → Type 0
Allows k = (behaviour_of k).Allows

abbrev pub Means : Command → Input → List ℕ → Type 0
Means k = (behaviour_of k).Means

-- the words ask for nothing that the program does
pub record IsUnknown (words : List (List ℕ)) : Type 0 where
  pub no_command : (k : Command) → words ≡ spelled k → ⊥
  pub no_text : (text : List ℕ) → IsToldAtOnce words text → ⊥
