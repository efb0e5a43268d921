-- What is done with a run of a file: of which kind it has to be, what is written of it, and what that means.
use Rattle.std.specs.Prelude.{ℕ, List}
use Rattle.sap_read.specs.Files.{FileContent}
use Rattle.sap_run_texts.specs.declared.run.Kinds.{Kinds}
use Rattle.sap_run_texts.specs.declared.run.Kinds.TheVariants.{Process, Rules, Either}
use Rattle.sap_run_texts.specs.declared.run.Run.{Run}
use Rattle.sap_replay.specs.declared.task.Task.{Task}
use Rattle.sap_replay.specs.declared.task.Task.TheVariants.{ToRules, ToProcess, Judge, Tell, Chart}
use Rattle.sap_replay.specs.Replays.{IsConvertedText, IsJudgedText, IsOppositeText}
use Rattle.sap_replay.specs.ToldRuns.{IsTextOfLines, IsToldAndJudged, IsToldOf, IsDrawn, IsDrawnOf}

-- of which kind a run has to be for a task
abbrev pub kinds_of : Task → Kinds
kinds_of ToRules = Process
kinds_of ToProcess = Rules
kinds_of Judge = Either
kinds_of Tell = Either
kinds_of Chart = Either

-- the text that a task writes of a run of the file of these bytes
abbrev pub Writes : Task → List ℕ → FileContent → Run → List ℕ → Type 0
Writes ToRules bytes told r text = IsConvertedText told r text
Writes ToProcess bytes told r text = IsConvertedText told r text
Writes Judge bytes told r text = IsJudgedText told r text
Writes Tell bytes told r text = IsTextOfLines bytes told (IsToldAndJudged told) r text
Writes Chart bytes told r text = IsTextOfLines bytes told (IsDrawn told) r text

-- what this text means
abbrev pub Says : Task → List ℕ → FileContent → Run → List ℕ → Type 0
Says ToRules bytes told r text = IsOppositeText told r text
Says ToProcess bytes told r text = IsOppositeText told r text
Says Judge bytes told r text = IsJudgedText told r text
Says Tell bytes told r text = IsToldOf bytes told r text
Says Chart bytes told r text = IsDrawnOf bytes told r text
