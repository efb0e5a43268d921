-- What the words ask for, as the code tells it.
use Rattle.std.specs.Prelude.{◌≡◌, codes, ℕ, List, [], ◌∷◌}
use Rattle.sap_tool.specs.ToldAtOnce.{IsHelp}
use Rattle.sap_tool.specs.Commands.{Command, compile, replay, fill, check, to_json, from_json, explain, spelled}
use Rattle.sap_tool.specs.declared.command.OnFile.{OnFile}
use Rattle.sap_tool.specs.declared.command.OnFile.TheVariants.{Compile, FromJson, Explain}
use Rattle.sap_tool.specs.declared.command.OnRun.{OnRun}
use Rattle.sap_tool.specs.declared.command.OnRun.TheVariants.{Replay, Fill, Check}
use Rattle.sap_tool.specs.declared.command.Command.{Command as Asked}
use Rattle.sap_tool.specs.declared.command.Command.TheVariants.{File, Run, ToJson, Sample, Help}

-- this is done with what has this name
abbrev pub on_file : OnFile → List ℕ → Command
on_file (Compile way) file = compile way file
on_file FromJson json = from_json json
on_file Explain file = explain file

-- this is done with what has the first name and the run of the second
abbrev pub on_run : OnRun → List ℕ → List ℕ → Command
on_run (Replay task) file run = replay task file run
on_run Fill file run = fill file run
on_run Check theory run = check theory run

-- the words ask for it
abbrev pub AsksFor : List (List ℕ) → Asked → Type 0
AsksFor words (File which name) = words ≡ spelled (on_file which name.now)
AsksFor words (Run which name run) = words ≡ spelled (on_run which name.now run.now)
AsksFor words (ToJson run) = words ≡ spelled (to_json run.now)
AsksFor words (Sample word) = words ≡ codes "sample" ∷ word.now ∷ []
AsksFor words (Help text) = IsHelp words text.now

-- the words ask for nothing
pub record AsksNothing (words : List (List ℕ)) : Type 0 where
  pub no_command : (k : Command) → words ≡ spelled k → ⊥
  pub no_sample : (word : List ℕ) → words ≡ codes "sample" ∷ word ∷ [] → ⊥
  pub no_help : (text : List ℕ) → IsHelp words text → ⊥
