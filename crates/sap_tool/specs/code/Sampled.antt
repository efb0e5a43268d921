-- What a call ends with that asks for a sample, or for nothing.
use Rattle.std.specs.Prelude.{◌≡◌, ℕ, List}
use Rattle.sap_replay.specs.Sample.{IsSample, sample_text}
use Rattle.sap_answer.specs.declared.ending.Ending.{Ending}
use Rattle.sap_answer.specs.declared.ending.Ending.TheVariants as ending

-- what is told of the sample that the words ask for; where they ask for none, that; or memory was wanting
abbrev pub EndsSample : List (List ℕ) → Ending → Type 0
EndsSample words (ending.Given text) = (n : ℕ) × IsSample words n × (text ≡ sample_text n)
EndsSample words (ending.Help text) = ⊥
EndsSample words ending.Usage = (n : ℕ) → IsSample words n → ⊥
EndsSample words ending.Unread = ⊥
EndsSample words (ending.File line) = ⊥
EndsSample words (ending.Run line) = ⊥
EndsSample words ending.Mem = Unit {0}
