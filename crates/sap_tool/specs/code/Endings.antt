-- What a call ends with, step by step.
use Rattle.std.specs.Prelude.{◌≡◌, ◌⊎◌, ℕ, List, [], MatchOption}
use Rattle.sap_outside.specs.Outside.{Rose}
use Rattle.sap_outside.specs.Seen.{SeenShelf}
use Rattle.sap_answer.specs.Answer.{tells}
use Rattle.sap_answer.specs.Endings.{answer_of}
use Rattle.sap_answer.specs.declared.ending.Ending.{Ending}
use Rattle.sap_answer.specs.declared.ending.Ending.TheVariants as ending
use Rattle.sap_tool.specs.Call.{Call}
use Rattle.sap_tool.specs.Commands.{Command, alone, and_run, how_read, Accepts, Allows}
use Rattle.sap_tool.specs.Answers.{IsAnswer, IsAnswerTo, IsBegun, WasReadSo, WasGivenUpSo}

-- it is an answer that the call may have, or memory was wanting before there was one
abbrev pub Ends : Call → Ending → Type 0
Ends c e = MatchOption (answer_of e) (IsBegun c) (λ a. IsAnswer c a)

-- what bytes that were fetched alone end with: a text, a refusal, or that memory was wanting
abbrev pub EndsFile : Command → List ℕ → Ending → Type 0
EndsFile k bytes (ending.Given text) = Allows k (alone bytes) text
EndsFile k bytes (ending.Help text) = ⊥
EndsFile k bytes ending.Usage = ⊥
EndsFile k bytes ending.Unread = ⊥
EndsFile k bytes (ending.File line) = IsAnswerTo k (alone bytes) (tells 1 line)
EndsFile k bytes (ending.Run line) = IsAnswerTo k (alone bytes) (tells 2 line)
EndsFile k bytes ending.Mem = Unit {0}

-- a run's name, and the shelf before and after it was read
pub record Reading : Type 0 where
  pub run : List ℕ
  pub before : SeenShelf
  pub after : SeenShelf

-- with these
abbrev pub reading : List ℕ → SeenShelf → SeenShelf → Reading
reading run before after = record { run = run; before = before; after = after }

-- the run was read to these bytes, in the way of this command
abbrev pub HasRead : Command → Reading → List ℕ → Type 0
HasRead k r z = WasReadSo (how_read k) r.before.holds r.run [] r.before.asked r.after.asked z

-- reading it was given up
abbrev pub HasGivenUp : Command → Reading → Type 0
HasGivenUp k r = WasGivenUpSo (how_read k) r.before.holds r.run [] r.before.asked r.after.asked

-- nothing was asked for it
abbrev pub HasNotAsked : Reading → Type 0
HasNotAsked r = r.after.asked ≡ r.before.asked

-- What the bytes of a file or theory end with, where a run is read behind them, unless they are refused: with what they and the run end
-- with, or with a fault of the run.
abbrev pub EndsBoth : Command → List ℕ → Reading → Ending → Type 0
EndsBoth k bytes r (ending.Given text) = (z : List ℕ) × HasRead k r z × Allows k (and_run bytes z) text
EndsBoth k bytes r (ending.Help text) = ⊥
EndsBoth k bytes r ending.Usage = ⊥
EndsBoth k bytes r ending.Unread = Accepts k bytes × Rose (r.before.faults r.run) (r.after.faults r.run) × HasGivenUp k r
EndsBoth k bytes r (ending.File line) = IsAnswerTo k (alone bytes) (tells 1 line) × HasNotAsked r
EndsBoth k bytes r (ending.Run line) = (z : List ℕ) × HasRead k r z × IsAnswerTo k (and_run bytes z) (tells 2 line)
EndsBoth k bytes r ending.Mem = HasNotAsked r ⊎ (Accepts k bytes × (HasGivenUp k r ⊎ ((z : List ℕ) × HasRead k r z)))
