-- What a reader of runs holds, and which bytes it stands for.
use Rattle.std.specs.Prelude.{◌≡◌, ◌≤◌, ℕ, List, [], ◌++◌, length, Err}
use Rattle.sap_runs.specs.declared.process_step.PStep.{PStep}
use Rattle.sap_runs.specs.declared.rule_step.RStep.{RStep}
use Rattle.sap_run_texts.specs.declared.run_fault.RunFault.{RunFault}
use Rattle.sap_run_texts.specs.declared.run.Kinds.{Kinds}
use Rattle.sap_run_texts.specs.declared.run.Kinds.TheVariants as kinds
use Rattle.sap_run_texts.specs.declared.limits.TheConstants.{MOST_PROCESS_STEPS, MOST_RULE_STEPS}
use Rattle.sap_run_lines.specs.StepLines.{IsProcessStepLine, IsRuleStepLine, IsOpenLine}
use Rattle.sap_run_texts.specs.RunTexts.{lines_text, AreStepLines, IsHeaded, process_head, rule_head, IsRunRead}

-- what was made of the bytes: memory was wanting; the text has this fault whatever follows; they are the head's, as far as it
-- came; the steps of the lines behind the head that have ended, and the bytes of the line that hasn't
pub data Held : Type 0 where
  failed : Held
  faulty : RunFault → Held
  in_head : List ℕ → Held
  in_process : List PStep → List ℕ → Held
  in_rules : List RStep → List ℕ → Held

-- a reader: which runs it is asked for, and what it holds
pub record Reading : Type 0 where
  pub kinds : Kinds
  pub held : Held

-- a run of a process is asked for, or of rules
abbrev pub TakesProcess : Kinds → Type 0
TakesProcess kinds.Process = Unit {0}
TakesProcess kinds.Rules = ⊥
TakesProcess kinds.Either = Unit {0}

abbrev pub TakesRules : Kinds → Type 0
TakesRules kinds.Process = ⊥
TakesRules kinds.Rules = Unit {0}
TakesRules kinds.Either = Unit {0}

-- the bytes are the head, the lines of these steps, and the beginning of a line; behind the last step that may come, nothing
pub record IsBegun {A : Type 0} (head : List ℕ) (IsStepLine : A → List ℕ → Type 0) (most : ℕ) (ss : List A) (line z : List ℕ) : Type 0 where
  pub lines : List (List ℕ)
  pub whole : IsHeaded head (lines_text lines ++ line) z
  pub steps : AreStepLines IsStepLine ss lines
  pub within : length ss ≤ most
  pub opened : IsOpenLine line
  pub full : length ss ≡ most → line ≡ []

-- what is held is what these bytes make
abbrev pub HoldsFor : Kinds → Held → List ℕ → Type 0
HoldsFor k failed z = ⊥
HoldsFor k (faulty e) z = (more : List ℕ) → IsRunRead k (z ++ more) (Err e)
HoldsFor k (in_head line) z = (z ≡ line) × IsOpenLine line
HoldsFor k (in_process ss line) z = TakesProcess k × IsBegun process_head IsProcessStepLine MOST_PROCESS_STEPS ss line z
HoldsFor k (in_rules ss line) z = TakesRules k × IsBegun rule_head IsRuleStepLine MOST_RULE_STEPS ss line z

-- the reader has been fed these bytes, in whatever pieces
abbrev pub StandsFor : Reading → List ℕ → Type 0
StandsFor r z = HoldsFor r.kinds r.held z

-- memory was wanting once
abbrev pub HasFailed : Reading → Type 0
HasFailed r = r.held ≡ failed
