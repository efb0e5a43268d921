-- Which run a text is, and why it is none. Byte 10 is a line feed.
use Rattle.std.specs.Prelude.{◌≡◌, ◌≤◌, ◌<◌, ℕ, ◌+◌, codes, List, [], ◌∷◌, ◌++◌, length, Result, Ok, Err}
use Rattle.sap_runs.specs.declared.process_step.PStep.{PStep}
use Rattle.sap_runs.specs.declared.rule_step.RStep.{RStep}
use Rattle.sap_run_texts.specs.declared.run_fault.RunFault.{RunFault}
use Rattle.sap_run_texts.specs.declared.run_fault.RunFault.TheVariants as fault
use Rattle.sap_run_texts.specs.declared.run.Kinds.{Kinds}
use Rattle.sap_run_texts.specs.declared.run.Kinds.TheVariants as kinds
use Rattle.sap_run_texts.specs.declared.run.Run.{Run}
use Rattle.sap_run_texts.specs.declared.run.Run.TheVariants as run
use Rattle.sap_run_texts.specs.declared.limits.TheConstants.{MOST_PROCESS_STEPS, MOST_RULE_STEPS}
use Rattle.sap_run_lines.specs.StepLines.{IsProcessStepLine, IsRuleStepLine, IsOpenLine}

-- lines, each ended by its line feed
abbrev pub lines_text : List (List ℕ) → List ℕ
lines_text [] = []
lines_text (line ∷ lines) = line ++ (10 ∷ lines_text lines)

-- these lines are those of these steps, in order
pub data AreStepLines {A : Type 0} (IsStepLine : A → List ℕ → Type 0)
    : List A → List (List ℕ) → Type 0 where
  no_lines : AreStepLines IsStepLine [] []
  lines_more : {s : A} {ss : List A} {line : List ℕ} {lines : List (List ℕ)} → IsStepLine s line
      → AreStepLines IsStepLine ss lines
      → AreStepLines IsStepLine (s ∷ ss) (line ∷ lines)

-- the first line is no step's: it is ended and no step has it, or bytes stand there that no line feed ends
pub data BeginsBadly {A : Type 0} (IsStepLine : A → List ℕ → Type 0) : List ℕ → Type 0 where
  no_step : (line z : List ℕ) → IsOpenLine line → ((s : A) → IsStepLine s line → ⊥)
      → BeginsBadly IsStepLine (line ++ (10 ∷ z))
  not_ended : (z : List ℕ) → IsOpenLine z → 0 < length z → BeginsBadly IsStepLine z

-- What the bytes behind the head are: step lines, at most so many; or a line stands behind fewer than so many step lines and is
-- no step's, and is told by its number, the head's being 1; or bytes follow so many step lines.
pub data IsBody {A : Type 0} (IsStepLine : A → List ℕ → Type 0) (most : ℕ)
    : List ℕ → Result (List A) RunFault → Type 0 where
  all_steps : {ss : List A} {lines : List (List ℕ)} → AreStepLines IsStepLine ss lines
      → length ss ≤ most
      → IsBody IsStepLine most (lines_text lines) (Ok ss)
  bad_line : {ss : List A} {lines : List (List ℕ)} {z : List ℕ} → AreStepLines IsStepLine ss lines
      → length ss < most → BeginsBadly IsStepLine z
      → IsBody IsStepLine most (lines_text lines ++ z) (Err (fault.BadLine (length ss + 2)))
  too_many : {ss : List A} {lines : List (List ℕ)} (z : List ℕ) → AreStepLines IsStepLine ss lines
      → length ss ≡ most → 0 < length z
      → IsBody IsStepLine most (lines_text lines ++ z) (Err fault.TooManySteps)

-- the first line is the head, and the other bytes follow its line feed
abbrev pub IsHeaded : List ℕ → List ℕ → List ℕ → Type 0
IsHeaded head body z = z ≡ head ++ (10 ∷ body)

-- no line of this head stands first
abbrev pub IsHeadless : List ℕ → List ℕ → Type 0
IsHeadless head z = (body : List ℕ) → IsHeaded head body z → ⊥

-- what a text of one kind is: what stands behind its head, or no text of this kind
pub data IsText {A : Type 0} (head : List ℕ) (IsStepLine : A → List ℕ → Type 0) (most : ℕ)
    (z : List ℕ) : Result (List A) RunFault → Type 0 where
  headed : {body : List ℕ} {o : Result (List A) RunFault} → IsHeaded head body z
      → IsBody IsStepLine most body o
      → IsText head IsStepLine most z o
  headless : IsHeadless head z → IsText head IsStepLine most z (Err fault.BadHead)

-- the heads
abbrev pub process_head : List ℕ
process_head = codes "process-run"

-- of a run of rules
abbrev pub rule_head : List ℕ
rule_head = codes "rule-run"

-- what a text is as a run of a process, of at most 5,000 steps
abbrev pub IsProcessRunText : List ℕ → Result (List PStep) RunFault → Type 0
IsProcessRunText = IsText process_head IsProcessStepLine MOST_PROCESS_STEPS

-- what it is as a run of rules, of at most 20,001 steps
abbrev pub IsRuleRunText : List ℕ → Result (List RStep) RunFault → Type 0
IsRuleRunText = IsText rule_head IsRuleStepLine MOST_RULE_STEPS

-- the answer as one on runs of both kinds
abbrev pub process_answer : Result (List PStep) RunFault → Result Run RunFault
process_answer (Ok ss) = Ok (run.Process ss)
process_answer (Err e) = Err e

-- the same of a run of rules
abbrev pub rule_answer : Result (List RStep) RunFault → Result Run RunFault
rule_answer (Ok ss) = Ok (run.Rules ss)
rule_answer (Err e) = Err e

-- what a text is where runs of one kind are asked for, or of the kind that the head tells
pub data IsRunRead : Kinds → List ℕ → Result Run RunFault → Type 0 where
  as_process : {z : List ℕ} {o : Result (List PStep) RunFault} → IsProcessRunText z o
      → IsRunRead kinds.Process z (process_answer o)
  as_rules : {z : List ℕ} {o : Result (List RStep) RunFault} → IsRuleRunText z o
      → IsRunRead kinds.Rules z (rule_answer o)
  told_process : {z body : List ℕ} {o : Result (List PStep) RunFault} → IsHeaded process_head body z
      → IsProcessRunText z o
      → IsRunRead kinds.Either z (process_answer o)
  told_rules : {z body : List ℕ} {o : Result (List RStep) RunFault} → IsHeaded rule_head body z
      → IsRuleRunText z o
      → IsRunRead kinds.Either z (rule_answer o)
  told_neither : {z : List ℕ} → IsHeadless process_head z → IsHeadless rule_head z
      → IsRunRead kinds.Either z (Err fault.BadHead)

-- the answer is this; of want of memory nothing is said
abbrev pub IsTold : {B : Type 0} → (Result B RunFault → Type 0) → Result B RunFault → Type 0
IsTold Is (Ok x) = Is (Ok x)
IsTold Is (Err fault.Mem) = Unit {0}
IsTold Is (Err e) = Is (Err e)
