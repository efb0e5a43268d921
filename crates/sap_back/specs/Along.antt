-- What holds of both sides between two lines of rules.
use Rattle.std.specs.Prelude.{◌≡◌, ◌≤◌, ◌+◌, ℕ, List, [], ◌∷◌, Option, Some, None, length, slice_get, Contains}
use Rattle.sap_terms.specs.Signature.{Sig}
use Rattle.sap_terms.specs.Trace.{Trace}
use Rattle.sap_terms.specs.Tree.{Tree}
use Rattle.sap_process.specs.Configuration.{Config, initial}
use Rattle.sap_process.specs.Proc.{Proc}
use Rattle.sap_rule.specs.RuleSteps.{RuleState, empty_state}
use Rattle.sap_runs.specs.Limits.{HasFewNodes}
use Rattle.sap_runs.specs.declared.process_step.PStep.{PStep}
use Rattle.sap_lines.specs.Lines.{EvaluateWithin}
use Rattle.sap_lines.specs.Runs.{IsLegalProcessRun}
use Rattle.sap_steps.specs.Marks.{marks}
use Rattle.sap_translate.specs.relation.Agents.{Agent, unborn, running, copying, awaiting, received}
use Rattle.sap_translate.specs.relation.Answers.{term_under}
use Rattle.sap_translate.specs.relation.Follows.{Together, Waits}

-- what a sender sends that waits was evaluated within the limit
abbrev pub SentWithin : Sig → (Tree → Type 0) → Agent → Type 0
SentWithin g W (unborn body) = Unit {0}
SentWithin g W (running path env body) = Unit {0}
SentWithin g W (copying path env body) = Unit {0}
SentWithin g W (awaiting path env m n x y body k) = EvaluateWithin g W (term_under env m ∷ term_under env n ∷ [])
SentWithin g W (received path env m n body k) = Unit {0}

-- one, where something is pending
abbrev pub count_pending : Option Tree → ℕ
count_pending None = 0
count_pending (Some x) = 1

-- Lines of the process, with what they lead to, and a state of its rules with its full trace, between two lines of rules. What is
-- pending is left to be written.
pub record IsAlong (g : Sig) (W : Tree → Type 0) (start : Proc) (agents : List (Option Agent)) (pending : Option Tree) (lines : List PStep) (c : Config) (es : List Tree) (tr : Trace) (s : RuleState) (full : Trace) : Type 0 where
  -- the lines are legal, and have the marks of the full trace
  pub legal : IsLegalProcessRun g W start lines c es tr (marks full)
  -- both sides are together, and an input finds its K event pending
  pub together : Together g start agents pending c tr s full
  pub waits : Waits pending full
  -- what was sent, what the rules know and what is pending are entries
  pub sent : (x : Tree) → Contains c.frame x → Contains es x
  pub known : (x : Tree) → Contains s.known x → Contains es x
  pub given : (x : Tree) → pending ≡ Some x → Contains es x
  -- what waiting senders send is within the limit
  pub within : (t : ℕ) (a : Agent) → slice_get agents t ≡ Some (Some a) → SentWithin g W a
  -- there are no more lines than of the rules, the one for what is pending included
  pub short : length lines + count_pending pending ≤ length full

-- before the first line of rules, none of the process go along
abbrev pub BeginsAlong : Sig → Proc → Type 0
BeginsAlong g start = IsAlong g HasFewNodes start (Some (unborn start) ∷ []) None [] (initial start) [] [] empty_state []
