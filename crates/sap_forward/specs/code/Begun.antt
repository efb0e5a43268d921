-- A conversion that has begun: the lines of the process so far, and what stands opposite to them.
use Rattle.std.specs.Prelude.{◌≡◌, ◌≤◌, ◌+◌, ◌*◌, ℕ, Bool, true, false, List, [], ◌∷◌, ◌++◌, Option, Some, length, slice_get}
use Rattle.sap_terms.specs.Signature.{Sig}
use Rattle.sap_terms.specs.Trace.{Trace}
use Rattle.sap_terms.specs.Tree.{Tree}
use Rattle.sap_deduce.specs.Entries.{terms_of}
use Rattle.sap_process.specs.Configuration.{Config, initial}
use Rattle.sap_process.specs.Proc.{Proc}
use Rattle.sap_rule.specs.RuleSteps.{RuleState}
use Rattle.sap_runs.specs.Limits.{HasFewNodes}
use Rattle.sap_runs.specs.Marks.{Mark}
use Rattle.sap_runs.specs.declared.process_step.PStep.{PStep}
use Rattle.sap_runs.specs.declared.rule_step.RStep.{RStep}
use Rattle.sap_lines.specs.Runs.{IsLegalProcessRun}
use Rattle.sap_lines.specs.declared.fault.PFault.{PFault}
use Rattle.sap_lines.specs.FirstRefused.{IsFirstRefusedOfProcess}
use Rattle.sap_steps.specs.Marks.{marks}
use Rattle.sap_steps.specs.Runs.{IsLegalRun}
use Rattle.sap_calc.specs.Running.{Running, configuration}
use Rattle.sap_templates.specs.Templates.{rules_of}
use Rattle.sap_translate.specs.LineCounts.{back_count}
use Rattle.sap_translate.specs.relation.Agents.{Agent, running, copying}
use Rattle.sap_translate.specs.relation.Envs.{no_env}
use Rattle.sap_forward.specs.Answered.{Draws, first_rule_tables}
use Rattle.sap_forward.specs.Converted.{IsConvertedToRules}
use Rattle.sap_forward.specs.Counted.{lines_for_all, all_copying}
use Rattle.sap_rule_lines.specs.Least.{is_among, names_drawn, not_drawn, numbers_below}
use Rattle.sap_forward.specs.LinesFor.{AreRuleLinesForAll}
use Rattle.sap_forward.specs.Linked.{Linked}
use Rattle.sap_rule_lines.specs.RuleLines.{init_line}
use Rattle.sap_forward.specs.RuleLinesPass.{BringNoName}
use Rattle.sap_forward.specs.Tables.{RuleTables}
use Rattle.sap_forward.specs.code.Desk.{Keeps}
use Rattle.sap_forward.specs.code.Taken.{IsTaken}
use Rattle.sap_forward.specs.declared.desk.Desk.{Desk}

-- the thread is a replication that has started
abbrev pub has_started : Option (Option Agent) → Bool
has_started (Some (Some (copying path env body))) = true
has_started o = false

-- these threads, and no others, are replications that have started
abbrev pub AreCopying : List ℕ → List (Option Agent) → Type 0
AreCopying ts agents = (t : ℕ) → is_among ts t ≡ has_started (slice_get agents t)

-- the lines of rules so far, behind the first
pub record Converted (g : Sig) (W : Tree → Type 0) (q : Proc) (drawn : List ℕ) (lines : List PStep) (c : Config) (es : List Tree) (tr : Trace) (ms : List Mark) : Type 0 where
  pub rest : List RStep
  pub agents : List (Option Agent)
  pub tables : RuleTables
  pub state : RuleState
  pub full : Trace
  pub legal : IsLegalRun g (rules_of q) W (init_line ∷ rest) state full
  pub linked : Linked g W q drawn tables agents c es tr state full
  pub marked : marks full ≡ ms
  pub short : length rest ≤ 4 * length lines
  -- which lines stand opposite to which, and the names that locks and tags got
  pub given : List ℕ
  pub each : AreRuleLinesForAll lines rest given
  pub names : given ≡ not_drawn drawn (numbers_below tables.next)
  -- how many there are, and how many stand opposite to them in turn
  pub copying : AreCopying (all_copying [] lines) agents
  pub counted : length rest ≡ lines_for_all lines + length (all_copying [] lines)
  pub back : back_count rest ≡ length lines
  -- the names in what they write down and bind
  pub brought : BringNoName q lines rest

-- the lines so far are legal and lead here, the lines of rules that stand there are opposite to them, and the desk keeps what they
-- lead to
pub record IsBegun (g : Sig) (q : Proc) (drawn : List ℕ) (lines : List PStep) (r : Running) (d : Desk) (written : List RStep) : Type 0 where
  pub trace : Trace
  pub marks : List Mark
  pub sig : r.sig ≡ g
  pub legal : IsLegalProcessRun g HasFewNodes q lines (configuration r) (terms_of r.known) trace marks
  pub so_far : Converted g HasFewNodes q drawn lines (configuration r) (terms_of r.known) trace marks
  pub stand : written ≡ init_line ∷ so_far.rest
  pub keeps : Keeps q drawn so_far.agents so_far.tables d

-- nothing is done yet, and the rules have started
abbrev pub Begins : Sig → Proc → Type 0
Begins g q =
    (drawn : List ℕ) (r : Running) (d : Desk) → r.sig ≡ g → r.known ≡ [] → configuration r ≡ initial q → Keeps q drawn (Some (running [] no_env q) ∷ []) first_rule_tables d
    → IsBegun g q drawn [] r d (init_line ∷ [])

-- one more line is taken
abbrev pub GoesOn : Sig → Proc → Type 0
GoesOn g q =
    (drawn : List ℕ) (lines : List PStep) (r z : Running) (d e : Desk) (step : PStep) (before after : List RStep)
    → IsBegun g q drawn lines r d before → Draws drawn step → IsTaken r z d e step before after → IsBegun g q drawn (lines ++ step ∷ []) z e after

-- behind the last, all is converted
abbrev pub EndsConverted : Sig → Proc → Type 0
EndsConverted g q =
    (step : PStep) (lines : List PStep) (r : Running) (d : Desk) (written : List RStep) → IsBegun g q (names_drawn (step ∷ lines)) (step ∷ lines) r d written → IsConvertedToRules g q (step ∷ lines) written

-- all lines are taken, from where a conversion has begun
abbrev pub AreTaken : List PStep → Running → Running → Desk → Desk → List RStep → List RStep → Type 0
AreTaken run r z d e before after =
    (g : Sig) (q : Proc) → GoesOn g q → IsBegun g q (names_drawn run) [] r d before → IsBegun g q (names_drawn run) run z e after

-- one of them is the first that is refused
abbrev pub AreTakenUntil : List PStep → Running → Desk → List RStep → ℕ → PFault → Type 0
AreTakenUntil run r d before n fault = (g : Sig) (q : Proc) → GoesOn g q → IsBegun g q (names_drawn run) [] r d before → IsFirstRefusedOfProcess g q run n fault
