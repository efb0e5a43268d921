-- How a line of the process is answered by lines of rules.
use Rattle.std.specs.Prelude.{◌≡◌, ◌≤◌, ℕ, true, List, [], ◌∷◌, ◌++◌, Option, Some, length}
use Rattle.sap_terms.specs.Signature.{Sig}
use Rattle.sap_terms.specs.Trace.{Trace, shown}
use Rattle.sap_terms.specs.Tree.{Tree}
use Rattle.sap_terms.specs.declared.fact.Fact.{Fact}
use Rattle.sap_process.specs.Configuration.{Config, initial}
use Rattle.sap_process.specs.Proc.{Proc}
use Rattle.sap_place.specs.StateFacts.{state_fact}
use Rattle.sap_restrict.specs.ReservedFacts.{init_fact}
use Rattle.sap_rule.specs.RuleSteps.{RuleState, empty_state}
use Rattle.sap_rule.specs.declared.rule.Rule.{Rule}
use Rattle.sap_runs.specs.Inner.{InnerAction}
use Rattle.sap_runs.specs.Limits.{HasFewNodes}
use Rattle.sap_runs.specs.Marks.{Mark, marks_of}
use Rattle.sap_runs.specs.declared.process_step.PStep.{PStep}
use Rattle.sap_runs.specs.declared.process_step.PStep.TheVariants.{New, Name}
use Rattle.sap_runs.specs.declared.rule_step.RStep.{RStep}
use Rattle.sap_lines.specs.Answers.{MatchesExactly}
use Rattle.sap_lines.specs.Lines.{IsProcessLine}
use Rattle.sap_lines.specs.Runs.{CanGiveEach}
use Rattle.sap_steps.specs.Lines.{IsLine}
use Rattle.sap_steps.specs.Marks.{marks}
use Rattle.sap_templates.specs.Templates.{rules_of}
use Rattle.sap_translate.specs.relation.Agents.{Agent, running}
use Rattle.sap_translate.specs.relation.Answers.{gets}
use Rattle.sap_translate.specs.relation.Envs.{no_env}
use Rattle.sap_rule_lines.specs.Least.{is_among, names_made, not_drawn, numbers_below}
use Rattle.sap_forward.specs.Linked.{Linked}
use Rattle.sap_rule_lines.specs.RuleLines.{init_line}
use Rattle.sap_forward.specs.Tables.{RuleTables}
use Rattle.sap_forward.specs.Written.{IsWrittenAsRules}

-- each of these lines in turn is possible, from the first state on; the last leads to the last state, and this is shown, time by time
pub data AreLines (W : Tree → Type 0) (g : Sig) (rules : List Rule) : RuleState → List RStep → Trace → RuleState → Type 0 where
  stays : {s : RuleState} → AreLines W g rules s [] [] s
  further : {s y z : RuleState} {line : RStep} {acts : List Fact} {lines : List RStep} {full : Trace} → IsLine g rules W s line acts y → AreLines W g rules y lines full z → AreLines W g rules s (line ∷ lines) (acts ∷ full) z

-- The lines of rules that are written for this line of the process are possible, from the state on, at most four, and have the
-- marks of the line; both sides are linked behind them, and of the names that they make those that no line draws are the next.
pub record IsAnswered (g : Sig) (W : Tree → Type 0) (start : Proc) (drawn : List ℕ) (agents : List (Option Agent)) (c : Config) (tables : RuleTables) (s : RuleState) (full : Trace) (step : PStep) (d : Config) (fs : List Tree) (tr : Trace) (ms : List Mark) : Type 0 where
  pub lines : List RStep
  pub later : List (Option Agent)
  pub behind : RuleTables
  pub state : RuleState
  pub more : Trace
  pub written : IsWrittenAsRules g drawn agents c tables step lines later behind
  pub legal : AreLines W g (rules_of start) s lines more state
  pub linked : Linked g W start drawn behind later d fs tr state (full ++ more)
  pub marked : marks more ≡ ms
  pub short : length lines ≤ 4
  pub names : not_drawn drawn (numbers_below behind.next) ≡ not_drawn drawn (numbers_below tables.next) ++ not_drawn drawn (names_made lines)

-- what the line draws is among what is drawn
abbrev pub Draws : List ℕ → PStep → Type 0
Draws drawn (New t n) = is_among drawn n ≡ true
Draws drawn (Name n) = is_among drawn n ≡ true
Draws drawn step = Unit {0}

-- the tables once the rules have started: the first thread stands under the number of the first fact
abbrev pub first_rule_tables : RuleTables
first_rule_tables = record { threads = 0 ∷ []; facts = []; count = 1; next = 0 }

-- the state once the rules have started
abbrev pub first_state : RuleState
first_state = gets empty_state (state_fact [] [] ∷ [])

-- the first line is possible and links both sides, whatever is drawn
pub record StartsLinked (g : Sig) (start : Proc) : Type 0 where
  pub line : IsLine g (rules_of start) HasFewNodes empty_state init_line (init_fact ∷ []) first_state
  pub linked : (drawn : List ℕ) → Linked g HasFewNodes start drawn first_rule_tables (Some (running [] no_env start) ∷ []) (initial start) [] [] first_state ((init_fact ∷ []) ∷ [])

-- wherever both sides are linked, each line that is possible within the limit is answered
abbrev pub LinesAreAnswered : Sig → Proc → Type 0
LinesAreAnswered g start =
    (drawn : List ℕ) (tables : RuleTables) (agents : List (Option Agent)) (c d : Config) (es fs : List Tree) (tr : Trace) (s : RuleState) (full : Trace) (step : PStep) (inner : List InnerAction) (label : List Fact)
    → Linked g HasFewNodes start drawn tables agents c es tr s full → CanGiveEach g c es → MatchesExactly g c es → Draws drawn step → IsProcessLine g HasFewNodes c es step inner label d fs
    → IsAnswered g HasFewNodes start drawn agents c tables s full step d fs (tr ++ shown label) (marks_of inner label)
