-- Where both sides rest, and how the rules answer a step of the process.
use Rattle.std.specs.Prelude.{◌≡◌, ℕ, List, [], ◌∷◌, ◌++◌, Option, Some, None, slice_get, slice_set, Contains}
use Rattle.sap_terms.specs.AdversaryFacts.{out_fact}
use Rattle.sap_terms.specs.Choice.{Choice, instance}
use Rattle.sap_terms.specs.Piles.{Pile, adds}
use Rattle.sap_terms.specs.Signature.{Sig}
use Rattle.sap_terms.specs.Trace.{Trace, shown}
use Rattle.sap_terms.specs.Tree.{Tree}
use Rattle.sap_terms.specs.Variables.{new_vars}
use Rattle.sap_terms.specs.declared.fact.Fact.{Fact}
use Rattle.sap_terms.specs.declared.var.Var.{Var}
use Rattle.sap_process.specs.Configuration.{Config, initial}
use Rattle.sap_process.specs.Instance.{process_instance}
use Rattle.sap_process.specs.Proc.{Proc}
use Rattle.sap_process.specs.ProcessSteps.{ProcessRun}
use Rattle.sap_process.specs.Sites.{var_names}
use Rattle.sap_place.specs.StateFacts.{state_fact, copies_fact}
use Rattle.sap_rule.specs.RuleSteps.{RuleState, RuleRun, leaves}
use Rattle.sap_templates.specs.Templates.{rules_of, first_of, second_of}
use Rattle.sap_translate.specs.relation.Envs.{Env, names, chosen, values, bind, join}
use Rattle.sap_translate.specs.relation.ProcessMoves.{ProcessMove, IsProcessMove}
use Rattle.sap_translate.specs.relation.Agents.{Agent, running, copying, is_semi, is_unborn}
use Rattle.sap_translate.specs.relation.Related.{Related}
use Rattle.sap_translate.specs.relation.RuleMoves.{RuleMove, RuleMoves}
use Rattle.sap_translate.specs.relation.Shown.{ShowsAt}
use Rattle.sap_translate.specs.relation.Totals.{total}

-- Both sides are related and rest: a run of the process led to the configuration, a run of its rules to the state, both show
-- the same, the rules have started, and no sender waits for its acknowledgement.
pub record AtRest (g : Sig) (start : Proc) (agents : List (Option Agent)) (c : Config) (tr : Trace) (s : RuleState) (full : Trace) : Type 0 where
  pub reached : ProcessRun g (initial start) c tr
  pub ran : RuleRun g (rules_of start) s full
  pub related : Related g start agents None c tr s full
  pub started : total is_unborn agents ≡ 0
  pub calm : total is_semi agents ≡ 0

-- thread t stands before b at this path, where the variables in scope stand for what env says, and fact k is its state fact
pub record StandsBefore (agents : List (Option Agent)) (s : RuleState) (t k : ℕ) (path : List ℕ) (env : Env) (b : Proc) : Type 0 where
  pub thread : slice_get agents t ≡ Some (Some (running path env b))
  pub fact : slice_get s.facts k ≡ Some (Some (state_fact path (values env)))

-- thread t is a replication of p that has started, and fact k says so
pub record Copies (agents : List (Option Agent)) (s : RuleState) (t k : ℕ) (path : List ℕ) (env : Env) (p : Proc) : Type 0 where
  pub thread : slice_get agents t ≡ Some (Some (copying path env p))
  pub fact : slice_get s.facts k ≡ Some (Some (copies_fact path (values env)))

-- the term with what the variables in scope stand for
abbrev pub term_under : Env → Tree → Tree
term_under env m = instance (chosen env) m

-- the process with what they stand for
abbrev pub under : Env → Proc → Proc
under env p = process_instance (chosen env) p

-- what is in scope once those of the variables of a pattern that are new stand for what the choice says
abbrev pub widened : Env → Choice → List Var → Env
widened env σ vs = join env (bind σ (new_vars (var_names (names env)) vs))

-- the state fact of the first child
abbrev pub at_first : List ℕ → Env → Fact
at_first path env = state_fact (first_of path) (values env)

-- that of the second
abbrev pub at_second : List ℕ → Env → Fact
at_second path env = state_fact (second_of path) (values env)

-- thread t goes on at the first child
abbrev pub goes_on : List (Option Agent) → ℕ → List ℕ → Env → Proc → List (Option Agent)
goes_on agents t path env p = slice_set agents t (Some (running (first_of path) env p))

-- it goes on at the second
abbrev pub goes_aside : List (Option Agent) → ℕ → List ℕ → Env → Proc → List (Option Agent)
goes_aside agents t path env p = slice_set agents t (Some (running (second_of path) env p))

-- the facts with these numbers are gone
abbrev pub without_facts : Pile → List ℕ → Pile
without_facts facts [] = facts
without_facts facts (k ∷ ks) = without_facts (slice_set facts k None) ks

-- the state where the facts with these numbers are gone, and these have come, with the next numbers
abbrev pub trades : RuleState → List ℕ → List Fact → RuleState
trades s ks right = leaves s (adds (without_facts s.facts ks) right)

-- the state where these facts have come
abbrev pub gets : RuleState → List Fact → RuleState
gets s right = leaves s (adds s.facts right)

-- The process makes this move to d, which shows the label; the rules answer by these, which show more and lead to z; and
-- both sides rest again, where the threads stand as the agents say.
pub record Answers (g : Sig) (start : Proc) (c : Config) (tr : Trace) (s : RuleState) (full : Trace) (move : ProcessMove) (label : List Fact) (d : Config) (moves : List RuleMove) (more : Trace) (z : RuleState) (agents : List (Option Agent)) : Type 0 where
  pub process : IsProcessMove g c move label d
  pub rules : RuleMoves g (rules_of start) s moves more z
  pub rest : AtRest g start agents d (tr ++ shown label) z (full ++ more)

-- The rules come to know x: the adversary learns what was sent, knows public names and applies symbols. Nothing is shown, Fr is made
-- of no name, and of the facts those of messages that were sent alone may go.
pub record Learnt (g : Sig) (start : Proc) (agents : List (Option Agent)) (c : Config) (tr : Trace) (s : RuleState) (full : Trace) (x : Tree) : Type 0 where
  pub moves : List RuleMove
  pub more : Trace
  pub state : RuleState
  pub rules : RuleMoves g (rules_of start) s moves more state
  pub rest : AtRest g start agents c tr state (full ++ more)
  pub knows : Contains state.known x
  pub silent : (k : ℕ) (f : Fact) → ¬ ShowsAt more k f
  pub made : state.made ≡ s.made
  pub stay : (k : ℕ) (f : Fact) → slice_get s.facts k ≡ Some (Some f) → ((t : Tree) → ¬ f ≡ out_fact t) → slice_get state.facts k ≡ Some (Some f)

-- some moves of the rules answer a step with this label to d; the names that they draw are among these
pub record IsAnswered (g : Sig) (start : Proc) (c : Config) (tr : Trace) (s : RuleState) (full : Trace) (label : List Fact) (d : Config) (names : List ℕ) : Type 0 where
  pub moves : List RuleMove
  pub more : Trace
  pub state : RuleState
  pub agents : List (Option Agent)
  pub rules : RuleMoves g (rules_of start) s moves more state
  pub rest : AtRest g start agents d (tr ++ shown label) state (full ++ more)
  pub made : (n : ℕ) → Contains state.made n → Contains (s.made ++ names) n
