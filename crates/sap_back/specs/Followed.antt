-- Which lines of the process a conversion writes for a line of rules, by its tables.
use Rattle.std.specs.Prelude.{◌≡◌, ℕ, List, [], ◌∷◌, ◌++◌, Option, Some, None, map, codes, length, slice_get, slice_set}
use Rattle.sap_terms.specs.AdversaryFacts.{fr_fact}
use Rattle.sap_terms.specs.Choice.{Choice}
use Rattle.sap_terms.specs.Equations.{equations}
use Rattle.sap_terms.specs.Normal.{IsNormalForm}
use Rattle.sap_terms.specs.Signature.{Sig}
use Rattle.sap_terms.specs.Trace.{Trace}
use Rattle.sap_terms.specs.Tree.{Tree, fresh}
use Rattle.sap_terms.specs.Variables.{tree_vars, facts_vars}
use Rattle.sap_terms.specs.declared.binding.Binding.{Binding}
use Rattle.sap_terms.specs.declared.fact.Fact.{Fact}
use Rattle.sap_terms.specs.declared.var.Var.{Var}
use Rattle.sap_formula.specs.Hide.{hide}
use Rattle.sap_process.specs.Action.{new, out, send, input, receive, event, insert, delete, lock, unlock, embedded}
use Rattle.sap_process.specs.Configuration.{Config, initial}
use Rattle.sap_process.specs.Proc.{Proc, nil, parallel, replicated, act, test, lookup}
use Rattle.sap_process.specs.Scopes.{lock_var}
use Rattle.sap_process.specs.Sites.{fresh_var, message_var}
use Rattle.sap_place.specs.StateFacts.{waits_fact}
use Rattle.sap_restrict.specs.Standard.{IsAdmitted}
use Rattle.sap_rule.specs.RuleSteps.{RuleState, empty_state}
use Rattle.sap_runs.specs.Limits.{HasFewNodes}
use Rattle.sap_runs.specs.declared.process_step.PStep.{PStep}
use Rattle.sap_runs.specs.declared.process_step.PStep.TheVariants as line
use Rattle.sap_runs.specs.declared.rule_step.RStep.{RStep}
use Rattle.sap_runs.specs.declared.rule_step.RStep.TheVariants.{Fresh, Learn, Own, Public, Apply, Know, Rule as RuleLine}
use Rattle.sap_lines.specs.Runs.{IsLegalProcessRun}
use Rattle.sap_steps.specs.Lines.{IsLine}
use Rattle.sap_steps.specs.Marks.{marks}
use Rattle.sap_templates.specs.ChannelFacts.{msg_fact}
use Rattle.sap_rule_lines.specs.RuleLines.{uses}
pub use Rattle.sap_process_lines.specs.Pending.{pending_lines}
pub use Rattle.sap_back.specs.LinesFor.{lines_before, left_pending}
use Rattle.sap_templates.specs.Templates.{rules_of, first_of, second_of}
use Rattle.sap_translate.specs.relation.Agents.{Agent, unborn, running, copying, awaiting, received}
use Rattle.sap_translate.specs.relation.Answers.{StandsBefore, Copies, goes_on as onwards, goes_aside as aside, term_under, widened}
use Rattle.sap_translate.specs.relation.Envs.{Env, no_env, just, join, values}
use Rattle.sap_back.specs.Along.{IsAlong}
use Rattle.sap_process_lines.specs.Tables.{ProcessTables, come, with_thread, with_known, with_pile, enters, waiting, first_process_tables}
use Rattle.sap_back.specs.Tables.{AreProcessTables, IsPending}

-- thread t stands before this, and fact k says so, by the tables too
pub record SeatedByFact (agents : List (Option Agent)) (s : RuleState) (tables : ProcessTables) (t k : ℕ) (path : List ℕ) (env : Env) (body : Proc) : Type 0 where
  pub stands : StandsBefore agents s t k path env body
  pub number : slice_get tables.facts k ≡ Some t

-- The threads, what is pending, the state of rules and the tables before; the line of rules, what it shows, and the lines of the
-- process that are written for it; and the threads, what is pending and the tables behind.
pub data IsWrittenAsProcess (g : Sig) (agents : List (Option Agent)) (pending : Option Tree) (s : RuleState) (tables : ProcessTables) : RStep → List Fact → List PStep → List (Option Agent) → Option Tree → ProcessTables → Type 0 where
  -- the rules start: none
  starts : {acts : List Fact} (t : ℕ) (body : Proc) (b : List Binding) → slice_get agents t ≡ Some (Some (unborn body)) → t ≡ 0
      → IsWrittenAsProcess g agents pending s tables (RuleLine (codes "Init") [] b) acts [] (slice_set agents t (Some (running [] no_env body))) pending (come tables (t ∷ []))
  ends : {acts : List Fact} (t k : ℕ) (path : List ℕ) (env : Env) (b : List Binding) → SeatedByFact agents s tables t k path env nil
      → IsWrittenAsProcess g agents pending s tables (uses (codes "Nil_") path (k ∷ []) b) acts (line.Nil t ∷ []) (slice_set agents t None) pending tables
  splits : {acts : List Fact} (t k : ℕ) (path : List ℕ) (env : Env) (b : List Binding) (p q : Proc) → SeatedByFact agents s tables t k path env (parallel p q)
      → IsWrittenAsProcess g agents pending s tables (uses (codes "Par_") path (k ∷ []) b) acts (line.Par t ∷ [])
      (onwards agents t path env p ++ Some (running (second_of path) env q) ∷ []) pending (with_thread (come tables (t ∷ tables.threads ∷ [])))
  -- a replication starts: none
  starts_copies : {acts : List Fact} (t k : ℕ) (path : List ℕ) (env : Env) (b : List Binding) (p : Proc) → SeatedByFact agents s tables t k path env (replicated p)
      → IsWrittenAsProcess g agents pending s tables (uses (codes "RepStart_") path (k ∷ []) b) acts [] (slice_set agents t (Some (copying path env p))) pending (come tables (t ∷ []))
  copies : {acts : List Fact} (t k : ℕ) (path : List ℕ) (env : Env) (b : List Binding) (p : Proc) → Copies agents s t k path env p → slice_get tables.facts k ≡ Some t
      → IsWrittenAsProcess g agents pending s tables (uses (codes "RepCopy_") path (k ∷ []) b) acts (line.Rep t ∷ [])
      (agents ++ Some (running (first_of path) env p) ∷ []) pending (with_thread (come tables (tables.threads ∷ [])))
  -- the name is that of the Fr that is taken
  makes_name : {acts : List Fact} (t k j n : ℕ) (path : List ℕ) (env : Env) (b : List Binding) (x : Var) (p : Proc) → SeatedByFact agents s tables t k path env (act (new x) p)
      → slice_get s.facts j ≡ Some (Some (fr_fact n)) → slice_get tables.facts j ≡ Some n
      → IsWrittenAsProcess g agents pending s tables (uses (codes "New_") path (k ∷ j ∷ []) b) acts (line.New t n ∷ [])
      (onwards agents t path (join env (just (fresh_var x) (fresh n))) p) pending (come tables (t ∷ []))
  -- what is sent is an entry
  outputs : {acts : List Fact} (t k : ℕ) (path : List ℕ) (env : Env) (b : List Binding) (m : Tree) (p : Proc) → SeatedByFact agents s tables t k path env (act (out m) p)
      → IsWrittenAsProcess g agents pending s tables (uses (codes "Out_") path (k ∷ []) b) acts (line.Out t ∷ []) (onwards agents t path env p) pending
      (with_known (come tables (tables.known ∷ t ∷ [])))
  -- what is pending is the channel
  outputs_on : {acts : List Fact} (t k j e : ℕ) (path : List ℕ) (env : Env) (b : List Binding) (m n : Tree) (p : Proc) → SeatedByFact agents s tables t k path env (act (send m n) p)
      → tables.pending ≡ Some e
      → IsWrittenAsProcess g agents pending s tables (uses (codes "OutAdv_") path (k ∷ j ∷ []) b) acts (line.Send t e ∷ []) (onwards agents t path env p) None
      (waiting (with_known (come tables (tables.known ∷ t ∷ []))) None)
  -- a message comes under way: none
  sends : {acts : List Fact} (t k j i : ℕ) (path : List ℕ) (env : Env) (b : List Binding) (m n x v : Tree) (p : Proc) → SeatedByFact agents s tables t k path env (act (send m n) p)
      → IsNormalForm (equations g) (term_under env m) x → IsNormalForm (equations g) (term_under env n) v
      → IsWrittenAsProcess g agents pending s tables (uses (codes "OutMsg_") path (k ∷ j ∷ []) b) acts [] (slice_set agents t (Some (awaiting path env m n x v p i))) pending
      (come tables (t ∷ t ∷ []))
  -- its sender goes on: none
  goes_on : {acts : List Fact} (t k j n : ℕ) (path : List ℕ) (env : Env) (b : List Binding) (m u : Tree) (p : Proc) → slice_get agents t ≡ Some (Some (received path env m u p n))
      → slice_get s.facts k ≡ Some (Some (waits_fact path (values env ++ fresh n ∷ []))) → slice_get tables.facts k ≡ Some t
      → IsWrittenAsProcess g agents pending s tables (uses (codes "OutAck_") path (k ∷ j ∷ []) b) acts [] (onwards agents t path env p) pending (come tables (t ∷ []))
  -- what is pending is the message, or the pair of the channel and the message
  inputs : {acts : List Fact} (t k j e : ℕ) (path : List ℕ) (env : Env) (b : List Binding) (m : Tree) (σ : Choice) (p : Proc) → SeatedByFact agents s tables t k path env (act (input m) p)
      → tables.pending ≡ Some e
      → IsWrittenAsProcess g agents pending s tables (uses (codes "In_") path (k ∷ j ∷ []) b) acts (line.In t e ∷ []) (onwards agents t path (widened env σ (tree_vars m)) p) None
      (waiting (come tables (t ∷ [])) None)
  inputs_on : {acts : List Fact} (t k j e : ℕ) (path : List ℕ) (env : Env) (b : List Binding) (m n : Tree) (σ : Choice) (p : Proc) → SeatedByFact agents s tables t k path env (act (receive m n) p)
      → tables.pending ≡ Some e
      → IsWrittenAsProcess g agents pending s tables (uses (codes "InAdv_") path (k ∷ j ∷ []) b) acts (line.In t e ∷ []) (onwards agents t path (widened env σ (tree_vars n)) p) None
      (waiting (come tables (t ∷ [])) None)
  -- the sender of the message meets the thread
  meets : {acts : List Fact} (a t k j n : ℕ) (at path : List ℕ) (other env : Env) (b : List Binding) (m u x v l r : Tree) (σ : Choice) (p q : Proc) → slice_get agents a ≡ Some (Some (awaiting at other m u x v p n))
      → slice_get s.facts j ≡ Some (Some (msg_fact (fresh n) x v)) → slice_get tables.facts j ≡ Some a → SeatedByFact agents s tables t k path env (act (receive l r) q)
      → IsWrittenAsProcess g agents pending s tables (uses (codes "InMsg_") path (k ∷ j ∷ []) b) acts (line.Sync a t ∷ [])
      (onwards (slice_set agents a (Some (received at other m u p n))) t path (widened env σ (tree_vars r)) q) pending (come tables (a ∷ t ∷ []))
  -- what is pending is written first
  shows : {acts : List Fact} (t k : ℕ) (path : List ℕ) (env : Env) (b : List Binding) (f : Fact) (p : Proc) → SeatedByFact agents s tables t k path env (act (event f) p)
      → IsWrittenAsProcess g agents pending s tables (uses (codes "Event_") path (k ∷ []) b) acts (pending_lines tables.pending ++ line.Event t ∷ []) (onwards agents t path env p) None
      (waiting (come tables (t ∷ [])) None)
  inserts : {acts : List Fact} (t k : ℕ) (path : List ℕ) (env : Env) (b : List Binding) (m n : Tree) (p : Proc) → SeatedByFact agents s tables t k path env (act (insert m n) p)
      → IsWrittenAsProcess g agents pending s tables (uses (codes "Insert_") path (k ∷ []) b) acts (line.Insert t ∷ []) (onwards agents t path env p) pending (come tables (t ∷ []))
  deletes : {acts : List Fact} (t k : ℕ) (path : List ℕ) (env : Env) (b : List Binding) (m : Tree) (p : Proc) → SeatedByFact agents s tables t k path env (act (delete m) p)
      → IsWrittenAsProcess g agents pending s tables (uses (codes "Delete_") path (k ∷ []) b) acts (line.Delete t ∷ []) (onwards agents t path env p) pending (come tables (t ∷ []))
  locks : {acts : List Fact} (t k j n : ℕ) (path : List ℕ) (env : Env) (b : List Binding) (m : Tree) (l : ℕ) (p : Proc) → SeatedByFact agents s tables t k path env (act (lock m l) p)
      → IsWrittenAsProcess g agents pending s tables (uses (codes "Lock_") path (k ∷ j ∷ []) b) acts (line.Lock t ∷ [])
      (onwards agents t path (join env (just (lock_var l) (fresh n))) p) pending (come tables (t ∷ []))
  unlocks : {acts : List Fact} (t k : ℕ) (path : List ℕ) (env : Env) (b : List Binding) (m : Tree) (l : ℕ) (p : Proc) → SeatedByFact agents s tables t k path env (act (unlock m l) p)
      → IsWrittenAsProcess g agents pending s tables (uses (codes "Unlock_") path (k ∷ []) b) acts (line.Unlock t ∷ []) (onwards agents t path env p) pending (come tables (t ∷ []))
  agrees : {acts : List Fact} (t k : ℕ) (path : List ℕ) (env : Env) (b : List Binding) (m n : Tree) (p q : Proc) → SeatedByFact agents s tables t k path env (test m n p q)
      → IsWrittenAsProcess g agents pending s tables (uses (codes "Then_") path (k ∷ []) b) acts (line.Then t ∷ []) (onwards agents t path env p) pending (come tables (t ∷ []))
  differs : {acts : List Fact} (t k : ℕ) (path : List ℕ) (env : Env) (b : List Binding) (m n : Tree) (p q : Proc) → SeatedByFact agents s tables t k path env (test m n p q)
      → IsWrittenAsProcess g agents pending s tables (uses (codes "Else_") path (k ∷ []) b) acts (line.Else t ∷ []) (aside agents t path env q) pending (come tables (t ∷ []))
  finds : {acts : List Fact} (t k : ℕ) (path : List ℕ) (env : Env) (b : List Binding) (m v : Tree) (y : Var) (p q : Proc) → SeatedByFact agents s tables t k path env (lookup m y p q)
      → IsWrittenAsProcess g agents pending s tables (uses (codes "Found_") path (k ∷ []) b) acts (line.Found t ∷ []) (onwards agents t path (join env (just (message_var y) v)) p) pending (come tables (t ∷ []))
  misses : {acts : List Fact} (t k : ℕ) (path : List ℕ) (env : Env) (b : List Binding) (m : Tree) (y : Var) (p q : Proc) → SeatedByFact agents s tables t k path env (lookup m y p q)
      → IsWrittenAsProcess g agents pending s tables (uses (codes "Missing_") path (k ∷ []) b) acts (line.Missing t ∷ []) (aside agents t path env q) pending (come tables (t ∷ []))
  -- an embedded rule takes the same facts, with the same bindings: where it shows nothing, what is pending stays so
  embeds : {acts : List Fact} (t k : ℕ) (js ks : List ℕ) (path : List ℕ) (env : Env) (b : List Binding) (l a o : List Fact) (σ : Choice) (p : Proc) → SeatedByFact agents s tables t k path env (act (embedded l a o) p)
      → map (slice_get tables.facts) js ≡ map Some ks
      → IsWrittenAsProcess g agents pending s tables (uses (codes "Rule_") path (k ∷ js) b) acts (lines_before acts tables.pending ++ line.Embedded t ks b ∷ [])
      (onwards agents t path (widened env σ (facts_vars (l ++ (a ++ o)))) p) (left_pending acts pending) (waiting (with_pile tables t (length o)) (left_pending acts tables.pending))
  -- Fr is made of a name, or the adversary learns what it has: none
  makes : {acts : List Fact} (n : ℕ) → IsWrittenAsProcess g agents pending s tables (Fresh n) acts [] agents pending (come tables (n ∷ []))
  learns : {acts : List Fact} (k e : ℕ) → slice_get tables.facts k ≡ Some e
      → IsWrittenAsProcess g agents pending s tables (Learn k) acts [] agents pending (enters tables e)
  owns : {acts : List Fact} (k n : ℕ) → slice_get s.facts k ≡ Some (Some (fr_fact n)) → slice_get tables.facts k ≡ Some n
      → IsWrittenAsProcess g agents pending s tables (Own k) acts (line.Name n ∷ []) agents pending (with_known (enters tables tables.known))
  writes : {acts : List Fact} (a : List ℕ) → IsWrittenAsProcess g agents pending s tables (Public a) acts (line.Public a ∷ []) agents pending (with_known (enters tables tables.known))
  -- the entries have the same terms
  applies : {acts : List Fact} (f ks js : List ℕ) → map (slice_get tables.entries) ks ≡ map Some js
      → IsWrittenAsProcess g agents pending s tables (Apply f ks) acts (line.Apply f js ∷ []) agents pending (with_known (enters tables tables.known))
  -- what is pending is written, and this is pending from now on
  knows : {acts : List Fact} (k e : ℕ) (x : Tree) → slice_get s.known k ≡ Some x → slice_get tables.entries k ≡ Some e
      → IsWrittenAsProcess g agents pending s tables (Know k) acts (pending_lines tables.pending) agents (Some x) (waiting (come tables (0 ∷ [])) (Some e))

-- Where the lines go along with the state, and the tables are theirs, the line of rules is followed: by the lines of the process
-- that are written for it, which go along with the state and the full trace behind; and the tables behind are theirs.
pub record IsFollowedBy (g : Sig) (W : Tree → Type 0) (start : Proc) (agents : List (Option Agent)) (pending : Option Tree) (lines : List PStep) (s : RuleState) (full : Trace) (tables : ProcessTables) (step : RStep) (z : RuleState) (acts : List Fact) : Type 0 where
  pub more : List PStep
  pub next : List (Option Agent)
  pub later : Option Tree
  pub behind : ProcessTables
  pub written : IsWrittenAsProcess g agents pending s tables step acts more next later behind
  pub config : Config
  pub entries : List Tree
  pub trace : Trace
  pub is : IsAlong g W start next later (lines ++ more) config entries trace z (full ++ acts ∷ [])
  pub tabled : AreProcessTables next later config entries z behind

-- before the first line the tables are those of the thread that is unborn
abbrev pub BeginsTabled : Proc → Type 0
BeginsTabled start = AreProcessTables (Some (unborn start) ∷ []) None (initial start) [] empty_state first_process_tables

-- wherever lines go along, with their tables, each line of rules that is possible within the limit, and behind which the full trace
-- is admitted, is followed
abbrev pub LinesAreFollowed : Sig → Proc → Type 0
LinesAreFollowed g start =
    (agents : List (Option Agent)) (pending : Option Tree) (lines : List PStep) (c : Config) (es : List Tree) (tr : Trace) (s z : RuleState) (full : Trace) (tables : ProcessTables) (step : RStep) (acts : List Fact)
    → IsAlong g HasFewNodes start agents pending lines c es tr s full → AreProcessTables agents pending c es s tables → IsLine g (rules_of start) HasFewNodes s step acts z → IsAdmitted g (full ++ acts ∷ [])
    → IsFollowedBy g HasFewNodes start agents pending lines s full tables step z acts

-- Behind the last line what is pending is written, by its number: then the lines are legal, show what is seen of the full trace, and
-- have its marks.
abbrev pub EndsTabled : Sig → Proc → Type 0
EndsTabled g start =
    (agents : List (Option Agent)) (pending : Option Tree) (lines : List PStep) (c : Config) (es : List Tree) (tr : Trace) (s : RuleState) (full : Trace) (tables : ProcessTables)
    → IsAlong g HasFewNodes start agents pending lines c es tr s full → IsPending es pending tables.pending → IsLegalProcessRun g HasFewNodes start (lines ++ pending_lines tables.pending) c es (hide full) (marks full)
