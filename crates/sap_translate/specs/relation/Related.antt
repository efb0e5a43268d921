-- The relation between a configuration with its trace and a rule state with its full trace, in parts.
use Rattle.sap_restrict.specs.ReservedFacts.{event_fact, input_fact, insert_fact, delete_fact}
use Rattle.sap_translate.specs.Members.{Member}
use Rattle.sap_translate.specs.relation.Shown.{ShowsAt, MeetsSix}
use Rattle.sap_formula.specs.Hide.{hide}
use Rattle.sap_translate.specs.relation.Envs.{Env, names, chosen}
use Rattle.sap_translate.specs.Scoped.{Within}
use Rattle.sap_templates.specs.ChannelFacts.{fresh_fact}
use Rattle.sap_translate.specs.relation.Totals.{total}
use Rattle.sap_translate.specs.OpenLocks.{UnlocksAreOpen}
use Rattle.sap_translate.specs.relation.Locks.{Holder, LockPart}
use Rattle.sap_process.specs.Scopes.{lock_var}
use Rattle.sap_process.specs.Configuration.{Config, CanGive, initial}
use Rattle.sap_process.specs.Proc.{Proc}
use Rattle.sap_process.specs.Sites.{var_names}
use Rattle.sap_terms.specs.Variables.{is_known}
use Rattle.sap_terms.specs.Message.{IsMessage}
use Rattle.sap_process.specs.ProcessSteps.{ProcessRun}
use Rattle.sap_rule.specs.RuleSteps.{RuleState}
use Rattle.sap_terms.specs.AdversaryFacts.{k_fact, out_fact}
use Rattle.sap_terms.specs.Choice.{instance}
use Rattle.sap_terms.specs.Deduce.{IsDerivation}
use Rattle.sap_terms.specs.Normal.{IsNormalForm}
use Rattle.sap_terms.specs.Signature.{Sig}
use Rattle.sap_terms.specs.Equations.{equations, Equations}
use Rattle.sap_terms.specs.Trace.{Trace, shown}
use Rattle.sap_terms.specs.Tree.{Tree, fresh}
use Rattle.sap_terms.specs.declared.fact.Fact.{Fact}
use Rattle.sap_terms.specs.declared.var.Sort.TheVariants.{Msg}
use Rattle.std.specs.Prelude.{reverse, ◌≡◌, ℕ, ◌+◌, ◌<◌, ◌≤◌, ◌⊎◌, Bool, true, List, [], ◌∷◌, ◌++◌, Option, Some, None, slice_get}
use Rattle.sap_translate.specs.relation.Agents.{Agent, is_unborn, AllPlaced, SameThreads, rest_of, env_of}
use Rattle.sap_translate.specs.relation.Counts.{count_fact, count_name, count_tag, has_init, SamePile, SameFacts, count_holder}

-- the time of an event K(x) that the rules have shown and the process has not
abbrev pub pending_place : Option Tree → Trace
pending_place None = []
pending_place (Some x) = (k_fact x ∷ []) ∷ []

-- the last K event of the full trace is free for an input
pub record Free (full : Trace) (x : Tree) : Type 0 where
  pub place : ℕ
  pub known : ShowsAt full place (k_fact x)
  pub last : (y : Tree) (k : ℕ) → ShowsAt full k (k_fact y) → k ≤ place
  pub events : (k : ℕ) → ShowsAt full k event_fact → k < place
  pub inputs : (y : Tree) (k : ℕ) → ShowsAt full k (input_fact y) → k < place

-- each name was drawn once, and then is free, a process's the adversary's or of a lock
pub record NamesPart (agents : List (Option Agent)) (c : Config) (s : RuleState) (holders : List Holder) : Type 0 where
  -- Fr was made of it once at most
  pub once : (n : ℕ) → total (count_name n) s.made ≤ 1
  -- and then it is in a live Fr, a process's, the adversary's, a tag's that is under way, or an open lock's, and of one of these alone
  pub shares : (n : ℕ) → total (count_fact (fresh_fact (fresh n))) s.facts + (total (count_name n) c.made + (total (count_name n) c.own + total (count_tag n) agents)) + total (count_holder n) holders ≤ total (count_name n) s.made

-- what the rules know and what the adversary knows
pub record KnowledgePart (g : Sig) (c : Config) (s : RuleState) : Type 0 where
  -- what the rules know is a derivation
  pub derivation : IsDerivation g c.own c.frame (reverse s.known)
  -- what is put out was sent
  pub outs : (k : ℕ) (f : Fact) → slice_get s.facts k ≡ Some (Some f) → (x : Tree) → f ≡ out_fact x → Member x c.frame
  -- what was sent is known or under way
  pub framed : (x : Tree) → Member x c.frame → Member x s.known ⊎ (0 < total (count_fact (out_fact x)) s.facts)
  -- the adversary's names are known
  pub owned : (n : ℕ) → Member n c.own → Member (fresh n) s.known

-- what the trace leaves at x
pub record Stored (tr : Trace) (x v : Tree) : Type 0 where
  pub place : ℕ
  pub inserted : ShowsAt tr place (insert_fact x v)
  pub deletes : (k : ℕ) → ShowsAt tr k (delete_fact x) → k < place
  pub inserts : (z : Tree) (k : ℕ) → ShowsAt tr k (insert_fact x z) → k ≤ place

-- the trace leaves nothing at x
abbrev pub NotSet : Trace → Tree → Type 0
NotSet tr x = (v : Tree) (j : ℕ) → ShowsAt tr j (insert_fact x v) → (k : ℕ) × ShowsAt tr k (delete_fact x) × (j < k)

-- the store is what the full trace leaves
pub record StorePart (g : Sig) (store : Tree → Option Tree) (full : Trace) : Type 0 where
  -- a value is what the last insertion left
  pub held : (x v : Tree) → store x ≡ Some v → Stored full x v
  -- and a message
  pub values : (x v : Tree) → store x ≡ Some v → IsMessage g Msg v
  -- where there is none, each insertion was followed by a deletion
  pub empty : (x : Tree) → store x ≡ None → NotSet full x
  -- one time inserts one value
  pub single : (i : ℕ) (x a b : Tree) → ShowsAt full i (insert_fact x a) → ShowsAt full i (insert_fact x b) → a ≡ b

-- the last event is a K event that an input can show in its place: the configuration is reached without it
pub record Retractable (g : Sig) (start : Proc) (c : Config) (tr : Trace) (x : Tree) : Type 0 where
  pub before : Trace
  pub reached : ProcessRun g (initial start) c before
  pub is : tr ≡ before ++ shown (k_fact x ∷ [])
  pub derived : CanGive g c x

-- the traces: what is seen of the full trace is the trace of the process
pub record TracePart (g : Sig) (start : Proc) (pending : Option Tree) (c : Config) (tr full : Trace) : Type 0 where
  -- what is seen of the full trace is the trace, and what is pending
  pub shows : hide full ≡ tr ++ pending_place pending
  -- the adversary can give what is pending
  pub waiting : (x : Tree) → pending ≡ Some x → CanGive g c x
  -- the K event that is free for an input is pending, or can be taken back
  pub free : (x : Tree) → Free full x → (pending ≡ Some x) ⊎ ((pending ≡ None) × Retractable g start c tr x)
  -- what the restrictions demand but that of one start, which the relation says itself
  pub demands : MeetsSix (equations g) full
  pub store : StorePart g c.store full

-- thread t holds m by its label l
pub record Holding (e : Equations) (holders : List Holder) (t : ℕ) (env : Env) (l : ℕ) (m : Tree) : Type 0 where
  pub holder : Holder
  pub among : Member holder holders
  pub thread : holder.thread ≡ t
  pub label : holder.label ≡ l
  pub known : is_known (var_names env.scope) (lock_var l).name ≡ true
  pub bound : env.choice (lock_var l) ≡ fresh holder.name
  pub form : IsNormalForm e (instance (chosen env) m) holder.term
  pub within : Within (names env) m

-- the thread holds each lock that it is to unlock
abbrev pub Covered : Equations → List Holder → ℕ → Agent → Type 0
Covered e holders t a = (o : List (ℕ × Tree)) × UnlocksAreOpen o (rest_of a) × ((l : ℕ) (m : Tree) → Member (l, m) o → Holding e holders t (env_of a) l m)

-- the locks: what is held, and by whom
pub record LocksPart (e : Equations) (agents : List (Option Agent)) (held : Tree → Bool) (holders : List Holder) (full : Trace) : Type 0 where
  pub part : LockPart held holders full
  pub covers : (t : ℕ) (a : Agent) → slice_get agents t ≡ Some (Some a) → Covered e holders t a

-- a configuration with its trace and a rule state with its full trace stand for each other, thread by thread
pub record Related (g : Sig) (start : Proc) (agents : List (Option Agent)) (pending : Option Tree) (c : Config) (tr : Trace) (s : RuleState) (full : Trace) : Type 0 where
  -- each thread stands where it says
  pub placed : AllPlaced g start agents
  -- the threads of the configuration are these
  pub threads : SameThreads agents c
  -- their state facts, those of replications that have started and of senders that wait included, are those of the rule state
  pub facts : SameFacts agents s
  -- the facts of embedded rules are the same on both sides
  pub pile : SamePile s.facts c.facts
  -- either the rules have started, or the process is before its first step
  pub init : total is_unborn agents + total has_init full ≡ 1
  -- the locks that are open
  pub holders : List Holder
  -- whose the names are
  pub names : NamesPart agents c s holders
  -- what the adversary knows
  pub knowledge : KnowledgePart g c s
  -- what is seen and what is pending, what the restrictions demand, and the store
  pub traces : TracePart g start pending c tr full
  -- which terms are held, and by whom
  pub locks : LocksPart (equations g) agents c.held holders full
