-- Which lines of rules a conversion writes for a line of the process.
use Rattle.std.specs.Prelude.{◌≡◌, ℕ, ◌+◌, List, [], ◌∷◌, ◌++◌, Option, Some, None, map, length, codes, slice_get, slice_set}
use Rattle.sap_terms.specs.Choice.{Choice}
use Rattle.sap_terms.specs.Equations.{equations}
use Rattle.sap_terms.specs.Normal.{IsNormalForm}
use Rattle.sap_terms.specs.Signature.{Sig}
use Rattle.sap_terms.specs.Tree.{Tree, fresh}
use Rattle.sap_terms.specs.Variables.{tree_vars, facts_vars}
use Rattle.sap_terms.specs.View.{tree}
use Rattle.sap_terms.specs.declared.binding.Binding.{Binding}
use Rattle.sap_terms.specs.declared.fact.Fact.{Fact}
use Rattle.sap_terms.specs.declared.var.Var.{Var}
use Rattle.sap_process.specs.Action.{new, out, send, input, receive, event, insert, delete, lock, unlock, embedded}
use Rattle.sap_process.specs.Configuration.{Config}
use Rattle.sap_process.specs.Proc.{Proc, nil, parallel, replicated, act, test, lookup}
use Rattle.sap_process.specs.Sites.{fresh_var, message_var}
use Rattle.sap_process.specs.Scopes.{lock_var}
use Rattle.sap_runs.specs.declared.process_step.PStep.{PStep}
use Rattle.sap_runs.specs.declared.process_step.PStep.TheVariants as line
use Rattle.sap_runs.specs.declared.rule_step.RStep.{RStep}
use Rattle.sap_runs.specs.declared.rule_step.RStep.TheVariants.{Fresh, Learn, Own, Public, Apply, Know}
pub use Rattle.sap_rule_lines.specs.RuleLines.{numbers_from}
use Rattle.sap_templates.specs.Templates.{first_of, second_of}
use Rattle.sap_translate.specs.relation.Agents.{Agent, running, copying}
use Rattle.sap_translate.specs.relation.Answers.{term_under, widened, goes_on, goes_aside}
use Rattle.sap_translate.specs.relation.Envs.{Env, just, join}
use Rattle.sap_rule_lines.specs.Least.{IsNext}
use Rattle.sap_forward.specs.LinesFor.{uses}
use Rattle.sap_forward.specs.Tables.{RuleTables}

-- thread t stands at the place with this path, before this, under number k
pub record Seated (agents : List (Option Agent)) (tables : RuleTables) (t k : ℕ) (path : List ℕ) (env : Env) (body : Proc) : Type 0 where
  pub thread : slice_get agents t ≡ Some (Some (running path env body))
  pub number : slice_get tables.threads t ≡ Some k

-- it is a replication that has started
pub record SeatedCopying (agents : List (Option Agent)) (tables : RuleTables) (t k : ℕ) (path : List ℕ) (env : Env) (body : Proc) : Type 0 where
  pub thread : slice_get agents t ≡ Some (Some (copying path env body))
  pub number : slice_get tables.threads t ≡ Some k

-- this many facts come, of which the last stands for thread t
abbrev pub moved : RuleTables → (t come : ℕ) → RuleTables
moved tables t come = record tables { threads = slice_set tables.threads t (tables.count + come); count = tables.count + come + 1 }

-- one more fact comes, which stands for a new thread
abbrev pub with_thread_fact : RuleTables → RuleTables
with_thread_fact tables = record tables { threads = tables.threads ++ tables.count ∷ []; count = tables.count + 1 }

-- this many facts come
abbrev pub with_facts : RuleTables → ℕ → RuleTables
with_facts tables come = record tables { count = tables.count + come }

-- a name is given to a lock or a tag
abbrev pub gives : RuleTables → ℕ → RuleTables
gives tables n = record tables { next = n + 1 }

-- this many facts of the process come
abbrev pub with_process_facts : RuleTables → ℕ → RuleTables
with_process_facts tables come = record tables { facts = tables.facts ++ numbers_from tables.count come; count = tables.count + come }

-- The threads, the configuration and the tables before, the line of the process, the lines that are written for it, and the threads
-- and the tables behind.
pub data IsWrittenAsRules (g : Sig) (drawn : List ℕ) (agents : List (Option Agent)) (c : Config) (tables : RuleTables) : PStep → List RStep → List (Option Agent) → RuleTables → Type 0 where
  ends : (t k : ℕ) (path : List ℕ) (env : Env) → Seated agents tables t k path env nil
      → IsWrittenAsRules g drawn agents c tables (line.Nil t) (uses (codes "Nil_") path (k ∷ []) [] ∷ []) (slice_set agents t None) tables
  splits : (t k : ℕ) (path : List ℕ) (env : Env) (p q : Proc) → Seated agents tables t k path env (parallel p q)
      → IsWrittenAsRules g drawn agents c tables (line.Par t) (uses (codes "Par_") path (k ∷ []) [] ∷ [])
      (goes_on agents t path env p ++ Some (running (second_of path) env q) ∷ []) (with_thread_fact (moved tables t 0))
  -- a replication starts with its first copy
  copies_first : (t k : ℕ) (path : List ℕ) (env : Env) (p : Proc) → Seated agents tables t k path env (replicated p)
      → IsWrittenAsRules g drawn agents c tables (line.Rep t) (uses (codes "RepStart_") path (k ∷ []) [] ∷ uses (codes "RepCopy_") path (tables.count ∷ []) [] ∷ [])
      (slice_set agents t (Some (copying path env p)) ++ Some (running (first_of path) env p) ∷ []) (with_thread_fact (moved tables t 0))
  copies_more : (t k : ℕ) (path : List ℕ) (env : Env) (p : Proc) → SeatedCopying agents tables t k path env p
      → IsWrittenAsRules g drawn agents c tables (line.Rep t) (uses (codes "RepCopy_") path (k ∷ []) [] ∷ []) (agents ++ Some (running (first_of path) env p) ∷ []) (with_thread_fact tables)
  makes_name : (t k n : ℕ) (path : List ℕ) (env : Env) (x : Var) (p : Proc) → Seated agents tables t k path env (act (new x) p)
      → IsWrittenAsRules g drawn agents c tables (line.New t n) (Fresh n ∷ uses (codes "New_") path (k ∷ tables.count ∷ []) [] ∷ [])
      (goes_on agents t path (join env (just (fresh_var x) (fresh n))) p) (moved tables t 1)
  -- what is sent is learnt
  outputs : (t k : ℕ) (path : List ℕ) (env : Env) (m : Tree) (p : Proc) → Seated agents tables t k path env (act (out m) p)
      → IsWrittenAsRules g drawn agents c tables (line.Out t) (uses (codes "Out_") path (k ∷ []) [] ∷ Learn tables.count ∷ []) (goes_on agents t path env p) (moved tables t 1)
  outputs_on : (t k j : ℕ) (path : List ℕ) (env : Env) (m n : Tree) (p : Proc) → Seated agents tables t k path env (act (send m n) p)
      → IsWrittenAsRules g drawn agents c tables (line.Send t j) (Know j ∷ uses (codes "OutAdv_") path (k ∷ tables.count ∷ []) [] ∷ Learn (tables.count + 1) ∷ [])
      (goes_on agents t path env p) (moved tables t 2)
  inputs : (t k j : ℕ) (path : List ℕ) (env : Env) (m : Tree) (σ : Choice) (p : Proc) → Seated agents tables t k path env (act (input m) p)
      → IsWrittenAsRules g drawn agents c tables (line.In t j) (Know j ∷ uses (codes "In_") path (k ∷ tables.count ∷ []) [] ∷ [])
      (goes_on agents t path (widened env σ (tree_vars m)) p) (moved tables t 1)
  inputs_on : (t k j : ℕ) (path : List ℕ) (env : Env) (m n : Tree) (σ : Choice) (p : Proc) → Seated agents tables t k path env (act (receive m n) p)
      → IsWrittenAsRules g drawn agents c tables (line.In t j) (Know j ∷ uses (codes "InAdv_") path (k ∷ tables.count ∷ []) [] ∷ [])
      (goes_on agents t path (widened env σ (tree_vars n)) p) (moved tables t 1)
  -- two threads meet under a tag
  meets : (a b j k n : ℕ) (path at : List ℕ) (env other : Env) (m u l r : Tree) (σ : Choice) (p q : Proc) → Seated agents tables a j path env (act (send m u) p)
      → Seated agents tables b k at other (act (receive l r) q) → IsNext drawn tables.next n
      → IsWrittenAsRules g drawn agents c tables (line.Sync a b)
      (Fresh n ∷ uses (codes "OutMsg_") path (j ∷ tables.count ∷ []) [] ∷ uses (codes "InMsg_") at (k ∷ (tables.count + 1) ∷ []) []
      ∷ uses (codes "OutAck_") path ((tables.count + 2) ∷ (tables.count + 3) ∷ []) [] ∷ [])
      (goes_on (goes_on agents b at (widened other σ (tree_vars r)) q) a path env p) (gives (moved (moved tables b 4) a 0) n)
  agrees : (t k : ℕ) (path : List ℕ) (env : Env) (m n : Tree) (p q : Proc) → Seated agents tables t k path env (test m n p q)
      → IsWrittenAsRules g drawn agents c tables (line.Then t) (uses (codes "Then_") path (k ∷ []) [] ∷ []) (goes_on agents t path env p) (moved tables t 0)
  differs : (t k : ℕ) (path : List ℕ) (env : Env) (m n : Tree) (p q : Proc) → Seated agents tables t k path env (test m n p q)
      → IsWrittenAsRules g drawn agents c tables (line.Else t) (uses (codes "Else_") path (k ∷ []) [] ∷ []) (goes_aside agents t path env q) (moved tables t 0)
  shows : (t k : ℕ) (path : List ℕ) (env : Env) (f : Fact) (p : Proc) → Seated agents tables t k path env (act (event f) p)
      → IsWrittenAsRules g drawn agents c tables (line.Event t) (uses (codes "Event_") path (k ∷ []) [] ∷ []) (goes_on agents t path env p) (moved tables t 0)
  inserts : (t k : ℕ) (path : List ℕ) (env : Env) (m n : Tree) (p : Proc) → Seated agents tables t k path env (act (insert m n) p)
      → IsWrittenAsRules g drawn agents c tables (line.Insert t) (uses (codes "Insert_") path (k ∷ []) [] ∷ []) (goes_on agents t path env p) (moved tables t 0)
  deletes : (t k : ℕ) (path : List ℕ) (env : Env) (m : Tree) (p : Proc) → Seated agents tables t k path env (act (delete m) p)
      → IsWrittenAsRules g drawn agents c tables (line.Delete t) (uses (codes "Delete_") path (k ∷ []) [] ∷ []) (goes_on agents t path env p) (moved tables t 0)
  -- the variable that is bound stands for the value that was found
  finds : (t k : ℕ) (path : List ℕ) (env : Env) (m x v : Tree) (y : Var) (b : Binding) (p q : Proc) → Seated agents tables t k path env (lookup m y p q)
      → IsNormalForm (equations g) (term_under env m) x → c.store x ≡ Some v → b.var ≡ message_var y → tree b.term ≡ v
      → IsWrittenAsRules g drawn agents c tables (line.Found t) (uses (codes "Found_") path (k ∷ []) (b ∷ []) ∷ []) (goes_on agents t path (join env (just (message_var y) v)) p) (moved tables t 0)
  misses : (t k : ℕ) (path : List ℕ) (env : Env) (m : Tree) (y : Var) (p q : Proc) → Seated agents tables t k path env (lookup m y p q)
      → IsWrittenAsRules g drawn agents c tables (line.Missing t) (uses (codes "Missing_") path (k ∷ []) [] ∷ []) (goes_aside agents t path env q) (moved tables t 0)
  locks : (t k n : ℕ) (path : List ℕ) (env : Env) (m : Tree) (l : ℕ) (p : Proc) → Seated agents tables t k path env (act (lock m l) p) → IsNext drawn tables.next n
      → IsWrittenAsRules g drawn agents c tables (line.Lock t) (Fresh n ∷ uses (codes "Lock_") path (k ∷ tables.count ∷ []) [] ∷ [])
      (goes_on agents t path (join env (just (lock_var l) (fresh n))) p) (gives (moved tables t 1) n)
  unlocks : (t k : ℕ) (path : List ℕ) (env : Env) (m : Tree) (l : ℕ) (p : Proc) → Seated agents tables t k path env (act (unlock m l) p)
      → IsWrittenAsRules g drawn agents c tables (line.Unlock t) (uses (codes "Unlock_") path (k ∷ []) [] ∷ []) (goes_on agents t path env p) (moved tables t 0)
  -- the facts that are taken have the numbers of the table
  embeds : (t k : ℕ) (ks js : List ℕ) (b : List Binding) (path : List ℕ) (env : Env) (l e r : List Fact) (σ : Choice) (p : Proc) → Seated agents tables t k path env (act (embedded l e r) p)
      → map (slice_get tables.facts) ks ≡ map Some js
      → IsWrittenAsRules g drawn agents c tables (line.Embedded t ks b) (uses (codes "Rule_") path (k ∷ js) b ∷ [])
      (goes_on agents t path (widened env σ (facts_vars (l ++ (e ++ r)))) p) (with_process_facts (moved tables t 0) (length r))
  names : (n : ℕ) → IsWrittenAsRules g drawn agents c tables (line.Name n) (Fresh n ∷ Own tables.count ∷ []) agents (with_facts tables 1)
  writes : (a : List ℕ) → IsWrittenAsRules g drawn agents c tables (line.Public a) (Public a ∷ []) agents tables
  applies : (f ks : List ℕ) → IsWrittenAsRules g drawn agents c tables (line.Apply f ks) (Apply f ks ∷ []) agents tables
  knows : (k : ℕ) → IsWrittenAsRules g drawn agents c tables (line.Know k) (Know k ∷ []) agents (with_facts tables 1)
