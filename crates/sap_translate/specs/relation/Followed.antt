-- The cases of the steps of rules, each rule by its template, and how the process follows each: of both sides together, the agents,
-- what is pending, the configuration with its trace, and the state of rules with its full trace.
use Rattle.std.specs.Prelude.{◌≡◌, ℕ, true, false, ◌^◌, ◌<◌, ◌++◌, List, [], ◌∷◌, Option, Some, None, slice_get, slice_set, length, All, Contains}
use Rattle.sap_terms.specs.AdversaryFacts.{k_fact, in_fact, out_fact, fr_fact}
use Rattle.sap_terms.specs.Choice.{Choice, instance}
use Rattle.sap_terms.specs.Equations.{equations, app2, pair_name}
use Rattle.sap_terms.specs.Modulo.{instance_fact, instance_facts, IsFormOfFact, AreFormsOfFacts}
use Rattle.sap_terms.specs.Normal.{IsNormalForm}
use Rattle.sap_terms.specs.Piles.{Pile, Takes, adds}
use Rattle.sap_terms.specs.Signature.{Sig, HoldsBuiltins, IsPublic, arity_of}
use Rattle.sap_terms.specs.Trace.{Trace, shown}
use Rattle.sap_terms.specs.Tree.{Tree, public, fresh, apply, trees_of}
use Rattle.sap_terms.specs.Variables.{tree_vars, facts_vars}
use Rattle.sap_terms.specs.declared.fact.Fact.{Fact}
use Rattle.sap_terms.specs.declared.var.Var.{Var}
use Rattle.sap_process.specs.Action.{new, out, send, input, receive, event, insert, delete, lock, unlock, embedded}
use Rattle.sap_process.specs.Configuration as config
use Rattle.sap_process.specs.Configuration.{Config, initial, becomes, spawns, sends_out, stores, holding}
use Rattle.sap_process.specs.Proc.{Proc, nil, parallel, replicated, act, test, lookup, node_count}
use Rattle.sap_process.specs.Ready.{IsReady}
use Rattle.sap_process.specs.Sites.{fresh_var, message_var}
use Rattle.sap_locks.specs.Annotation.{IsAnnotation}
use Rattle.sap_process.specs.Scopes.{lock_var}
use Rattle.sap_place.specs.StateFacts.{state_fact, tag, waits_fact}
use Rattle.sap_restrict.specs.Standard.{IsAdmitted}
use Rattle.sap_rule.specs.RuleSteps.{RuleState, RuleStep, IsUse, empty_state, leaves, gains}
use Rattle.sap_rule.specs.RuleSteps as state
use Rattle.sap_rule.specs.declared.rule.Rule.{Rule}
use Rattle.sap_templates.specs.ChannelFacts.{msg_fact}
use Rattle.sap_templates.specs.Templates.{rules_of, init_rule, first_of, second_of, nil_rule, parallel_rule, rep_start_rule, rep_copy_rule, new_rule, out_rule, out_adv_rule, out_msg_rule, out_ack_rule, in_rule, in_adv_rule, in_msg_rule, event_rule, insert_rule, delete_rule, lock_rule, unlock_rule, embedded_rule, then_rule, else_rule, found_rule, missing_rule}
use Rattle.sap_translate.specs.relation.Answers.{StandsBefore, Copies, term_under, under, widened, goes_on, goes_aside, gets}
use Rattle.sap_translate.specs.relation.Envs.{Env, no_env, names, chosen, values, just, join}
use Rattle.sap_translate.specs.relation.Follows.{Together, Follows, written}
use Rattle.sap_translate.specs.relation.ProcessMoves.{ProcessMove}
use Rattle.sap_translate.specs.relation.ProcessMoves as process
use Rattle.sap_translate.specs.relation.Agents.{Agent, unborn, running, copying, awaiting, received}
use Rattle.sap_translate.specs.relation.Related.{Free, pending_place}

-- the process has a run with which both sides are together
pub record IsFollowed (g : Sig) (start : Proc) (s : RuleState) (full : Trace) : Type 0 where
  pub agents : List (Option Agent)
  pub pending : Option Tree
  pub config : Config
  pub trace : Trace
  pub together : Together g start agents pending config trace s full

-- what a case says where both sides are together
abbrev pub RuleCase : Type 1
RuleCase = Sig → Proc → List (Option Agent) → Option Tree → Config → Trace → RuleState → Trace → Type 0

-- so it is wherever both sides are together, of each process that is the annotation of one that is ready, over a signature that
-- holds what its builtins declare
abbrev pub WhereTogether : RuleCase → Type 0
WhereTogether P =
    (g : Sig) (p q : Proc) → HoldsBuiltins g → IsReady g p → node_count p < 2 ^ 64 → IsAnnotation p q → (agents : List (Option Agent)) (pending : Option Tree) (c : Config) (tr : Trace) (s : RuleState) (full : Trace)
    → Together g q agents pending c tr s full → P g q agents pending c tr s full

-- the rule is used on the facts with these numbers, and the full trace behind counts
pub record IsUsed (g : Sig) (s : RuleState) (full : Trace) (r : Rule) (ks : List ℕ) (σ : Choice) (left acts right : List Fact) (rest : Pile) : Type 0 where
  pub takes : Takes s.facts ks left rest
  pub fits : IsUse g r σ left acts right
  pub admitted : IsAdmitted g (full ++ acts ∷ [])

-- `Init`: the process stays, before its first step
abbrev pub FollowsInit : RuleCase
FollowsInit g start agents pending c tr s full =
    (t : ℕ) (body : Proc) (σ : Choice) (left acts right : List Fact) (rest : Pile)
    → slice_get agents t ≡ Some (Some (unborn body)) → IsUsed g s full init_rule [] σ left acts right rest
    → Follows g start pending c tr full [] [] c pending (slice_set agents t (Some (running [] no_env body))) (leaves s (adds rest right)) acts

-- `Nil_`: the thread ends
abbrev pub FollowsNil : RuleCase
FollowsNil g start agents pending c tr s full =
    (t k : ℕ) (path : List ℕ) (env : Env) (σ : Choice) (left acts right : List Fact) (rest : Pile)
    → StandsBefore agents s t k path env (nil) → IsUsed g s full (nil_rule path (names env)) (k ∷ []) σ left acts right rest
    → Follows g start pending c tr full (process.ends t ∷ []) [] (becomes c t None) pending (slice_set agents t None) (leaves s (adds rest right)) acts

-- `Par_`: the parallel splits
abbrev pub FollowsParallel : RuleCase
FollowsParallel g start agents pending c tr s full =
    (t k : ℕ) (path : List ℕ) (env : Env) (p q : Proc) (σ : Choice) (left acts right : List Fact) (rest : Pile)
    → StandsBefore agents s t k path env (parallel p q) → IsUsed g s full (parallel_rule path (names env)) (k ∷ []) σ left acts right rest
    → Follows g start pending c tr full (process.splits t ∷ []) [] (spawns (becomes c t (Some (under env p))) (under env q)) pending (goes_on agents t path env p ++ Some (running (second_of path) env q) ∷ []) (leaves s (adds rest right)) acts

-- `RepStart_`: the process stays; the replication has started
abbrev pub FollowsRepStart : RuleCase
FollowsRepStart g start agents pending c tr s full =
    (t k : ℕ) (path : List ℕ) (env : Env) (p : Proc) (σ : Choice) (left acts right : List Fact) (rest : Pile)
    → StandsBefore agents s t k path env (replicated p) → IsUsed g s full (rep_start_rule path (names env)) (k ∷ []) σ left acts right rest
    → Follows g start pending c tr full [] [] c pending (slice_set agents t (Some (copying path env p))) (leaves s (adds rest right)) acts

-- `RepCopy_`: the replication has one copy more
abbrev pub FollowsRepCopy : RuleCase
FollowsRepCopy g start agents pending c tr s full =
    (t k : ℕ) (path : List ℕ) (env : Env) (p : Proc) (σ : Choice) (left acts right : List Fact) (rest : Pile)
    → Copies agents s t k path env p → IsUsed g s full (rep_copy_rule path (names env)) (k ∷ []) σ left acts right rest
    → Follows g start pending c tr full (process.copies t ∷ []) [] (spawns c (under env p)) pending (agents ++ Some (running (first_of path) env p) ∷ []) (leaves s (adds rest right)) acts

-- `New_`: the process makes the name that Fr was made of
abbrev pub FollowsNew : RuleCase
FollowsNew g start agents pending c tr s full =
    (t k j n : ℕ) (path : List ℕ) (env : Env) (x : Var) (p : Proc) (σ : Choice) (left acts right : List Fact) (rest : Pile)
    → StandsBefore agents s t k path env (act (new x) p) → IsUsed g s full (new_rule path (names env) x) (k ∷ j ∷ []) σ left acts right rest → σ (fresh_var x) ≡ fresh n
    → let wider : Env = join env (just (fresh_var x) (fresh n)) in
    Follows g start pending c tr full (process.makes_name t n ∷ []) [] (config.makes (becomes c t (Some (under wider p))) n) pending (goes_on agents t path wider p) (leaves s (adds rest right)) acts

-- `Out_`: the adversary gets the message
abbrev pub FollowsOut : RuleCase
FollowsOut g start agents pending c tr s full =
    (t k : ℕ) (path : List ℕ) (env : Env) (m n : Tree) (p : Proc) (σ : Choice) (left acts right : List Fact) (rest : Pile)
    → StandsBefore agents s t k path env (act (out m) p) → IsUsed g s full (out_rule path (names env) m) (k ∷ []) σ left acts right rest → IsNormalForm (equations g) (term_under env m) n
    → Follows g start pending c tr full (process.outputs t ∷ []) [] (sends_out (becomes c t (Some (under env p))) n) pending (goes_on agents t path env p) (leaves s (adds rest right)) acts

-- `OutAdv_`, where K of the channel is pending: the adversary gets the message, and the process shows K
abbrev pub FollowsOutAdv : RuleCase
FollowsOutAdv g start agents pending c tr s full =
    (t k j : ℕ) (path : List ℕ) (env : Env) (m u x n : Tree) (p : Proc) (σ : Choice) (left acts right : List Fact) (rest : Pile)
    → StandsBefore agents s t k path env (act (send m u) p) → IsUsed g s full (out_adv_rule path (names env) m u) (k ∷ j ∷ []) σ left acts right rest → IsNormalForm (equations g) (term_under env m) x → IsNormalForm (equations g) (term_under env u) n → pending ≡ Some x
    → Follows g start pending c tr full (process.outputs_on t ∷ []) ((k_fact x ∷ []) ∷ []) (sends_out (becomes c t (Some (under env p))) n) None (goes_on agents t path env p) (leaves s (adds rest right)) acts

-- `OutMsg_`: the process stays; the message is under way
abbrev pub FollowsOutMsg : RuleCase
FollowsOutMsg g start agents pending c tr s full =
    (t k j n : ℕ) (path : List ℕ) (env : Env) (m u x v : Tree) (p : Proc) (σ : Choice) (left acts right : List Fact) (rest : Pile)
    → StandsBefore agents s t k path env (act (send m u) p) → IsUsed g s full (out_msg_rule path (names env) m u) (k ∷ j ∷ []) σ left acts right rest → IsNormalForm (equations g) (term_under env m) x → IsNormalForm (equations g) (term_under env u) v → σ tag ≡ fresh n
    → Follows g start pending c tr full [] [] c pending (slice_set agents t (Some (awaiting path env m u x v p n))) (leaves s (adds rest right)) acts

-- `OutAck_`: the process stays; the sender goes on
abbrev pub FollowsOutAck : RuleCase
FollowsOutAck g start agents pending c tr s full =
    (t k j n : ℕ) (path : List ℕ) (env : Env) (m u : Tree) (p : Proc) (σ : Choice) (left acts right : List Fact) (rest : Pile)
    → slice_get agents t ≡ Some (Some (received path env m u p n)) → slice_get s.facts k ≡ Some (Some (waits_fact path (values env ++ fresh n ∷ []))) → IsUsed g s full (out_ack_rule path (names env)) (k ∷ j ∷ []) σ left acts right rest
    → Follows g start pending c tr full [] [] c pending (goes_on agents t path env p) (leaves s (adds rest right)) acts

-- `In_`, where K of the message is pending: the process takes the message, and shows K
abbrev pub FollowsIn : RuleCase
FollowsIn g start agents pending c tr s full =
    (t k j : ℕ) (path : List ℕ) (env : Env) (m x : Tree) (p : Proc) (σ : Choice) (left acts right : List Fact) (rest : Pile)
    → StandsBefore agents s t k path env (act (input m) p) → IsUsed g s full (in_rule path (names env) m) (k ∷ j ∷ []) σ left acts right rest → IsNormalForm (equations g) (instance σ m) x → pending ≡ Some x
    → let wider : Env = widened env σ (tree_vars m) in
    Follows g start pending c tr full (process.inputs t σ ∷ []) ((k_fact x ∷ []) ∷ []) (becomes c t (Some (under wider p))) None (goes_on agents t path wider p) (leaves s (adds rest right)) acts

-- `InAdv_`, where K of the pair is pending: the process takes the message, and shows K
abbrev pub FollowsInAdv : RuleCase
FollowsInAdv g start agents pending c tr s full =
    (t k j : ℕ) (path : List ℕ) (env : Env) (m u x : Tree) (p : Proc) (σ : Choice) (left acts right : List Fact) (rest : Pile)
    → StandsBefore agents s t k path env (act (receive m u) p) → IsUsed g s full (in_adv_rule path (names env) m u) (k ∷ j ∷ []) σ left acts right rest → IsNormalForm (equations g) (instance σ (app2 pair_name m u)) x → pending ≡ Some x
    → let wider : Env = widened env σ (tree_vars u) in
    Follows g start pending c tr full (process.inputs_on t σ ∷ []) ((k_fact x ∷ []) ∷ []) (becomes c t (Some (under wider p))) None (goes_on agents t path wider p) (leaves s (adds rest right)) acts

-- `InMsg_`: the process of the message and this one meet; the sender waits until its tag is acknowledged
abbrev pub FollowsInMsg : RuleCase
FollowsInMsg g start agents pending c tr s full =
    (a t k j n : ℕ) (at path : List ℕ) (other env : Env) (m u x v l r : Tree) (p q : Proc) (σ : Choice) (left acts right : List Fact) (rest : Pile)
    → slice_get agents a ≡ Some (Some (awaiting at other m u x v p n)) → slice_get s.facts j ≡ Some (Some (msg_fact (fresh n) x v)) → StandsBefore agents s t k path env (act (receive l r) q) → IsUsed g s full (in_msg_rule path (names env) l r) (k ∷ j ∷ []) σ left acts right rest
    → let wider : Env = widened env σ (tree_vars r) in
    Follows g start pending c tr full (process.meets a t σ ∷ []) [] (becomes (becomes c a (Some (under other p))) t (Some (under wider q))) pending (goes_on (slice_set agents a (Some (received at other m u p n))) t path wider q) (leaves s (adds rest right)) acts

-- `Event_`: the process shows what is pending, and then the fact
abbrev pub FollowsEvent : RuleCase
FollowsEvent g start agents pending c tr s full =
    (t k : ℕ) (path : List ℕ) (env : Env) (f h : Fact) (p : Proc) (σ : Choice) (left acts right : List Fact) (rest : Pile)
    → StandsBefore agents s t k path env (act (event f) p) → IsUsed g s full (event_rule path (names env) f) (k ∷ []) σ left acts right rest → IsFormOfFact (equations g) (instance_fact (chosen env) f) h
    → Follows g start pending c tr full (written pending ++ process.shows t ∷ []) (pending_place pending ++ (h ∷ []) ∷ []) (becomes c t (Some (under env p))) None (goes_on agents t path env p) (leaves s (adds rest right)) acts

-- `Insert_`: the store has the value at the key
abbrev pub FollowsInsert : RuleCase
FollowsInsert g start agents pending c tr s full =
    (t k : ℕ) (path : List ℕ) (env : Env) (m u x v : Tree) (p : Proc) (σ : Choice) (left acts right : List Fact) (rest : Pile)
    → StandsBefore agents s t k path env (act (insert m u) p) → IsUsed g s full (insert_rule path (names env) m u) (k ∷ []) σ left acts right rest → IsNormalForm (equations g) (term_under env m) x → IsNormalForm (equations g) (term_under env u) v
    → Follows g start pending c tr full (process.inserts t ∷ []) [] (stores (becomes c t (Some (under env p))) x (Some v)) pending (goes_on agents t path env p) (leaves s (adds rest right)) acts

-- `Delete_`: or nothing
abbrev pub FollowsDelete : RuleCase
FollowsDelete g start agents pending c tr s full =
    (t k : ℕ) (path : List ℕ) (env : Env) (m x : Tree) (p : Proc) (σ : Choice) (left acts right : List Fact) (rest : Pile)
    → StandsBefore agents s t k path env (act (delete m) p) → IsUsed g s full (delete_rule path (names env) m) (k ∷ []) σ left acts right rest → IsNormalForm (equations g) (term_under env m) x
    → Follows g start pending c tr full (process.deletes t ∷ []) [] (stores (becomes c t (Some (under env p))) x None) pending (goes_on agents t path env p) (leaves s (adds rest right)) acts

-- `Lock_`: the process holds the term, which nobody holds
abbrev pub FollowsLock : RuleCase
FollowsLock g start agents pending c tr s full =
    (t k j n : ℕ) (path : List ℕ) (env : Env) (m x : Tree) (l : ℕ) (p : Proc) (σ : Choice) (left acts right : List Fact) (rest : Pile)
    → StandsBefore agents s t k path env (act (lock m l) p) → IsUsed g s full (lock_rule path (names env) m l) (k ∷ j ∷ []) σ left acts right rest → IsNormalForm (equations g) (term_under env m) x → σ (lock_var l) ≡ fresh n
    → let wider : Env = join env (just (lock_var l) (fresh n)) in
    Follows g start pending c tr full (process.locks t ∷ []) [] (holding (becomes c t (Some (under env p))) x true) pending (goes_on agents t path wider p) (leaves s (adds rest right)) acts

-- `Unlock_`: the term isn't held from now on
abbrev pub FollowsUnlock : RuleCase
FollowsUnlock g start agents pending c tr s full =
    (t k : ℕ) (path : List ℕ) (env : Env) (m x : Tree) (l : ℕ) (p : Proc) (σ : Choice) (left acts right : List Fact) (rest : Pile)
    → StandsBefore agents s t k path env (act (unlock m l) p) → IsUsed g s full (unlock_rule path (names env) m l) (k ∷ []) σ left acts right rest → IsNormalForm (equations g) (term_under env m) x
    → Follows g start pending c tr full (process.unlocks t ∷ []) [] (holding (becomes c t (Some (under env p))) x false) pending (goes_on agents t path env p) (leaves s (adds rest right)) acts

-- `Then_`: the terms are equal
abbrev pub FollowsThen : RuleCase
FollowsThen g start agents pending c tr s full =
    (t k : ℕ) (path : List ℕ) (env : Env) (m n : Tree) (p q : Proc) (σ : Choice) (left acts right : List Fact) (rest : Pile)
    → StandsBefore agents s t k path env (test m n p q) → IsUsed g s full (then_rule path (names env) m n) (k ∷ []) σ left acts right rest
    → Follows g start pending c tr full (process.agrees t ∷ []) [] (becomes c t (Some (under env p))) pending (goes_on agents t path env p) (leaves s (adds rest right)) acts

-- `Else_`: they differ
abbrev pub FollowsElse : RuleCase
FollowsElse g start agents pending c tr s full =
    (t k : ℕ) (path : List ℕ) (env : Env) (m n : Tree) (p q : Proc) (σ : Choice) (left acts right : List Fact) (rest : Pile)
    → StandsBefore agents s t k path env (test m n p q) → IsUsed g s full (else_rule path (names env) m n) (k ∷ []) σ left acts right rest
    → Follows g start pending c tr full (process.differs t ∷ []) [] (becomes c t (Some (under env q))) pending (goes_aside agents t path env q) (leaves s (adds rest right)) acts

-- `Found_`: the process finds the value
abbrev pub FollowsFound : RuleCase
FollowsFound g start agents pending c tr s full =
    (t k : ℕ) (path : List ℕ) (env : Env) (m v : Tree) (y : Var) (p q : Proc) (σ : Choice) (left acts right : List Fact) (rest : Pile)
    → StandsBefore agents s t k path env (lookup m y p q) → IsUsed g s full (found_rule path (names env) m y) (k ∷ []) σ left acts right rest → σ (message_var y) ≡ v
    → let wider : Env = join env (just (message_var y) v) in
    Follows g start pending c tr full (process.finds t ∷ []) [] (becomes c t (Some (under wider p))) pending (goes_on agents t path wider p) (leaves s (adds rest right)) acts

-- `Missing_`: it finds none
abbrev pub FollowsMissing : RuleCase
FollowsMissing g start agents pending c tr s full =
    (t k : ℕ) (path : List ℕ) (env : Env) (m : Tree) (y : Var) (p q : Proc) (σ : Choice) (left acts right : List Fact) (rest : Pile)
    → StandsBefore agents s t k path env (lookup m y p q) → IsUsed g s full (missing_rule path (names env) m) (k ∷ []) σ left acts right rest
    → Follows g start pending c tr full (process.misses t ∷ []) [] (becomes c t (Some (under env q))) pending (goes_aside agents t path env q) (leaves s (adds rest right)) acts

-- the moves by which the process shows what is pending before it shows this; none where this is nothing
abbrev pub shows_first : List Fact → Option Tree → List ProcessMove
shows_first [] pending = []
shows_first (f ∷ fs) pending = written pending

-- what they show
abbrev pub pending_first : List Fact → Option Tree → Trace
pending_first [] pending = []
pending_first (f ∷ fs) pending = pending_place pending

-- what is pending behind
abbrev pub stays_pending : List Fact → Option Tree → Option Tree
stays_pending [] pending = pending
stays_pending (f ∷ fs) pending = None

-- `Rule_`: the embedded rule takes the same facts, under any numbers that they have among those of the process. Where it shows
-- nothing, what is pending stays so; else the process shows it first.
abbrev pub FollowsRule : RuleCase
FollowsRule g start agents pending c tr s full =
    (t k : ℕ) (js ks : List ℕ) (path : List ℕ) (env : Env) (l a o : List Fact) (p : Proc) (σ : Choice) (taken shows gives acts right : List Fact) (rest others : Pile)
    → StandsBefore agents s t k path env (act (embedded l a o) p) → IsUsed g s full (embedded_rule path (names env) l a o) (k ∷ js) σ (state_fact path (values env) ∷ taken) acts right rest
    → Takes c.facts ks taken others → AreFormsOfFacts (equations g) (instance_facts σ a) shows → AreFormsOfFacts (equations g) (instance_facts σ o) gives
    → let wider : Env = widened env σ (facts_vars (l ++ (a ++ o))) in let d : Config = config.leaves (becomes c t (Some (under wider p))) (adds others gives) in
    Follows g start pending c tr full (shows_first shows pending ++ process.embeds t ks σ ∷ []) (pending_first shows pending ++ shown shows) d (stays_pending shows pending) (goes_on agents t path wider p) (leaves s (adds rest right)) acts

-- Fr is made of a name: the process stays
abbrev pub FollowsFresh : RuleCase
FollowsFresh g start agents pending c tr s full = (n : ℕ) → ¬ Contains s.made n → Follows g start pending c tr full [] [] c pending agents (state.makes s n) []

-- the adversary learns what was sent: the process stays
abbrev pub FollowsLearn : RuleCase
FollowsLearn g start agents pending c tr s full = (k : ℕ) (t : Tree) (rest : Pile) → Takes s.facts (k ∷ []) (out_fact t ∷ []) rest → Follows g start pending c tr full [] [] c pending agents (gains (leaves s rest) t) []

-- it takes a name that Fr was made of: it makes the name
abbrev pub FollowsOwn : RuleCase
FollowsOwn g start agents pending c tr s full =
    (k n : ℕ) (rest : Pile) → Takes s.facts (k ∷ []) (fr_fact n ∷ []) rest → Follows g start pending c tr full (process.adversary_makes n ∷ []) [] (config.owns c n) pending agents (gains (leaves s rest) (fresh n)) []

-- it knows a public name: the process stays
abbrev pub FollowsPublic : RuleCase
FollowsPublic g start agents pending c tr s full = (a : List ℕ) → Follows g start pending c tr full [] [] c pending agents (gains s (public a)) []

-- it applies a symbol: the process stays
abbrev pub FollowsApply : RuleCase
FollowsApply g start agents pending c tr s full =
    (f : List ℕ) (ts : List Tree) (t : Tree) → IsPublic g f → arity_of g f ≡ Some (length ts) → All (Contains s.known) ts → IsNormalForm (equations g) (apply f (trees_of ts)) t
    → Follows g start pending c tr full [] [] c pending agents (gains s t) []

-- it gives a term: the process shows what is pending, and K of the term is pending
abbrev pub FollowsGive : RuleCase
FollowsGive g start agents pending c tr s full =
    (t : Tree) → Contains s.known t → Follows g start pending c tr full (written pending) (pending_place pending) c (Some t) agents (gets s (in_fact t ∷ [])) (k_fact t ∷ [])

-- A K event that an input may take is pending, or was the last that the process showed, and can be taken back.
abbrev pub TakesBack : RuleCase
TakesBack g start agents pending c tr s full =
    (x : Tree) → Free full x → (before : Trace) × Together g start agents (Some x) c before s full × (tr ++ pending_place pending ≡ before ++ (k_fact x ∷ []) ∷ [])

-- Each step of the rules is followed, where the full trace behind counts.
abbrev pub FollowsEvery : RuleCase
FollowsEvery g start agents pending c tr s full =
    (acts : List Fact) (z : RuleState) → RuleStep g (rules_of start) s acts z → IsAdmitted g (full ++ acts ∷ []) → IsFollowed g start z (full ++ acts ∷ [])

-- Both sides are together before the rules start: nothing is pending.
abbrev pub Begins : Sig → Proc → Type 0
Begins g start = Together g start (Some (unborn start) ∷ []) None (initial start) [] empty_state []
