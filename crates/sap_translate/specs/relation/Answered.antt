-- The cases of the steps of a process, and what answers each: of both sides at rest, the agents, the configuration with its
-- trace, and the state of rules with its full trace.
use Rattle.std.specs.Prelude.{◌≡◌, ℕ, ◌+◌, ◌^◌, ◌<◌, false, true, List, [], ◌∷◌, ◌++◌, Option, Some, None, slice_set, length, Contains}
use Rattle.sap_terms.specs.AdversaryFacts.{k_fact, in_fact, out_fact}
use Rattle.sap_terms.specs.Choice.{Choice, instance}
use Rattle.sap_terms.specs.Equal.{IsTheoryEqual}
use Rattle.sap_terms.specs.Equations.{equations, app2, pair_name}
use Rattle.sap_terms.specs.Message.{IsMessageChoice}
use Rattle.sap_terms.specs.Modulo.{instance_fact, instance_facts, IsFormOfFact, AreEqualFacts, AreFormsOfFacts}
use Rattle.sap_terms.specs.Normal.{IsNormalForm}
use Rattle.sap_terms.specs.Piles.{Pile, Takes, adds}
use Rattle.sap_terms.specs.Signature.{Sig, HoldsBuiltins}
use Rattle.sap_terms.specs.Trace.{Trace}
use Rattle.sap_terms.specs.Tree.{Tree, fresh}
use Rattle.sap_terms.specs.Variables.{tree_vars, facts_vars}
use Rattle.sap_terms.specs.declared.fact.Fact.{Fact}
use Rattle.sap_terms.specs.declared.var.Var.{Var}
use Rattle.sap_process.specs.Action.{new, out, send, input, receive, event, insert, delete, lock, unlock, embedded}
use Rattle.sap_process.specs.Configuration as config
use Rattle.sap_process.specs.Configuration.{Config, initial, becomes, spawns, sends_out, stores, holding, IsUnused, CanGive}
use Rattle.sap_process.specs.Proc.{Proc, nil, parallel, replicated, act, test, lookup, node_count}
use Rattle.sap_process.specs.ProcessSteps.{ProcessStep, Fits}
use Rattle.sap_process.specs.Ready.{IsReady}
use Rattle.sap_process.specs.Sites.{fresh_var, message_var}
use Rattle.sap_formula.specs.Hide.{hide}
use Rattle.sap_locks.specs.Annotation.{IsAnnotation}
use Rattle.sap_process.specs.Scopes.{lock_var}
use Rattle.sap_place.specs.StateFacts.{state_fact, copies_fact, waits_fact, tag}
use Rattle.sap_restrict.specs.ReservedFacts.{init_fact, event_fact, input_fact, eq_fact, not_eq_fact, insert_fact, delete_fact, is_in_fact, is_not_set_fact, lock_fact, unlock_fact}
use Rattle.sap_restrict.specs.Standard.{IsAdmitted}
use Rattle.sap_rule.specs.RuleSteps.{RuleState, empty_state, leaves, gains}
use Rattle.sap_rule.specs.RuleSteps as state
use Rattle.sap_templates.specs.ChannelFacts.{msg_fact, ack_fact}
use Rattle.sap_templates.specs.Templates.{second_of, first_of, nil_rule, parallel_rule, rep_start_rule, rep_copy_rule, new_rule, out_rule, out_adv_rule, out_msg_rule, out_ack_rule, in_rule, in_adv_rule, in_msg_rule, event_rule, insert_rule, delete_rule, lock_rule, unlock_rule, embedded_rule, embedded_acts, then_rule, else_rule, found_rule, missing_rule}
use Rattle.sap_translate.specs.relation.Answers.{AtRest, StandsBefore, Copies, Answers, term_under, under, widened, at_first, at_second, goes_on, goes_aside, without_facts, trades, gets, Learnt, IsAnswered}
use Rattle.sap_translate.specs.relation.Envs.{Env, no_env, names, chosen, values, filled, just, join}
use Rattle.sap_translate.specs.relation.ProcessMoves as process
use Rattle.sap_translate.specs.relation.Agents.{Agent, running, copying}
use Rattle.sap_translate.specs.relation.RuleMoves as rules
use Rattle.sap_translate.specs.relation.RuleMoves.{RuleMove, RuleMoves}

-- what a case says where both sides rest
abbrev pub Case : Type 1
Case = Sig → Proc → List (Option Agent) → Config → Trace → RuleState → Trace → Type 0

-- so it is wherever both sides rest, of each process that is the annotation of one that is ready, over a signature that holds
-- what its builtins declare
abbrev pub WhereAtRest : Case → Type 0
WhereAtRest P =
    (g : Sig) (p q : Proc) → HoldsBuiltins g → IsReady g p → node_count p < 2 ^ 64 → IsAnnotation p q → (agents : List (Option Agent)) (c : Config) (tr : Trace) (s : RuleState) (full : Trace)
    → AtRest g q agents c tr s full → P g q agents c tr s full

-- a thread that has nothing left ends: `Nil_`
abbrev pub Ends : Case
Ends g start agents c tr s full =
    (t k : ℕ) (path : List ℕ) (env : Env) → StandsBefore agents s t k path env nil
    → Answers g start c tr s full (process.ends t) [] (becomes c t None)
    (rules.uses (nil_rule path (names env)) (k ∷ []) (filled env) ∷ []) ([] ∷ []) (trades s (k ∷ []) []) (slice_set agents t None)

-- a parallel splits: `Par_`
abbrev pub Splits : Case
Splits g start agents c tr s full =
    (t k : ℕ) (path : List ℕ) (env : Env) (p q : Proc) → StandsBefore agents s t k path env (parallel p q)
    → Answers g start c tr s full (process.splits t) [] (spawns (becomes c t (Some (under env p))) (under env q))
    (rules.uses (parallel_rule path (names env)) (k ∷ []) (filled env) ∷ []) ([] ∷ [])
    (trades s (k ∷ []) (at_first path env ∷ at_second path env ∷ [])) (goes_on agents t path env p ++ Some (running (second_of path) env q) ∷ [])

-- a replication that has not started has its first copy: `RepStart_`, `RepCopy_`
abbrev pub CopiesFirst : Case
CopiesFirst g start agents c tr s full =
    (t k : ℕ) (path : List ℕ) (env : Env) (p : Proc) → StandsBefore agents s t k path env (replicated p)
    → Answers g start c tr s full (process.copies t) [] (spawns c (under env p))
    (rules.uses (rep_start_rule path (names env)) (k ∷ []) (filled env) ∷ rules.uses (rep_copy_rule path (names env)) (length s.facts ∷ []) (filled env) ∷ []) ([] ∷ [] ∷ [])
    (gets (trades s (k ∷ []) (copies_fact path (values env) ∷ [])) (at_first path env ∷ []))
    (slice_set agents t (Some (copying path env p)) ++ Some (running (first_of path) env p) ∷ [])

-- a replication that has started has one copy more: `RepCopy_`
abbrev pub CopiesMore : Case
CopiesMore g start agents c tr s full =
    (t k : ℕ) (path : List ℕ) (env : Env) (p : Proc) → Copies agents s t k path env p
    → Answers g start c tr s full (process.copies t) [] (spawns c (under env p))
    (rules.uses (rep_copy_rule path (names env)) (k ∷ []) (filled env) ∷ []) ([] ∷ [])
    (gets s (at_first path env ∷ [])) (agents ++ Some (running (first_of path) env p) ∷ [])

-- a process makes a name, of which Fr was not made: Fr is made of it, `New_`
abbrev pub MakesName : Case
MakesName g start agents c tr s full =
    (t k n : ℕ) (path : List ℕ) (env : Env) (x : Var) (p : Proc) → StandsBefore agents s t k path env (act (new x) p) → IsUnused c n → ¬ Contains s.made n
    → let wider : Env = join env (just (fresh_var x) (fresh n)) in
    Answers g start c tr s full (process.makes_name t n) [] (config.makes (becomes c t (Some (under wider p))) n)
    (rules.makes_name n ∷ rules.uses (new_rule path (names env) x) (k ∷ length s.facts ∷ []) (filled wider) ∷ []) ([] ∷ [] ∷ [])
    (trades (state.makes s n) (k ∷ length s.facts ∷ []) (at_first path wider ∷ [])) (goes_on agents t path wider p)

-- the adversary gets a message: `Out_`
abbrev pub Outputs : Case
Outputs g start agents c tr s full =
    (t k : ℕ) (path : List ℕ) (env : Env) (m n : Tree) (p : Proc) → StandsBefore agents s t k path env (act (out m) p) → IsNormalForm (equations g) (term_under env m) n
    → Answers g start c tr s full (process.outputs t) [] (sends_out (becomes c t (Some (under env p))) n)
    (rules.uses (out_rule path (names env) m) (k ∷ []) (filled env) ∷ []) ([] ∷ [])
    (trades s (k ∷ []) (out_fact n ∷ at_first path env ∷ [])) (goes_on agents t path env p)

-- it gets one on a channel that it can give, and that the rules know: K of the channel, `OutAdv_`
abbrev pub OutputsOn : Case
OutputsOn g start agents c tr s full =
    (t k : ℕ) (path : List ℕ) (env : Env) (m u x n : Tree) (p : Proc) → StandsBefore agents s t k path env (act (send m u) p)
    → IsNormalForm (equations g) (term_under env m) x → CanGive g c x → IsNormalForm (equations g) (term_under env u) n → Contains s.known x
    → Answers g start c tr s full (process.outputs_on t) (k_fact x ∷ []) (sends_out (becomes c t (Some (under env p))) n)
    (rules.gives x ∷ rules.uses (out_adv_rule path (names env) m u) (k ∷ length s.facts ∷ []) (filled env) ∷ []) ((k_fact x ∷ []) ∷ (input_fact x ∷ []) ∷ [])
    (trades (gets s (in_fact x ∷ [])) (k ∷ length s.facts ∷ []) (out_fact n ∷ at_first path env ∷ [])) (goes_on agents t path env p)

-- it gives a message that fits, and that the rules know: K of the message, `In_`
abbrev pub Inputs : Case
Inputs g start agents c tr s full =
    (t k : ℕ) (path : List ℕ) (env : Env) (m x : Tree) (p : Proc) (σ : Choice) → StandsBefore agents s t k path env (act (input m) p)
    → CanGive g c x → Fits g σ (term_under env m) x → Contains s.known x
    → let wider : Env = widened env σ (tree_vars m) in
    Answers g start c tr s full (process.inputs t σ) (k_fact x ∷ []) (becomes c t (Some (under wider p)))
    (rules.gives x ∷ rules.uses (in_rule path (names env) m) (k ∷ length s.facts ∷ []) (filled wider) ∷ []) ((k_fact x ∷ []) ∷ (input_fact x ∷ []) ∷ [])
    (trades (gets s (in_fact x ∷ [])) (k ∷ length s.facts ∷ []) (at_first path wider ∷ [])) (goes_on agents t path wider p)

-- it gives a channel and a message that fits as a pair, which the rules know: K of the pair, `InAdv_`
abbrev pub InputsOn : Case
InputsOn g start agents c tr s full =
    (t k : ℕ) (path : List ℕ) (env : Env) (m u x : Tree) (p : Proc) (σ : Choice) → StandsBefore agents s t k path env (act (receive m u) p)
    → CanGive g c x → IsMessageChoice g σ → IsTheoryEqual (equations g) (app2 pair_name (term_under env m) (instance σ (term_under env u))) x → Contains s.known x
    → let wider : Env = widened env σ (tree_vars u) in
    Answers g start c tr s full (process.inputs_on t σ) (k_fact x ∷ []) (becomes c t (Some (under wider p)))
    (rules.gives x ∷ rules.uses (in_adv_rule path (names env) m u) (k ∷ length s.facts ∷ []) (filled wider) ∷ []) ((k_fact x ∷ []) ∷ (input_fact x ∷ []) ∷ [])
    (trades (gets s (in_fact x ∷ [])) (k ∷ length s.facts ∷ []) (at_first path wider ∷ [])) (goes_on agents t path wider p)

-- the rule state once Fr is made of the tag n, and the message is under way
abbrev pub under_way : RuleState → (k n : ℕ) → List ℕ → Env → (x v : Tree) → RuleState
under_way s k n path env x v = trades (state.makes s n) (k ∷ length s.facts ∷ []) (msg_fact (fresh n) x v ∷ waits_fact path (values env ++ fresh n ∷ []) ∷ [])

-- and once it came
abbrev pub come : RuleState → (k m n : ℕ) → List ℕ → Env → RuleState
come s k m n path env = trades s (k ∷ m ∷ []) (ack_fact (fresh n) ∷ at_first path env ∷ [])

-- Two processes meet on a channel: Fr is made of a tag, which may be any name of which it was not made; then `OutMsg_`, `InMsg_`,
-- `OutAck_`.
abbrev pub Meets : Case
Meets g start agents c tr s full =
    (a b j k n : ℕ) (path at : List ℕ) (env other : Env) (m u l r x v : Tree) (p q : Proc) (σ : Choice) → StandsBefore agents s a j path env (act (send m u) p) → StandsBefore agents s b k at other (act (receive l r) q)
    → IsTheoryEqual (equations g) (term_under env m) (term_under other l) → Fits g σ (term_under other r) (term_under env u)
    → IsNormalForm (equations g) (term_under env m) x → IsNormalForm (equations g) (term_under env u) v → ¬ Contains s.made n
    → let wider : Env = widened other σ (tree_vars r) in let tagged : Env = just tag (fresh n) in let e : ℕ = length s.facts in
    Answers g start c tr s full (process.meets a b σ) [] (becomes (becomes c a (Some (under env p))) b (Some (under wider q)))
    (rules.makes_name n ∷ rules.uses (out_msg_rule path (names env) m u) (j ∷ e ∷ []) (filled (join env tagged)) ∷ rules.uses (in_msg_rule at (names other) l r) (k ∷ (e + 1) ∷ []) (filled (join wider tagged))
    ∷ rules.uses (out_ack_rule path (names env)) ((e + 2) ∷ (e + 3) ∷ []) (filled (join env tagged)) ∷ []) ([] ∷ [] ∷ [] ∷ [] ∷ [])
    (trades (come (under_way s j n path env x v) k (e + 1) n at wider) ((e + 2) ∷ (e + 3) ∷ []) (at_first path env ∷ []))
    (goes_on (goes_on agents b at wider q) a path env p)

-- two terms are equal: `Then_`
abbrev pub Agrees : Case
Agrees g start agents c tr s full =
    (t k : ℕ) (path : List ℕ) (env : Env) (m n x y : Tree) (p q : Proc) → StandsBefore agents s t k path env (test m n p q) → IsTheoryEqual (equations g) (term_under env m) (term_under env n)
    → IsNormalForm (equations g) (term_under env m) x → IsNormalForm (equations g) (term_under env n) y
    → Answers g start c tr s full (process.agrees t) [] (becomes c t (Some (under env p)))
    (rules.uses (then_rule path (names env) m n) (k ∷ []) (filled env) ∷ []) ((eq_fact x y ∷ []) ∷ []) (trades s (k ∷ []) (at_first path env ∷ [])) (goes_on agents t path env p)

-- or differ: `Else_`
abbrev pub Differs : Case
Differs g start agents c tr s full =
    (t k : ℕ) (path : List ℕ) (env : Env) (m n x y : Tree) (p q : Proc) → StandsBefore agents s t k path env (test m n p q) → ¬ IsTheoryEqual (equations g) (term_under env m) (term_under env n)
    → IsNormalForm (equations g) (term_under env m) x → IsNormalForm (equations g) (term_under env n) y
    → Answers g start c tr s full (process.differs t) [] (becomes c t (Some (under env q)))
    (rules.uses (else_rule path (names env) m n) (k ∷ []) (filled env) ∷ []) ((not_eq_fact x y ∷ []) ∷ []) (trades s (k ∷ []) (at_second path env ∷ [])) (goes_aside agents t path env q)

-- an event shows its fact: `Event_`
abbrev pub Shows : Case
Shows g start agents c tr s full =
    (t k : ℕ) (path : List ℕ) (env : Env) (f h : Fact) (p : Proc) → StandsBefore agents s t k path env (act (event f) p) → IsFormOfFact (equations g) (instance_fact (chosen env) f) h
    → Answers g start c tr s full (process.shows t) (h ∷ []) (becomes c t (Some (under env p)))
    (rules.uses (event_rule path (names env) f) (k ∷ []) (filled env) ∷ []) ((event_fact ∷ h ∷ []) ∷ []) (trades s (k ∷ []) (at_first path env ∷ [])) (goes_on agents t path env p)

-- the store has a value at a key from now on: `Insert_`
abbrev pub Inserts : Case
Inserts g start agents c tr s full =
    (t k : ℕ) (path : List ℕ) (env : Env) (m u x v : Tree) (p : Proc) → StandsBefore agents s t k path env (act (insert m u) p) → IsNormalForm (equations g) (term_under env m) x → IsNormalForm (equations g) (term_under env u) v
    → Answers g start c tr s full (process.inserts t) [] (stores (becomes c t (Some (under env p))) x (Some v))
    (rules.uses (insert_rule path (names env) m u) (k ∷ []) (filled env) ∷ []) ((insert_fact x v ∷ []) ∷ []) (trades s (k ∷ []) (at_first path env ∷ [])) (goes_on agents t path env p)

-- or nothing: `Delete_`
abbrev pub Deletes : Case
Deletes g start agents c tr s full =
    (t k : ℕ) (path : List ℕ) (env : Env) (m x : Tree) (p : Proc) → StandsBefore agents s t k path env (act (delete m) p) → IsNormalForm (equations g) (term_under env m) x
    → Answers g start c tr s full (process.deletes t) [] (stores (becomes c t (Some (under env p))) x None)
    (rules.uses (delete_rule path (names env) m) (k ∷ []) (filled env) ∷ []) ((delete_fact x ∷ []) ∷ []) (trades s (k ∷ []) (at_first path env ∷ [])) (goes_on agents t path env p)

-- a process finds a value: `Found_`
abbrev pub Finds : Case
Finds g start agents c tr s full =
    (t k : ℕ) (path : List ℕ) (env : Env) (m x v : Tree) (y : Var) (p q : Proc) → StandsBefore agents s t k path env (lookup m y p q) → IsNormalForm (equations g) (term_under env m) x → c.store x ≡ Some v
    → let wider : Env = join env (just (message_var y) v) in
    Answers g start c tr s full (process.finds t) [] (becomes c t (Some (under wider p)))
    (rules.uses (found_rule path (names env) m y) (k ∷ []) (filled wider) ∷ []) ((is_in_fact x v ∷ []) ∷ []) (trades s (k ∷ []) (at_first path wider ∷ [])) (goes_on agents t path wider p)

-- or none: `Missing_`
abbrev pub Misses : Case
Misses g start agents c tr s full =
    (t k : ℕ) (path : List ℕ) (env : Env) (m x : Tree) (y : Var) (p q : Proc) → StandsBefore agents s t k path env (lookup m y p q) → IsNormalForm (equations g) (term_under env m) x → c.store x ≡ None
    → Answers g start c tr s full (process.misses t) [] (becomes c t (Some (under env q)))
    (rules.uses (missing_rule path (names env) m) (k ∷ []) (filled env) ∷ []) ((is_not_set_fact x ∷ []) ∷ []) (trades s (k ∷ []) (at_second path env ∷ [])) (goes_aside agents t path env q)

-- a process holds a term: Fr is made of a name for the lock, which may be any of which it was not made; then `Lock_`
abbrev pub Locks : Case
Locks g start agents c tr s full =
    (t k n : ℕ) (path : List ℕ) (env : Env) (m x : Tree) (l : ℕ) (p : Proc) → StandsBefore agents s t k path env (act (lock m l) p) → IsNormalForm (equations g) (term_under env m) x → c.held x ≡ false → ¬ Contains s.made n
    → let wider : Env = join env (just (lock_var l) (fresh n)) in
    Answers g start c tr s full (process.locks t) [] (holding (becomes c t (Some (under env p))) x true)
    (rules.makes_name n ∷ rules.uses (lock_rule path (names env) m l) (k ∷ length s.facts ∷ []) (filled wider) ∷ []) ([] ∷ (lock_fact (fresh n) x ∷ []) ∷ [])
    (trades (state.makes s n) (k ∷ length s.facts ∷ []) (at_first path wider ∷ [])) (goes_on agents t path wider p)

-- from now on a term isn't held: `Unlock_`
abbrev pub Unlocks : Case
Unlocks g start agents c tr s full =
    (t k : ℕ) (path : List ℕ) (env : Env) (m x : Tree) (l : ℕ) (p : Proc) → StandsBefore agents s t k path env (act (unlock m l) p) → IsNormalForm (equations g) (term_under env m) x
    → Answers g start c tr s full (process.unlocks t) [] (holding (becomes c t (Some (under env p))) x false)
    (rules.uses (unlock_rule path (names env) m l) (k ∷ []) (filled env) ∷ []) ((unlock_fact (env.choice (lock_var l)) x ∷ []) ∷ []) (trades s (k ∷ []) (at_first path env ∷ [])) (goes_on agents t path env p)

-- An embedded rule takes facts, shows facts and adds facts: `Rule_` takes the same, which may have any numbers among the facts of
-- the state.
abbrev pub Embeds : Case
Embeds g start agents c tr s full =
    (t k : ℕ) (path : List ℕ) (env : Env) (l a o : List Fact) (p : Proc) (ks js : List ℕ) (σ : Choice) (left acts right : List Fact) (rest others : Pile) → StandsBefore agents s t k path env (act (embedded l a o) p)
    → IsMessageChoice g σ → AreEqualFacts (equations g) (instance_facts σ (instance_facts (chosen env) l)) left → Takes c.facts ks left rest
    → AreFormsOfFacts (equations g) (instance_facts σ (instance_facts (chosen env) a)) acts → AreFormsOfFacts (equations g) (instance_facts σ (instance_facts (chosen env) o)) right
    → Takes (slice_set s.facts k None) js left others
    → let wider : Env = widened env σ (facts_vars (l ++ (a ++ o))) in
    Answers g start c tr s full (process.embeds t ks σ) acts (config.leaves (becomes c t (Some (under wider p))) (adds rest right))
    (rules.uses (embedded_rule path (names env) l a o) (k ∷ js) (filled wider) ∷ []) (embedded_acts acts ∷ [])
    (leaves s (adds others (at_first path wider ∷ right))) (goes_on agents t path wider p)

-- the adversary makes a name, of which Fr was not made: Fr is made of it, and the adversary takes it
abbrev pub AdversaryMakes : Case
AdversaryMakes g start agents c tr s full =
    (n : ℕ) → IsUnused c n → ¬ Contains s.made n
    → Answers g start c tr s full (process.adversary_makes n) [] (config.owns c n) (rules.makes_name n ∷ rules.owns (length s.facts) n ∷ []) ([] ∷ [] ∷ [])
    (gains (leaves (state.makes s n) (without_facts (state.makes s n).facts (length s.facts ∷ []))) (fresh n)) agents

-- the adversary shows a term that it can give, and that the rules know: K of it
abbrev pub Knows : Case
Knows g start agents c tr s full =
    (x : Tree) → CanGive g c x → Contains s.known x → Answers g start c tr s full (process.knows x) (k_fact x ∷ []) c (rules.gives x ∷ []) ((k_fact x ∷ []) ∷ []) (gets s (in_fact x ∷ [])) agents

-- what the adversary can give, the rules can come to know
abbrev pub Deduces : Case
Deduces g start agents c tr s full = (x : Tree) → CanGive g c x → Learnt g start agents c tr s full x

-- Each step is answered, where Fr was made neither of the name that the step draws nor of n, which serves for a lock or a tag.
abbrev pub Every : Case
Every g start agents c tr s full =
    (label : List Fact) (d : Config) (step : ProcessStep g c label d) (n : ℕ) → ((m : ℕ) → Contains (process.drawn_by (process.process_move step)) m → ¬ Contains s.made m) → ¬ Contains s.made n
    → IsAnswered g start c tr s full label d (process.drawn_by (process.process_move step) ++ n ∷ [])

-- Both sides show the same, and the full trace is admitted.
abbrev pub ShowsTheSame : Case
ShowsTheSame g start agents c tr s full = (hide full ≡ tr) × IsAdmitted g full

-- Both sides rest once the rules have started: one thread stands before the whole process.
abbrev pub Starts : Sig → Proc → Type 0
Starts g start = AtRest g start (Some (running [] no_env start) ∷ []) (initial start) [] (gets empty_state (state_fact [] [] ∷ [])) ((init_fact ∷ []) ∷ [])
