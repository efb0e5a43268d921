-- The relation is kept when both sides move together.
use Rattle.sap_translate.proofs.Premises.LowerLaws.{Laws}
use Rattle.sap_restrict.specs.ReservedFacts.{init_fact, event_fact, input_fact}
use Rattle.sap_translate.specs.Members.{Member}
use Rattle.sap_translate.specs.relation.Shown.{MeetsSix}
use Rattle.sap_formula.specs.Hide.{hide, visible}
use Rattle.sap_translate.proofs.Traces.Demands.{NoDemand, no_demand_one, no_demand_more, fine_asks_none, demands_quiet, demands_input, fine_writes_none, fine_locks_none}
use Rattle.sap_translate.proofs.Terms.Derive.{derivation_grows, derivation_push, all_reversed, known_entry, contains}
use Rattle.sap_translate.proofs.Shared.Facts.{names_apart, eq_true, same_fact_self, same_fact_true}
use Rattle.sap_translate.proofs.Terms.Forms.{fresh_message}
use Rattle.sap_translate.proofs.Parts.Holders.{locks_set, locks_none, locks_push, locks_quiet, longer, no_open}
use Rattle.sap_translate.proofs.Shared.Inputs.{free_know, event_frees_none, input_frees_none, last_same, same_k_fact}
use Rattle.sap_translate.proofs.Traces.LockTraces.{NoLock, no_lock_none, no_lock_one, no_lock_more}
use Rattle.sap_translate.proofs.Shared.Lookups.{every-set, every_push, map-set, map_push, map-set_same, only_member, member_left, member_last, member_cases, in_left, in_right}
use Rattle.sap_translate.proofs.Terms.Choices.{good_none, good_just, just_free, good-append}
use Rattle.sap_translate.proofs.Parts.Parts.{Grows, facts_apart, knowledge_kept, names_kept, quiet_none, quiet_init, trace_rules, trace_acts, trace_silent, spot_below, without_absent, trace_both}
use Rattle.sap_translate.proofs.Traces.Store.{NoWrite, no_write_one, no_write_more, store_quiet}
use Rattle.sap_translate.proofs.Terms.Substitution.{instance_append, instance_none}
use Rattle.sap_translate.proofs.Shared.Takings.{takes_total, takes_every, every-adds}
use Rattle.sap_translate.proofs.Shared.Totals.{total-set, total-append}
use Rattle.sap_translate.proofs.Traces.Visible.{hide_push, event_visible, event_no_init}
use Rattle.sap_translate.specs.relation.Envs.{Env, names, chosen, GoodEnv, values, no_env, just, join}
use Rattle.sap_translate.specs.Scoped.{IsFree}
use Rattle.sap_translate.specs.relation.Names.{same_fact}
use Rattle.sap_templates.specs.ChannelFacts.{fresh_fact}
use Rattle.sap_translate.specs.relation.Totals.{total}
use Rattle.sap_translate.specs.OpenLocks.{UnlocksAreOpen}
use Rattle.sap_translate.specs.relation.Related.{Covered, TracePart, Related, Free, Retractable, StorePart}
use Rattle.sap_translate.specs.relation.Agents.{Agent, unborn, running, copying, process_of, IsAt, Placed, AllPlaced, is_unborn}
use Rattle.sap_translate.specs.relation.Counts.{count_live, count_owed, count_fact, count_name, count_tag, has_init, count_user}
use Rattle.sap_place.specs.StateFacts.{state_fact, copies_fact}
use Rattle.sap_templates.specs.Places.{scoped_place_at, root, child, ScopedPlace}
use Rattle.sap_process.specs.Places.{place}
use Rattle.sap_templates.specs.Templates.{first_of, second_of}
use Rattle.sap_process.specs.Configuration.{Config, initial, becomes, spawns, makes, owns, sends_out, CanGive}
use Rattle.sap_process.specs.Instance.{process_instance, without}
use Rattle.sap_process.specs.Proc.{Proc, act}
use Rattle.sap_process.specs.ProcessSteps.{ProcessStep, ProcessRun}
use Rattle.sap_rule.specs.RuleSteps.{RuleState, empty_state}
use Rattle.sap_terms.specs.AdversaryFacts.{k_fact, in_fact, out_fact}
use Rattle.sap_terms.specs.Deduce.{IsDerived}
use Rattle.sap_terms.specs.Normal.{IsNormal, IsNormalForm}
use Rattle.sap_terms.specs.Piles.{Takes, adds}
use Rattle.sap_terms.specs.Reserved.{is_reserved}
use Rattle.sap_terms.specs.Signature.{Sig, IsPublic, arity_of}
use Rattle.sap_terms.specs.Equations.{equations}
use Rattle.sap_terms.specs.Trace.{Trace, shown}
use Rattle.sap_process.specs.Sites.{fresh_var, message_var}
use Rattle.sap_terms.specs.Message.{IsMessage}
use Rattle.sap_terms.specs.declared.var.Sort.TheVariants.{Msg}
use Rattle.sap_terms.specs.Tree.{Tree, public, fresh, apply, trees_of}
use Rattle.sap_terms.specs.declared.fact.Fact.{Fact}
use Rattle.sap_terms.specs.declared.var.Var.{Var}
use Rattle.std.proofs.Common.{◌≡◌, ◌&&◌, reverse, ℕ, zero, suc, ◌+◌, ◌<◌, ◌≤◌, ◌==◌, ◌⊎◌, inl, inr, List, [], ◌∷◌, ◌++◌, Option, Some, None, refl, sym, ap, ◌∙◌, arith, Bool, true, false, cond, slice_get, slice_set, subst, append-nil, map}
use Rattle.std.specs.Option.{option_map}
use Rattle.std.specs.Prelude.{All, Contains, length}
use Rattle.sap_process.specs.Action as action
use Rattle.sap_process.specs.Proc as whole

pub same_grows : (c : Config) → Grows c c
same_grows c = record { own = λ n m. m; frame = λ x m. m }

pub threads_grow : (c : Config) (ts : List (Option Proc)) → Grows c (record c { threads = ts })
threads_grow c ts = record { own = λ n m. m; frame = λ x m. m }

pub threads_back : (c : Config) (ts : List (Option Proc)) → Grows (record c { threads = ts }) c
threads_back c ts = record { own = λ n m. m; frame = λ x m. m }

-- a fact that is no «Out»
not_out : (g : Fact) → ((x : Tree) → g.name ≡ (out_fact x).name → ⊥) → (f : Fact) → Member f (g ∷ []) → (x : Tree) → f ≡ out_fact x → ⊥
not_out g h f m x e = facts_apart g (out_fact x) (sym (only_member m) ∙ e) (h x)

not_fr : (g : Fact) → ((x : Tree) → g.name ≡ (fresh_fact x).name → ⊥) → (f : Fact) → Member f (g ∷ []) → (x : Tree) → f ≡ fresh_fact x → ⊥
not_fr g h f m x e = facts_apart g (fresh_fact x) (sym (only_member m) ∙ e) (h x)

state_no_fr : (path : List ℕ) (args : List Tree) (f : Fact) → Member f (state_fact path args ∷ []) → (x : Tree) → f ≡ fresh_fact x → ⊥
state_no_fr path args = not_fr (state_fact path args) (λ x e. cc)

semi_no_fr : (path : List ℕ) (args : List Tree) (f : Fact) → Member f (copies_fact path args ∷ []) → (x : Tree) → f ≡ fresh_fact x → ⊥
semi_no_fr path args = not_fr (copies_fact path args) (λ x e. cc)

in_no_fr : (y : Tree) (f : Fact) → Member f (in_fact y ∷ []) → (x : Tree) → f ≡ fresh_fact x → ⊥
in_no_fr y = not_fr (in_fact y) (λ x e. names_apart (in_fact y).name (fresh_fact x).name refl e)

no_fr : (f : Fact) → Member f [] → (x : Tree) → f ≡ fresh_fact x → ⊥
no_fr f m x e = elim m [ ]

out_state_no_fr : (y : Tree) (g : Fact) → ((f : Fact) → Member f (g ∷ []) → (x : Tree) → f ≡ fresh_fact x → ⊥) → (f : Fact) → Member f (out_fact y ∷ g ∷ []) → (x : Tree) → f ≡ fresh_fact x → ⊥
out_state_no_fr y g h f Member.here x e = facts_apart (out_fact y) (fresh_fact x) e (λ e. cc)
out_state_no_fr y g h f (Member.later m) x e = h f m x e

no_fact : (f : Fact) → Member f [] → (x : Tree) → f ≡ out_fact x → ⊥
no_fact f m x e = elim m [ ]

pub state_no_out : (path : List ℕ) (args : List Tree) (f : Fact) → Member f (state_fact path args ∷ []) → (x : Tree) → f ≡ out_fact x → ⊥
state_no_out path args = not_out (state_fact path args) (λ x e. cc)

two_no_out : (p q : List ℕ) (args : List Tree) (f : Fact) → Member f (state_fact p args ∷ state_fact q args ∷ []) → (x : Tree) → f ≡ out_fact x → ⊥
two_no_out p q args f Member.here x e = facts_apart (state_fact p args) (out_fact x) e (λ h. cc)
two_no_out p q args f (Member.later m) x e = state_no_out q args f m x e

semi_no_out : (path : List ℕ) (args : List Tree) (f : Fact) → Member f (copies_fact path args ∷ []) → (x : Tree) → f ≡ out_fact x → ⊥
semi_no_out path args = not_out (copies_fact path args) (λ x e. cc)

pub cond_cond : (b : Bool) → ◌≡◌ {A = ℕ} (cond (b && true) 1 0) (cond b 1 0)
cond_cond true = refl
cond_cond false = refl

-- an agent of a list becomes another, at its place
pub placed_set : (sig : Sig) (start : Proc) (agents : List (Option Agent)) (t : ℕ) (a : Agent) → AllPlaced sig start agents → Placed sig start a → AllPlaced sig start (slice_set agents t (Some a))
placed_set sig start agents t a all h = every-set (Placed sig start) agents t (Some a) all (λ b g. let same : a ≡ b = cc in subst (λ x. Placed sig start x) same h)

same_arg : (x y : Tree) → out_fact x ≡ out_fact y → x ≡ y
same_arg x y e = let h : (out_fact x).args ≡ (out_fact y).args = ap (λ (z : Fact). z.args) e in cc

-- the new facts of an output: the message can be derived
out_right : (d : Config) (y : Tree) (g : Fact) → Member y d.frame → ((f : Fact) → Member f (g ∷ []) → (x : Tree) → f ≡ out_fact x → ⊥) → (f : Fact) → Member f (out_fact y ∷ g ∷ []) → (x : Tree) → f ≡ out_fact x → Member x d.frame
out_right d y g h none f Member.here x e = subst (λ z. Member z d.frame) (same_arg y x e) h
out_right d y g h none f (Member.later m) x e = absurd (none f m x e)

out_framed : (c : Config) (x y : Tree) (before after : ℕ) (known : List Tree) → (Member x c.frame → Member x known ⊎ (0 < before)) → before ≤ after → (y ≡ x → 0 < after) → Member x (c.frame ++ y ∷ []) → Member x known ⊎ (0 < after)
out_framed c x y before after known old le new h = elim (member_cases c.frame (y ∷ []) h) [
  | in_left m ↦ elim (old m) [ inl a ↦ inl a | inr b ↦ inr (omega arith) ]
  | in_right m ↦ inr (new (sym (only_member m)))
]

absent_count : (m : ℕ) (names : List ℕ) → (Member m names → ⊥) → total (count_name m) names ≡ 0
absent_count m [] h = refl
absent_count m (k ∷ names) h = go (k == m) refl (absent_count m names (λ a. h (Member.later a)))
  where
    go : (b : Bool) → (k == m) ≡ b → total (count_name m) names ≡ 0 → cond b 1 0 + total (count_name m) names ≡ 0
    go true e z = absurd (h (rw (eq_true k m e) Member.here))
    go false e z = omega arith

fresh_once : (n m : ℕ) (names : List ℕ) → (Member n names → ⊥) → total (count_name m) names ≤ 1 → cond (n == m) 1 0 + total (count_name m) names ≤ 1
fresh_once n m names unused h = go (n == m) refl
  where
    none : n ≡ m → total (count_name m) names ≡ 0
    none e = absent_count m names (λ h. unused (rw e h))

    go : (b : Bool) → (n == m) ≡ b → cond b 1 0 + total (count_name m) names ≤ 1
    go true e = let z = none (eq_true n m e) in omega arith
    go false e = omega arith

pub first_taken : {facts rest : List (Option Fact)} {k : ℕ} {ks : List ℕ} {f : Fact} {fs : List Fact} → Takes facts (k ∷ ks) (f ∷ fs) rest → slice_get facts k ≡ Some (Some f)
first_taken (Takes.one e h) = e

fr_arg : (n : ℕ) (x : Tree) → fresh_fact (fresh n) ≡ fresh_fact x → x ≡ fresh n
fr_arg n x e = let h : (fresh_fact (fresh n)).args ≡ (fresh_fact x).args = ap (λ (z : Fact). z.args) e in cc

fr_no_out : (n : ℕ) (f : Fact) → Member f (fresh_fact (fresh n) ∷ []) → (x : Tree) → f ≡ out_fact x → ⊥
fr_no_out n = not_out (fresh_fact (fresh n)) (λ x e. cc)

owned_more : {own : List ℕ} (n m : ℕ) (known : List Tree) → (Member m own → Member (fresh m) known) → Member m (own ++ n ∷ []) → Member (fresh m) (known ++ fresh n ∷ [])
owned_more {own} n m known all h = elim (member_cases own (n ∷ []) h) [
  | in_left a ↦ member_left (fresh n ∷ []) (all a)
  | in_right b ↦ subst (λ k. Member (fresh k) (known ++ fresh n ∷ [])) (sym (only_member b)) (member_last known (fresh n))
]

module _ (laws : Laws) (sig : Sig) (start : Proc) (agents : List (Option Agent)) (pending : Option Tree) (c : Config) (tr : Trace) (s : RuleState) (full : Trace) (r : Related sig start agents pending c tr s full) where
  pub kept_init : (t : ℕ) (body : Proc) → slice_get agents t ≡ Some (Some (unborn body)) → Related sig start (slice_set agents t (Some (running [] no_env body))) pending c tr (record s { facts = adds s.facts (state_fact [] [] ∷ []) }) (full ++ (init_fact ∷ []) ∷ [])
  kept_init t body e =
      let new : Option Agent = Some (running [] no_env body) in
      record {
        placed = placed_set sig start agents t (running [] no_env body) r.placed (ap (λ p. let z : Option ScopedPlace = Some (place [] [] p) in z) (sym (r.placed t (unborn body) e)), good_none sig);
        threads = r.threads ∙ sym (map-set_same (option_map process_of) agents t (Some (unborn body)) new e (ap (λ p. Some p) ((instance_none laws) (chosen no_env) (λ x. refl) body)));
        facts = λ test. let owed = total-set (count_owed test) agents t (Some (unborn body)) new e in let live = total-append (count_live test) s.facts (Some (state_fact [] []) ∷ []) in let equal = r.facts test in omega arith;
        pile = λ test. let live = total-append (count_user test) s.facts (Some (state_fact [] []) ∷ []) in let equal = r.pile test in omega arith;
        holders = r.holders;
        locks = locks_set t (unborn body) (running [] no_env body) e (λ w. w) (locks_quiet (init_fact ∷ []) (no_lock_one init_fact refl) r.locks);
        init = let unborn = total-set is_unborn agents t (Some (unborn body)) new e in let inits = total-append has_init full ((init_fact ∷ []) ∷ []) in let one = r.init in omega arith;
        names = names_kept agents (slice_set agents t new) c c s [] [] s.facts (state_fact [] [] ∷ []) r.names Takes.nothing (λ n. let tags = total-set (count_tag n) agents t (Some (unborn body)) new e in omega arith);
        knowledge = knowledge_kept sig c c s [] [] s.facts (state_fact [] [] ∷ []) r.knowledge (same_grows c) (same_grows c) Takes.nothing (λ x. refl) (state_no_out [] []);
        traces = trace_rules sig start pending c tr full (init_fact ∷ []) r.traces quiet_init;
      }

  pub kept_nil : (t : ℕ) (ks : List ℕ) (path : List ℕ) (env : Env) (rest : List (Option Fact)) → slice_get agents t ≡ Some (Some (running path env whole.nil)) → Takes s.facts ks (state_fact path (values env) ∷ []) rest → ProcessStep sig c [] (becomes c t None) → Related sig start (slice_set agents t None) pending (becomes c t None) (tr ++ []) (record s { facts = adds rest [] }) (full ++ [] ∷ [])
  kept_nil t ks path env rest e takes step =
      let up = threads_grow c (slice_set c.threads t None) in
      let down = threads_back c (slice_set c.threads t None) in
      record {
        placed = every-set (Placed sig start) agents t None r.placed (λ a g. absurd (cc));
        threads = ap (λ ts. slice_set ts t None) r.threads ∙ sym (map-set (option_map process_of) agents t None);
        facts = λ test. let owed = total-set (count_owed test) agents t (Some (running path env whole.nil)) None e in let live = takes_total (count_live test) refl takes in let more = total-append (count_live test) rest [] in let equal = r.facts test in omega arith;
        pile = λ test. let live = takes_total (count_user test) refl takes in let more = total-append (count_user test) rest [] in let equal = r.pile test in omega arith;
        holders = r.holders;
        locks = locks_none t (locks_quiet [] no_lock_none r.locks);
        init = let unborn = total-set is_unborn agents t (Some (running path env whole.nil)) None e in let inits = total-append has_init full ([] ∷ []) in let one = r.init in omega arith;
        names = names_kept agents (slice_set agents t None) c (becomes c t None) s ks _ rest [] r.names takes (λ n. let tags = total-set (count_tag n) agents t (Some (running path env whole.nil)) None e in omega arith);
        knowledge = knowledge_kept sig c (becomes c t None) s ks _ rest [] r.knowledge up down takes (λ x. refl) no_fact;
        traces = trace_silent sig start pending c (becomes c t None) tr (full ++ [] ∷ []) (trace_rules sig start pending c tr full [] r.traces quiet_none) up refl step;
      }

  pub kept_rep_start : (t : ℕ) (ks : List ℕ) (path : List ℕ) (env : Env) (p : Proc) (rest : List (Option Fact)) → slice_get agents t ≡ Some (Some (running path env (whole.replicated p))) → Takes s.facts ks (state_fact path (values env) ∷ []) rest → Related sig start (slice_set agents t (Some (copying path env p))) pending c tr (record s { facts = adds rest (copies_fact path (values env) ∷ []) }) (full ++ [] ∷ [])
  kept_rep_start t ks path env p rest e takes =
      let new : Option Agent = Some (copying path env p) in
      let here : IsAt sig start path env (whole.replicated p) = r.placed t (running path env (whole.replicated p)) e in
      record {
        placed = placed_set sig start agents t (copying path env p) r.placed here;
        threads = r.threads ∙ sym (map-set_same (option_map process_of) agents t (Some (running path env (whole.replicated p))) new e refl);
        facts = λ test. let owed = total-set (count_owed test) agents t (Some (running path env (whole.replicated p))) new e in let live = takes_total (count_live test) refl takes in let more = total-append (count_live test) rest (Some (copies_fact path (values env)) ∷ []) in let equal = r.facts test in omega arith;
        pile = λ test. let live = takes_total (count_user test) refl takes in let more = total-append (count_user test) rest (Some (copies_fact path (values env)) ∷ []) in let equal = r.pile test in omega arith;
        holders = r.holders;
        locks = locks_set t (running path env (whole.replicated p)) (copying path env p) e (λ w. w) (locks_quiet ([]) (no_lock_none) r.locks);
        init = let unborn = total-set is_unborn agents t (Some (running path env (whole.replicated p))) new e in let inits = total-append has_init full ([] ∷ []) in let one = r.init in omega arith;
        names = names_kept agents (slice_set agents t new) c c s ks _ rest (copies_fact path (values env) ∷ []) r.names takes (λ n. let tags = total-set (count_tag n) agents t (Some (running path env (whole.replicated p))) new e in omega arith);
        knowledge = knowledge_kept sig c c s ks _ rest (copies_fact path (values env) ∷ []) r.knowledge (same_grows c) (same_grows c) takes (λ x. refl) (semi_no_out path (values env));
        traces = trace_rules sig start pending c tr full [] r.traces quiet_none;
      }

  pub kept_rep_copy : (t : ℕ) (ks : List ℕ) (path : List ℕ) (env : Env) (p : Proc) (rest : List (Option Fact)) → slice_get agents t ≡ Some (Some (copying path env p)) → Takes s.facts ks (copies_fact path (values env) ∷ []) rest → ProcessStep sig c [] (spawns c (process_instance (chosen env) p)) → Related sig start (agents ++ Some (running (first_of path) env p) ∷ []) pending (spawns c (process_instance (chosen env) p)) (tr ++ []) (record s { facts = adds rest (state_fact (first_of path) (values env) ∷ []) }) (full ++ [] ∷ [])
  kept_rep_copy t ks path env p rest e takes step =
      let here : IsAt sig start path env (whole.replicated p) = r.placed t (copying path env p) e in
      let d : Config = spawns c (process_instance (chosen env) p) in
      let up = threads_grow c d.threads in
      let down = threads_back c d.threads in
      record {
        placed = every_push (Placed sig start) agents (running (first_of path) env p) r.placed (spot_below (root start) path 1 (place path (names env) (whole.replicated p)) (place (first_of path) (names env) p) here.0 refl, here.1);
        threads = ap (λ ts. ts ++ Some (process_instance (chosen env) p) ∷ []) r.threads ∙ sym (map_push (option_map process_of) agents (Some (running (first_of path) env p)));
        facts = λ test. let owed = total-append (count_owed test) agents (Some (running (first_of path) env p) ∷ []) in let live = takes_total (count_live test) refl takes in let more = total-append (count_live test) rest (Some (state_fact (first_of path) (values env)) ∷ []) in let equal = r.facts test in omega arith;
        pile = λ test. let live = takes_total (count_user test) refl takes in let more = total-append (count_user test) rest (Some (state_fact (first_of path) (values env)) ∷ []) in let equal = r.pile test in omega arith;
        holders = r.holders;
        locks = locks_push (running (first_of path) env p) (r.locks.covers t (copying path env p) e).1 (locks_quiet [] no_lock_none r.locks);
        init = let unborn = total-append is_unborn agents (Some (running (first_of path) env p) ∷ []) in let inits = total-append has_init full ([] ∷ []) in let one = r.init in omega arith;
        names = names_kept agents (agents ++ Some (running (first_of path) env p) ∷ []) c d s ks _ rest (state_fact (first_of path) (values env) ∷ []) r.names takes (λ n. let tags = total-append (count_tag n) agents (Some (running (first_of path) env p) ∷ []) in omega arith);
        knowledge = knowledge_kept sig c d s ks _ rest (state_fact (first_of path) (values env) ∷ []) r.knowledge up down takes (λ x. refl) (state_no_out (first_of path) (values env));
        traces = trace_silent sig start pending c d tr (full ++ [] ∷ []) (trace_rules sig start pending c tr full [] r.traces quiet_none) up refl step;
      }

  -- one agent goes on at a child with what it has; the rules show acts that the process does not
  pub kept_branch : (t : ℕ) (ks : List ℕ) (path : List ℕ) (d : ℕ) (env : Env) (b p : Proc) (rest : List (Option Fact)) (acts : List Fact) → NoLock acts → ((o : List (ℕ × Tree)) → UnlocksAreOpen o b → UnlocksAreOpen o p) → child (place path (names env) b) d ≡ Some (place (path ++ d ∷ []) (names env) p) → visible acts ≡ [] → has_init acts ≡ 0 → ((y : Tree) → Member (k_fact y) acts → ⊥) → MeetsSix (equations sig) (full ++ acts ∷ []) → NoWrite acts → slice_get agents t ≡ Some (Some (running path env b)) → Takes s.facts ks (state_fact path (values env) ∷ []) rest → ProcessStep sig c [] (becomes c t (Some (process_instance (chosen env) p))) → Related sig start (slice_set agents t (Some (running (path ++ d ∷ []) env p))) pending (becomes c t (Some (process_instance (chosen env) p))) (tr ++ []) (record s { facts = adds rest (state_fact (path ++ d ∷ []) (values env) ∷ []) }) (full ++ acts ∷ [])
  kept_branch t ks path d env b p rest acts quiet ok below hidden no_init no_k demands no_write e takes step =
      let here : IsAt sig start path env b = r.placed t (running path env b) e in
      let new : Option Agent = Some (running (path ++ d ∷ []) env p) in
      let z : Config = becomes c t (Some (process_instance (chosen env) p)) in
      let up = threads_grow c z.threads in
      let down = threads_back c z.threads in
      let right : List Fact = state_fact (path ++ d ∷ []) (values env) ∷ [] in
      record {
        placed = placed_set sig start agents t (running (path ++ d ∷ []) env p) r.placed (spot_below (root start) path d (place path (names env) b) (place (path ++ d ∷ []) (names env) p) here.0 below, here.1);
        threads = ap (λ ts. slice_set ts t (Some (process_instance (chosen env) p))) r.threads ∙ sym (map-set (option_map process_of) agents t new);
        facts = λ test. let owed = total-set (count_owed test) agents t (Some (running path env b)) new e in let live = takes_total (count_live test) refl takes in let more = total-append (count_live test) rest (map (λ f. Some f) right) in let equal = r.facts test in omega arith;
        pile = λ test. let live = takes_total (count_user test) refl takes in let more = total-append (count_user test) rest (map (λ f. Some f) right) in let equal = r.pile test in omega arith;
        holders = r.holders;
        locks = locks_set t (running path env b) (running (path ++ d ∷ []) env p) e (λ w. (w.0, ok w.0 w.1, w.2)) (locks_quiet (acts) (quiet) r.locks);
        init = let unborn = total-set is_unborn agents t (Some (running path env b)) new e in let inits = total-append has_init full (acts ∷ []) in let one = r.init in omega arith;
        names = names_kept agents (slice_set agents t new) c z s ks _ rest right r.names takes (λ n. let tags = total-set (count_tag n) agents t (Some (running path env b)) new e in omega arith);
        knowledge = knowledge_kept sig c z s ks _ rest right r.knowledge up down takes (λ x. refl) (state_no_out (path ++ d ∷ []) (values env));
        traces = trace_silent sig start pending c z tr (full ++ acts ∷ []) (trace_acts sig start pending c tr full acts r.traces hidden no_k demands no_write) up refl step;
      }

  -- the same at the first child, where the store changes
  pub kept_store : (t : ℕ) (ks : List ℕ) (path : List ℕ) (env : Env) (b p : Proc) (rest : List (Option Fact)) (acts : List Fact) (later : Tree → Option Tree) → NoLock acts → ((o : List (ℕ × Tree)) → UnlocksAreOpen o b → UnlocksAreOpen o p) → child (place path (names env) b) 1 ≡ Some (place (first_of path) (names env) p) → visible acts ≡ [] → has_init acts ≡ 0 → ((y : Tree) → Member (k_fact y) acts → ⊥) → MeetsSix (equations sig) (full ++ acts ∷ []) → StorePart sig later (full ++ acts ∷ []) → slice_get agents t ≡ Some (Some (running path env b)) → Takes s.facts ks (state_fact path (values env) ∷ []) rest → ProcessStep sig c [] (record (becomes c t (Some (process_instance (chosen env) p))) { store = later }) → Related sig start (slice_set agents t (Some (running (first_of path) env p))) pending (record (becomes c t (Some (process_instance (chosen env) p))) { store = later }) (tr ++ []) (record s { facts = adds rest (state_fact (first_of path) (values env) ∷ []) }) (full ++ acts ∷ [])
  kept_store t ks path env b p rest acts later quiet ok below hidden no_init no_k demands store e takes step =
      let here : IsAt sig start path env b = r.placed t (running path env b) e in
      let new : Option Agent = Some (running (first_of path) env p) in
      let z : Config = record (becomes c t (Some (process_instance (chosen env) p))) { store = later } in
      let up : Grows c z = record { own = λ n m. m; frame = λ x m. m } in
      let down : Grows z c = record { own = λ n m. m; frame = λ x m. m } in
      let right : List Fact = state_fact (first_of path) (values env) ∷ [] in
      record {
        placed = placed_set sig start agents t (running (first_of path) env p) r.placed (spot_below (root start) path 1 (place path (names env) b) (place (first_of path) (names env) p) here.0 below, here.1);
        threads = ap (λ ts. slice_set ts t (Some (process_instance (chosen env) p))) r.threads ∙ sym (map-set (option_map process_of) agents t new);
        facts = λ test. let owed = total-set (count_owed test) agents t (Some (running path env b)) new e in let live = takes_total (count_live test) refl takes in let more = total-append (count_live test) rest (map (λ f. Some f) right) in let equal = r.facts test in omega arith;
        pile = λ test. let live = takes_total (count_user test) refl takes in let more = total-append (count_user test) rest (map (λ f. Some f) right) in let equal = r.pile test in omega arith;
        holders = r.holders;
        locks = locks_set t (running path env b) (running (first_of path) env p) e (λ w. (w.0, ok w.0 w.1, w.2)) (locks_quiet (acts) (quiet) r.locks);
        init = let unborn = total-set is_unborn agents t (Some (running path env b)) new e in let inits = total-append has_init full (acts ∷ []) in let one = r.init in omega arith;
        names = names_kept agents (slice_set agents t new) c z s ks _ rest right r.names takes (λ n. let tags = total-set (count_tag n) agents t (Some (running path env b)) new e in omega arith);
        knowledge = knowledge_kept sig c z s ks _ rest right r.knowledge up down takes (λ x. refl) (state_no_out (first_of path) (values env));
        traces = trace_both sig start pending c z tr full acts r.traces hidden no_k demands store up step;
      }

  -- a look-up that finds: the value is bound
  pub kept_found : (t : ℕ) (ks : List ℕ) (path : List ℕ) (env : Env) (m : Tree) (y : Var) (v : Tree) (p q : Proc) (rest : List (Option Fact)) (acts : List Fact) → NoLock acts → IsFree y (names env) → IsMessage sig Msg v → visible acts ≡ [] → has_init acts ≡ 0 → ((y : Tree) → Member (k_fact y) acts → ⊥) → MeetsSix (equations sig) (full ++ acts ∷ []) → StorePart sig c.store (full ++ acts ∷ []) → slice_get agents t ≡ Some (Some (running path env (whole.lookup m y p q))) → Takes s.facts ks (state_fact path (values env) ∷ []) rest → ProcessStep sig c [] (becomes c t (Some (process_instance (chosen (just y v)) (process_instance (without (chosen env) y) p)))) → Related sig start (slice_set agents t (Some (running (first_of path) (join env (just (message_var y) v)) p))) pending (becomes c t (Some (process_instance (chosen (just y v)) (process_instance (without (chosen env) y) p)))) (tr ++ []) (record s { facts = adds rest (state_fact (first_of path) (values (join env (just (message_var y) v))) ∷ []) }) (full ++ acts ∷ [])
  kept_found t ks path env m y v p q rest acts quiet absent good hidden no_init no_k demands store e takes step =
      let b : Proc = whole.lookup m y p q in
      let τ : Env = just (message_var y) v in
      let here : IsAt sig start path env b = r.placed t (running path env b) e in
      let new : Option Agent = Some (running (first_of path) (join env τ) p) in
      let inner : Proc = process_instance (chosen τ) (process_instance (without (chosen env) y) p) in
      let z : Config = becomes c t (Some inner) in
      let up = threads_grow c z.threads in
      let down = threads_back c z.threads in
      let same : inner ≡ process_instance (chosen (join env τ)) p = ap (λ σ. process_instance (chosen τ) (process_instance σ p)) (without_absent env y absent) ∙ (instance_append laws) env τ here.1.ground p in
      let right : List Fact = state_fact (first_of path) (values (join env τ)) ∷ [] in
      record {
        placed = placed_set sig start agents t (running (first_of path) (join env τ) p) r.placed (spot_below (root start) path 1 (place path (names env) b) (place (first_of path) (names env ++ message_var y ∷ []) p) here.0 refl, good-append sig env τ here.1 (good_just sig (message_var y) v good) (just_free env (message_var y) v absent));
        threads = ap (λ ts. slice_set ts t (Some inner)) r.threads ∙ ap (λ u. slice_set (map (option_map process_of) agents) t (Some u)) same ∙ sym (map-set (option_map process_of) agents t new);
        facts = λ test. let owed = total-set (count_owed test) agents t (Some (running path env b)) new e in let live = takes_total (count_live test) refl takes in let more = total-append (count_live test) rest (map (λ f. Some f) right) in let equal = r.facts test in omega arith;
        pile = λ test. let live = takes_total (count_user test) refl takes in let more = total-append (count_user test) rest (map (λ f. Some f) right) in let equal = r.pile test in omega arith;
        holders = r.holders;
        locks = locks_set t (running path env b) (running (first_of path) (join env τ) p) e (λ w. (w.0, w.1.0, λ l m h. longer env τ (w.2 l m h))) (locks_quiet (acts) (quiet) r.locks);
        init = let unborn = total-set is_unborn agents t (Some (running path env b)) new e in let inits = total-append has_init full (acts ∷ []) in let one = r.init in omega arith;
        names = names_kept agents (slice_set agents t new) c z s ks _ rest right r.names takes (λ n. let tags = total-set (count_tag n) agents t (Some (running path env b)) new e in omega arith);
        knowledge = knowledge_kept sig c z s ks _ rest right r.knowledge up down takes (λ x. refl) (state_no_out (first_of path) (values (join env τ)));
        traces = trace_both sig start pending c z tr full acts r.traces hidden no_k demands store up step;
      }

  pub kept_new : (t n : ℕ) (ks : List ℕ) (path : List ℕ) (env : Env) (x : Var) (p : Proc) (rest : List (Option Fact)) → IsFree x (names env) → slice_get agents t ≡ Some (Some (running path env (act (action.new x) p))) → Takes s.facts ks (state_fact path (values env) ∷ fresh_fact (fresh n) ∷ []) rest → ProcessStep sig c [] (makes (becomes c t (Some (process_instance (chosen (just x (fresh n))) (process_instance (without (chosen env) x) p)))) n) → Related sig start (slice_set agents t (Some (running (first_of path) (join env (just (fresh_var x) (fresh n))) p))) pending (makes (becomes c t (Some (process_instance (chosen (just x (fresh n))) (process_instance (without (chosen env) x) p)))) n) (tr ++ []) (record s { facts = adds rest (state_fact (first_of path) (values (join env (just (fresh_var x) (fresh n)))) ∷ []) }) (full ++ [] ∷ [])
  kept_new t n ks path env x p rest absent e takes step =
      let here : IsAt sig start path env (act (action.new x) p) = r.placed t (running path env (act (action.new x) p)) e in
      let τ : Env = just (fresh_var x) (fresh n) in
      let new : Option Agent = Some (running (first_of path) (join env τ) p) in
      let q : Proc = process_instance (chosen τ) (process_instance (without (chosen env) x) p) in
      let d : Config = makes (becomes c t (Some q)) n in
      let up : Grows c d = record { own = λ k m. m; frame = λ y m. m } in
      let down : Grows d c = record { own = λ k m. m; frame = λ y m. m } in
      let same : q ≡ process_instance (chosen (join env τ)) p = ap (λ σ. process_instance (chosen τ) (process_instance σ p)) (without_absent env x absent) ∙ (instance_append laws) env τ here.1.ground p in
      let right : List Fact = state_fact (first_of path) (values (join env τ)) ∷ [] in
      record {
        placed = placed_set sig start agents t (running (first_of path) (join env τ) p) r.placed
            (spot_below (root start) path 1 (place path (names env) (act (action.new x) p)) (place (first_of path) (names env ++ fresh_var x ∷ []) p) here.0 refl, good-append sig env τ here.1 (good_just sig (fresh_var x) (fresh n) ((fresh_message laws) sig n)) (just_free env (fresh_var x) (fresh n) absent));
        threads = ap (λ ts. slice_set ts t (Some q)) r.threads ∙ ap (λ z. slice_set (map (option_map process_of) agents) t (Some z)) same ∙ sym (map-set (option_map process_of) agents t new);
        facts = λ test. let owed = total-set (count_owed test) agents t (Some (running path env (act (action.new x) p))) new e in let live = takes_total (count_live test) refl takes in let more = total-append (count_live test) rest (map (λ f. Some f) right) in let equal = r.facts test in omega arith;
        pile = λ test. let live = takes_total (count_user test) refl takes in let more = total-append (count_user test) rest (map (λ f. Some f) right) in let equal = r.pile test in omega arith;
        holders = r.holders;
        locks = locks_set t (running path env (act (action.new x) p)) (running (first_of path) (join env τ) p) e (λ w. (w.0, w.1, λ l m h. longer env τ (w.2 l m h))) (locks_quiet ([]) (no_lock_none) r.locks);
        init = let unborn = total-set is_unborn agents t (Some (running path env (act (action.new x) p))) new e in let inits = total-append has_init full ([] ∷ []) in let one = r.init in omega arith;
        names = names_kept agents (slice_set agents t new) c d s ks _ rest right r.names takes (λ m. let tags = total-set (count_tag m) agents t (Some (running path env (act (action.new x) p))) new e in let more = total-append (count_name m) c.made (n ∷ []) in omega (arith, cond_cond (n == m)));
        knowledge = knowledge_kept sig c d s ks _ rest right r.knowledge up down takes (λ y. refl) (state_no_out (first_of path) (values (join env τ)));
        traces = trace_silent sig start pending c d tr (full ++ [] ∷ []) (trace_rules sig start pending c tr full [] r.traces quiet_none) up refl step;
      }

  pub kept_out : (t : ℕ) (ks : List ℕ) (path : List ℕ) (env : Env) (m y : Tree) (p : Proc) (rest : List (Option Fact)) → slice_get agents t ≡ Some (Some (running path env (act (action.out m) p))) → Takes s.facts ks (state_fact path (values env) ∷ []) rest → ProcessStep sig c [] (sends_out (becomes c t (Some (process_instance (chosen env) p))) y) → Related sig start (slice_set agents t (Some (running (first_of path) env p))) pending (sends_out (becomes c t (Some (process_instance (chosen env) p))) y) (tr ++ []) (record s { facts = adds rest (out_fact y ∷ state_fact (first_of path) (values env) ∷ []) }) (full ++ [] ∷ [])
  kept_out t ks path env m y p rest e takes step =
      let here : IsAt sig start path env (act (action.out m) p) = r.placed t (running path env (act (action.out m) p)) e in
      let new : Option Agent = Some (running (first_of path) env p) in
      let d : Config = sends_out (becomes c t (Some (process_instance (chosen env) p))) y in
      let up : Grows c d = record { own = λ k m. m; frame = λ x m. member_left (y ∷ []) m } in
      let state : Fact = state_fact (first_of path) (values env) in
      let right : List Fact = out_fact y ∷ state ∷ [] in
      record {
        placed = placed_set sig start agents t (running (first_of path) env p) r.placed (spot_below (root start) path 1 (place path (names env) (act (action.out m) p)) (place (first_of path) (names env) p) here.0 refl, here.1);
        threads = ap (λ ts. slice_set ts t (Some (process_instance (chosen env) p))) r.threads ∙ sym (map-set (option_map process_of) agents t new);
        facts = λ test. let owed = total-set (count_owed test) agents t (Some (running path env (act (action.out m) p))) new e in let live = takes_total (count_live test) refl takes in let more = total-append (count_live test) rest (map (λ f. Some f) right) in let equal = r.facts test in omega arith;
        pile = λ test. let live = takes_total (count_user test) refl takes in let more = total-append (count_user test) rest (map (λ f. Some f) right) in let equal = r.pile test in omega arith;
        holders = r.holders;
        locks = locks_set t (running path env (act (action.out m) p)) (running (first_of path) env p) e (λ w. w) (locks_quiet ([]) (no_lock_none) r.locks);
        init = let unborn = total-set is_unborn agents t (Some (running path env (act (action.out m) p))) new e in let inits = total-append has_init full ([] ∷ []) in let one = r.init in omega arith;
        names = names_kept agents (slice_set agents t new) c d s ks _ rest right r.names takes (λ n. let tags = total-set (count_tag n) agents t (Some (running path env (act (action.out m) p))) new e in omega arith);
        knowledge = record {
          derivation = derivation_grows sig c.own d.own c.frame d.frame (reverse s.known) up.own up.frame r.knowledge.derivation;
          outs = every-adds (λ f. (x : Tree) → f ≡ out_fact x → Member x d.frame) rest right
              (takes_every (λ f. (x : Tree) → f ≡ out_fact x → Member x d.frame) (λ k f g x h. up.frame x (r.knowledge.outs k f g x h)) takes)
              (out_right d y state (member_last c.frame y) (state_no_out (first_of path) (values env)));
          framed = λ x h. let w = takes_total (count_fact (out_fact x)) refl takes in let more = total-append (count_fact (out_fact x)) rest (map (λ f. Some f) right) in out_framed c x y (total (count_fact (out_fact x)) s.facts) (total (count_fact (out_fact x)) (adds rest right)) s.known (r.knowledge.framed x) (omega arith) (λ same. let one : count_fact (out_fact x) (Some (out_fact y)) ≡ 1 = rw (sym same) (rw (same_fact_self (out_fact y)) refl) in omega arith) h;
          owned = r.knowledge.owned;
        };
        traces = trace_silent sig start pending c d tr (full ++ [] ∷ []) (trace_rules sig start pending c tr full [] r.traces quiet_none) up refl step;
      }

  pub kept_par : (t : ℕ) (ks : List ℕ) (path : List ℕ) (env : Env) (p q : Proc) (rest : List (Option Fact)) → slice_get agents t ≡ Some (Some (running path env (whole.parallel p q))) → Takes s.facts ks (state_fact path (values env) ∷ []) rest → ProcessStep sig c [] (spawns (becomes c t (Some (process_instance (chosen env) p))) (process_instance (chosen env) q)) → Related sig start (slice_set agents t (Some (running (first_of path) env p)) ++ Some (running (second_of path) env q) ∷ []) pending (spawns (becomes c t (Some (process_instance (chosen env) p))) (process_instance (chosen env) q)) (tr ++ []) (record s { facts = adds rest (state_fact (first_of path) (values env) ∷ state_fact (second_of path) (values env) ∷ []) }) (full ++ [] ∷ [])
  kept_par t ks path env p q rest e takes step =
      let here : IsAt sig start path env (whole.parallel p q) = r.placed t (running path env (whole.parallel p q)) e in
      let one : Option Agent = Some (running (first_of path) env p) in
      let two : Option Agent = Some (running (second_of path) env q) in
      let first : List (Option Agent) = slice_set agents t one in
      let d : Config = spawns (becomes c t (Some (process_instance (chosen env) p))) (process_instance (chosen env) q) in
      let up = threads_grow c d.threads in
      let down = threads_back c d.threads in
      let right : List Fact = state_fact (first_of path) (values env) ∷ state_fact (second_of path) (values env) ∷ [] in
      record {
        placed = every_push (Placed sig start) first (running (second_of path) env q)
            (placed_set sig start agents t (running (first_of path) env p) r.placed (spot_below (root start) path 1 (place path (names env) (whole.parallel p q)) (place (first_of path) (names env) p) here.0 refl, here.1))
            (spot_below (root start) path 2 (place path (names env) (whole.parallel p q)) (place (second_of path) (names env) q) here.0 refl, here.1);
        threads = ap (λ ts. slice_set ts t (Some (process_instance (chosen env) p)) ++ Some (process_instance (chosen env) q) ∷ []) r.threads ∙ ap (λ ts. ts ++ Some (process_instance (chosen env) q) ∷ []) (sym (map-set (option_map process_of) agents t one)) ∙ sym (map_push (option_map process_of) first two);
        facts = λ test. let owed = total-set (count_owed test) agents t (Some (running path env (whole.parallel p q))) one e in let owed' = total-append (count_owed test) first (two ∷ []) in let live = takes_total (count_live test) refl takes in let more = total-append (count_live test) rest (map (λ f. Some f) right) in let equal = r.facts test in omega arith;
        pile = λ test. let live = takes_total (count_user test) refl takes in let more = total-append (count_user test) rest (map (λ f. Some f) right) in let equal = r.pile test in omega arith;
        holders = r.holders;
        locks = (let w = r.locks.covers t (running path env (whole.parallel p q)) e in locks_push (running (second_of path) env q) w.1.1 (locks_set t (running path env (whole.parallel p q)) (running (first_of path) env p) e (λ u. no_open (equations sig) r.holders t (running (first_of path) env p) w.1.0) (locks_quiet [] no_lock_none r.locks)));
        init = let unborn = total-set is_unborn agents t (Some (running path env (whole.parallel p q))) one e in let unborn' = total-append is_unborn first (two ∷ []) in let inits = total-append has_init full ([] ∷ []) in let one' = r.init in omega arith;
        names = names_kept agents (first ++ two ∷ []) c d s ks _ rest right r.names takes (λ n. let tags = total-set (count_tag n) agents t (Some (running path env (whole.parallel p q))) one e in let tags2 = total-append (count_tag n) first (two ∷ []) in omega arith);
        knowledge = knowledge_kept sig c d s ks _ rest right r.knowledge up down takes (λ x. refl) (two_no_out (first_of path) (second_of path) (values env));
        traces = trace_silent sig start pending c d tr (full ++ [] ∷ []) (trace_rules sig start pending c tr full [] r.traces quiet_none) up refl step;
      }

  -- rule steps that no process step answers

  pub kept_fresh : (n : ℕ) → (Member n s.made → ⊥) → Related sig start agents pending c tr (record s { facts = adds s.facts (fresh_fact (fresh n) ∷ []); made = s.made ++ n ∷ [] }) (full ++ [] ∷ [])
  kept_fresh n unused =
      let z = record s { made = s.made ++ n ∷ [] } in
      let right : List Fact = fresh_fact (fresh n) ∷ [] in
      record {
        placed = r.placed;
        threads = r.threads;
        facts = λ test. let live = total-append (count_live test) s.facts (map (λ f. Some f) right) in let equal = r.facts test in omega arith;
        pile = λ test. let live = total-append (count_user test) s.facts (map (λ f. Some f) right) in let equal = r.pile test in omega arith;
        holders = r.holders;
        locks = locks_quiet [] no_lock_none r.locks;
        init = let inits = total-append has_init full ([] ∷ []) in let one = r.init in omega arith;
        names = record {
          once = λ m. let more = total-append (count_name m) s.made (n ∷ []) in let one = fresh_once n m s.made unused (r.names.once m) in omega arith;
          shares = λ m. let more = total-append (count_fact (fresh_fact (fresh m))) s.facts (map (λ f. Some f) right) in let made = total-append (count_name m) s.made (n ∷ []) in let old = r.names.shares m in omega (arith, cond_cond (n == m));
        };
        knowledge = record {
          derivation = r.knowledge.derivation;
          outs = every-adds (λ f. (x : Tree) → f ≡ out_fact x → Member x c.frame) s.facts right r.knowledge.outs (λ f m x e. absurd (fr_no_out n f m x e));
          framed = λ x h. elim (r.knowledge.framed x h) [ inl a ↦ inl a | inr b ↦ inr (let more = total-append (count_fact (out_fact x)) s.facts (map (λ f. Some f) right) in omega arith) ];
          owned = r.knowledge.owned;
        };
        traces = trace_rules sig start pending c tr full [] r.traces quiet_none;
      }

  kept_learnt : (x : Tree) → IsDerived sig c.own c.frame (reverse s.known) x → Related sig start agents pending c tr (record s { known = s.known ++ x ∷ [] }) (full ++ [] ∷ [])
  kept_learnt x h = record {
    placed = r.placed;
    threads = r.threads;
    facts = r.facts;
    pile = r.pile;
    holders = r.holders;
    locks = locks_quiet [] no_lock_none r.locks;
    init = let inits = total-append has_init full ([] ∷ []) in let one = r.init in omega arith;
    names = record { once = r.names.once; shares = r.names.shares };
    knowledge = record {
      derivation = derivation_push sig c.own c.frame s.known x h r.knowledge.derivation;
      outs = r.knowledge.outs;
      framed = λ y m. elim (r.knowledge.framed y m) [ inl a ↦ inl (member_left (x ∷ []) a) | inr b ↦ inr b ];
      owned = λ n m. member_left (x ∷ []) (r.knowledge.owned n m);
    };
    traces = trace_rules sig start pending c tr full [] r.traces quiet_none;
  }

  -- the message of an act (action.out that) is taken
  taken_out : (k : ℕ) (x : Tree) (rest : List (Option Fact)) → Takes s.facts (k ∷ []) (out_fact x ∷ []) rest → Member x c.frame
  taken_out k x rest takes = r.knowledge.outs k (out_fact x) (first_taken takes) x refl

  still_framed : (k : ℕ) (x y : Tree) (rest : List (Option Fact)) → Takes s.facts (k ∷ []) (out_fact x ∷ []) rest → 0 < total (count_fact (out_fact y)) s.facts → Member y (s.known ++ x ∷ []) ⊎ (0 < total (count_fact (out_fact y)) rest)
  still_framed k x y rest takes h = go (same_fact (out_fact x) (out_fact y)) refl
    where
      go : (b : Bool) → same_fact (out_fact x) (out_fact y) ≡ b → Member y (s.known ++ x ∷ []) ⊎ (0 < total (count_fact (out_fact y)) rest)
      go true e = inl (subst (λ z. Member z (s.known ++ x ∷ [])) (same_arg x y (same_fact_true (out_fact x) (out_fact y) e)) (member_last s.known x))
      go false e = inr (let w = takes_total (count_fact (out_fact y)) refl takes in let z : count_fact (out_fact y) (Some (out_fact x)) ≡ 0 = rw e refl in omega arith)

  pub kept_public : (a : List ℕ) → Related sig start agents pending c tr (record s { known = s.known ++ public a ∷ [] }) (full ++ [] ∷ [])
  kept_public a = kept_learnt (public a) (IsDerived.a_public a refl)

  pub kept_applies : (f : List ℕ) (ts : List Tree) (x : Tree) → IsPublic sig f → arity_of sig f ≡ Some (length ts) → All (Contains s.known) ts → IsNormalForm (equations sig) (apply f (trees_of ts)) x → Related sig start agents pending c tr (record s { known = s.known ++ x ∷ [] }) (full ++ [] ∷ [])
  kept_applies f ts x free arity all form = kept_learnt x (IsDerived.applied f ts free arity (all_reversed s.known ts all) form)

  pub kept_learn : (k : ℕ) (x : Tree) (rest : List (Option Fact)) → Takes s.facts (k ∷ []) (out_fact x ∷ []) rest → Related sig start agents pending c tr (record s { facts = rest; known = s.known ++ x ∷ [] }) (full ++ [] ∷ [])
  kept_learn k x rest takes = record {
    placed = r.placed;
    threads = r.threads;
    facts = λ test. let live = takes_total (count_live test) refl takes in let equal = r.facts test in omega arith;
    pile = λ test. let live = takes_total (count_user test) refl takes in let equal = r.pile test in omega arith;
    holders = r.holders;
    locks = locks_quiet [] no_lock_none r.locks;
    init = let inits = total-append has_init full ([] ∷ []) in let one = r.init in omega arith;
    names = record { once = r.names.once; shares = λ n. let w = takes_total (count_fact (fresh_fact (fresh n))) refl takes in let old = r.names.shares n in omega arith };
    knowledge = record {
      derivation = derivation_push sig c.own c.frame s.known x (IsDerived.given (contains (taken_out k x rest takes))) r.knowledge.derivation;
      outs = takes_every (λ f. (y : Tree) → f ≡ out_fact y → Member y c.frame) r.knowledge.outs takes;
      framed = λ y h. elim (r.knowledge.framed y h) [ inl a ↦ inl (member_left (x ∷ []) a) | inr b ↦ still_framed k x y rest takes b ];
      owned = λ n h. member_left (x ∷ []) (r.knowledge.owned n h);
    };
    traces = trace_rules sig start pending c tr full [] r.traces quiet_none;
  }

  -- the adversary makes a name: both sides
  pub kept_own : (k n : ℕ) (rest : List (Option Fact)) → Takes s.facts (k ∷ []) (fresh_fact (fresh n) ∷ []) rest → ProcessStep sig c [] (owns c n) → Related sig start agents pending (owns c n) (tr ++ []) (record s { facts = rest; known = s.known ++ fresh n ∷ [] }) (full ++ [] ∷ [])
  kept_own k n rest takes step =
      let d : Config = owns c n in
      let up : Grows c d = record { own = λ k m. member_left (n ∷ []) m; frame = λ x m. m } in
      record {
        placed = r.placed;
        threads = r.threads;
        facts = λ test. let live = takes_total (count_live test) refl takes in let equal = r.facts test in omega arith;
        pile = λ test. let live = takes_total (count_user test) refl takes in let equal = r.pile test in omega arith;
        holders = r.holders;
        locks = locks_quiet [] no_lock_none r.locks;
        init = let inits = total-append has_init full ([] ∷ []) in let one = r.init in omega arith;
        names = record { once = r.names.once; shares = λ m. let w = takes_total (count_fact (fresh_fact (fresh m))) refl takes in let own = total-append (count_name m) c.own (n ∷ []) in let old = r.names.shares m in omega (arith, cond_cond (n == m)) };
        knowledge = record {
          derivation = derivation_push sig d.own d.frame s.known (fresh n) (IsDerived.a_name n (contains (member_last c.own n)) refl) (derivation_grows sig c.own d.own c.frame d.frame (reverse s.known) up.own up.frame r.knowledge.derivation);
          outs = takes_every (λ f. (y : Tree) → f ≡ out_fact y → Member y d.frame) (λ i f g y e. up.frame y (r.knowledge.outs i f g y e)) takes;
          framed = λ y h. elim (r.knowledge.framed y h) [ inl a ↦ inl (member_left (fresh n ∷ []) a) | inr b ↦ inr (let w = takes_total (count_fact (out_fact y)) refl takes in omega arith) ];
          owned = λ m h. owned_more n m s.known (r.knowledge.owned m) h;
        };
        traces = trace_silent sig start pending c d tr (full ++ [] ∷ []) (trace_rules sig start pending c tr full [] r.traces quiet_none) up refl step;
      }

event_asks_none : (g : Fact) → is_reserved g.name ≡ false → NoDemand (event_fact ∷ g ∷ [])
event_asks_none g fine = no_demand_more event_fact (g ∷ []) refl (no_demand_one g (fine_asks_none g.name fine))

event_locks_none : (g : Fact) → is_reserved g.name ≡ false → NoLock (event_fact ∷ g ∷ [])
event_locks_none g fine = no_lock_more event_fact (g ∷ []) refl (no_lock_one g (fine_locks_none g.name fine))

event_writes_none : (g : Fact) → is_reserved g.name ≡ false → NoWrite (event_fact ∷ g ∷ [])
event_writes_none g fine = no_write_more event_fact (g ∷ []) refl (no_write_one g (fine_writes_none g.name fine))

-- with nothing pending
module _ (sig : Sig) (start : Proc) (agents : List (Option Agent)) (c : Config) (tr : Trace) (s : RuleState) (full : Trace) (r : Related sig start agents None c tr s full) where
  pub kept_know : (x : Tree) → IsNormal (equations sig) x → Member x s.known → Related sig start agents (Some x) c tr (record s { facts = adds s.facts (in_fact x ∷ []) }) (full ++ (k_fact x ∷ []) ∷ [])
  kept_know x n m = record {
    placed = r.placed;
    threads = r.threads;
    facts = λ test. let live = total-append (count_live test) s.facts (Some (in_fact x) ∷ []) in let equal = r.facts test in omega arith;
    pile = λ test. let live = total-append (count_user test) s.facts (Some (in_fact x) ∷ []) in let equal = r.pile test in omega arith;
    holders = r.holders;
    locks = locks_quiet (k_fact x ∷ []) (no_lock_one (k_fact x) refl) r.locks;
    init = let inits = total-append has_init full ((k_fact x ∷ []) ∷ []) in let one = r.init in omega arith;
    names = names_kept agents agents c c s [] [] s.facts (in_fact x ∷ []) r.names Takes.nothing (λ n. omega arith);
    knowledge = knowledge_kept sig c c s [] [] s.facts (in_fact x ∷ []) r.knowledge (same_grows c) (same_grows c) Takes.nothing (λ y. refl) (not_out (in_fact x) (λ y e. cc));
    traces = record {
      shows = hide_push full (k_fact x ∷ []) ∙ ap (λ y. y ++ shown (k_fact x ∷ [])) (r.traces.shows ∙ append-nil tr);
      waiting = λ y e. let same : x ≡ y = cc in subst (λ z. CanGive sig c z) same (record { deducible = known_entry sig c.own c.frame s.known x r.knowledge.derivation m n; normal = n });
      free = λ y f. inl (ap (λ z. Some z) (sym (free_know full x y f)));
      demands = demands_quiet (equations sig) full (k_fact x ∷ []) r.traces.demands (no_demand_one (k_fact x) refl);
      store = store_quiet sig c.store full (k_fact x ∷ []) r.traces.store (no_write_one (k_fact x) refl);
    };
  }

  pub kept_event : (t : ℕ) (ks : List ℕ) (path : List ℕ) (env : Env) (f g : Fact) (p : Proc) (rest : List (Option Fact)) → is_reserved g.name ≡ false → slice_get agents t ≡ Some (Some (running path env (act (action.event f) p))) → Takes s.facts ks (state_fact path (values env) ∷ []) rest → Related sig start (slice_set agents t (Some (running (first_of path) env p))) None (becomes c t (Some (process_instance (chosen env) p))) (tr ++ shown (g ∷ [])) (record s { facts = adds rest (state_fact (first_of path) (values env) ∷ []) }) (full ++ (event_fact ∷ g ∷ []) ∷ [])
  kept_event t ks path env f g p rest fine e takes =
      let here : IsAt sig start path env (act (action.event f) p) = r.placed t (running path env (act (action.event f) p)) e in
      let new : Option Agent = Some (running (first_of path) env p) in
      let d : Config = becomes c t (Some (process_instance (chosen env) p)) in
      let up = threads_grow c d.threads in
      let down = threads_back c d.threads in
      let right : List Fact = state_fact (first_of path) (values env) ∷ [] in
      let acts : List Fact = event_fact ∷ g ∷ [] in
      record {
        placed = placed_set sig start agents t (running (first_of path) env p) r.placed (spot_below (root start) path 1 (place path (names env) (act (action.event f) p)) (place (first_of path) (names env) p) here.0 refl, here.1);
        threads = ap (λ ts. slice_set ts t (Some (process_instance (chosen env) p))) r.threads ∙ sym (map-set (option_map process_of) agents t new);
        facts = λ test. let owed = total-set (count_owed test) agents t (Some (running path env (act (action.event f) p))) new e in let live = takes_total (count_live test) refl takes in let more = total-append (count_live test) rest (map (λ f. Some f) right) in let equal = r.facts test in omega arith;
        pile = λ test. let live = takes_total (count_user test) refl takes in let more = total-append (count_user test) rest (map (λ f. Some f) right) in let equal = r.pile test in omega arith;
        holders = r.holders;
        locks = locks_set t (running path env (act (action.event f) p)) (running (first_of path) env p) e (λ w. w) (locks_quiet (acts) (event_locks_none g fine) r.locks);
        init = let unborn = total-set is_unborn agents t (Some (running path env (act (action.event f) p))) new e in let inits = total-append has_init full (acts ∷ []) in let none = event_no_init g fine in let one = r.init in omega arith;
        names = names_kept agents (slice_set agents t new) c d s ks _ rest right r.names takes (λ n. let tags = total-set (count_tag n) agents t (Some (running path env (act (action.event f) p))) new e in omega arith);
        knowledge = knowledge_kept sig c d s ks _ rest right r.knowledge up down takes (λ x. refl) (state_no_out (first_of path) (values env));
        traces = record {
          shows = hide_push full acts ∙ ap (λ v. hide full ++ shown v) (event_visible g fine) ∙ ap (λ x. x ++ shown (g ∷ [])) (r.traces.shows ∙ append-nil tr) ∙ sym (append-nil (tr ++ shown (g ∷ [])));
          waiting = λ x e. absurd (cc);
          free = λ x h. absurd (event_frees_none full acts x Member.here h);
          demands = demands_quiet (equations sig) full acts r.traces.demands (event_asks_none g fine);
          store = store_quiet sig c.store full acts r.traces.store (event_writes_none g fine);
        };
      }

-- an input takes the pending K event
module _ (sig : Sig) (start : Proc) (agents : List (Option Agent)) (x : Tree) (c : Config) (tr : Trace) (s : RuleState) (full : Trace) (r : Related sig start agents (Some x) c tr s full) where
  input_traces : Free full x → (d : Config) → d.store ≡ c.store → TracePart sig start None d (tr ++ shown (k_fact x ∷ [])) (full ++ (input_fact x ∷ []) ∷ [])
  input_traces free d same = record {
    shows = hide_push full (input_fact x ∷ []) ∙ append-nil (hide full) ∙ r.traces.shows ∙ sym (append-nil (tr ++ shown (k_fact x ∷ [])));
    waiting = λ y h. absurd (cc);
    free = λ y h. absurd (input_frees_none full y x h);
    demands = demands_input (equations sig) full x r.traces.demands free;
    store = subst (λ st. StorePart sig st (full ++ (input_fact x ∷ []) ∷ [])) (sym same) (store_quiet sig c.store full (input_fact x ∷ []) r.traces.store (no_write_one (input_fact x) refl));
  }

  pub kept_in : (t : ℕ) (ks : List ℕ) (path : List ℕ) (env τ : Env) (b p : Proc) (v : List Var) (rest : List (Option Fact)) → ((o : List (ℕ × Tree)) → UnlocksAreOpen o b → UnlocksAreOpen o p) → child (place path (names env) b) 1 ≡ Some (place (first_of path) v p) → v ≡ names (join env τ) → GoodEnv sig τ → ((y : Var) → Member y (names τ) → IsFree y (names env)) → Free full x → slice_get agents t ≡ Some (Some (running path env b)) → Takes s.facts ks (state_fact path (values env) ∷ in_fact x ∷ []) rest → Related sig start (slice_set agents t (Some (running (first_of path) (join env τ) p))) None (becomes c t (Some (process_instance (chosen (join env τ)) p))) (tr ++ shown (k_fact x ∷ [])) (record s { facts = adds rest (state_fact (first_of path) (values (join env τ)) ∷ []) }) (full ++ (input_fact x ∷ []) ∷ [])
  kept_in t ks path env τ b p v rest ok below scope ground new_free free e takes =
      let here : IsAt sig start path env b = r.placed t (running path env b) e in
      let new : Option Agent = Some (running (first_of path) (join env τ) p) in
      let q : Proc = process_instance (chosen (join env τ)) p in
      let d : Config = becomes c t (Some q) in
      let up = threads_grow c d.threads in
      let down = threads_back c d.threads in
      let right : List Fact = state_fact (first_of path) (values (join env τ)) ∷ [] in
      let acts : List Fact = input_fact x ∷ [] in
      record {
        placed = placed_set sig start agents t (running (first_of path) (join env τ) p) r.placed
            (subst (λ v. scoped_place_at (root start) (first_of path) ≡ Some (place (first_of path) v p)) scope (spot_below (root start) path 1 (place path (names env) b) (place (first_of path) v p) here.0 below), good-append sig env τ here.1 ground new_free);
        threads = ap (λ ts. slice_set ts t (Some q)) r.threads ∙ sym (map-set (option_map process_of) agents t new);
        facts = λ test. let owed = total-set (count_owed test) agents t (Some (running path env b)) new e in let live = takes_total (count_live test) refl takes in let more = total-append (count_live test) rest (map (λ f. Some f) right) in let equal = r.facts test in omega arith;
        pile = λ test. let live = takes_total (count_user test) refl takes in let more = total-append (count_user test) rest (map (λ f. Some f) right) in let equal = r.pile test in omega arith;
        holders = r.holders;
        locks = locks_set t (running path env b) (running (first_of path) (join env τ) p) e (λ w. (w.0, ok w.0 w.1, λ l m h. longer env τ (w.2 l m h))) (locks_quiet (acts) (no_lock_one (input_fact x) refl) r.locks);
        init = let unborn = total-set is_unborn agents t (Some (running path env b)) new e in let inits = total-append has_init full (acts ∷ []) in let one = r.init in omega arith;
        names = names_kept agents (slice_set agents t new) c d s ks _ rest right r.names takes (λ n. let tags = total-set (count_tag n) agents t (Some (running path env b)) new e in omega arith);
        knowledge = knowledge_kept sig c d s ks _ rest right r.knowledge up down takes (λ y. refl) (state_no_out (first_of path) (values (join env τ)));
        traces = input_traces free d refl;
      }

  -- an output on a private channel that the adversary knows
  pub kept_out_adv : (t : ℕ) (ks : List ℕ) (path : List ℕ) (env : Env) (m n y : Tree) (p : Proc) (rest : List (Option Fact)) → Free full x → slice_get agents t ≡ Some (Some (running path env (act (action.send m n) p))) → Takes s.facts ks (state_fact path (values env) ∷ in_fact x ∷ []) rest → Related sig start (slice_set agents t (Some (running (first_of path) env p))) None (sends_out (becomes c t (Some (process_instance (chosen env) p))) y) (tr ++ shown (k_fact x ∷ [])) (record s { facts = adds rest (out_fact y ∷ state_fact (first_of path) (values env) ∷ []) }) (full ++ (input_fact x ∷ []) ∷ [])
  kept_out_adv t ks path env m n y p rest free e takes =
      let here : IsAt sig start path env (act (action.send m n) p) = r.placed t (running path env (act (action.send m n) p)) e in
      let new : Option Agent = Some (running (first_of path) env p) in
      let d : Config = sends_out (becomes c t (Some (process_instance (chosen env) p))) y in
      let up : Grows c d = record { own = λ k m. m; frame = λ x m. member_left (y ∷ []) m } in
      let state : Fact = state_fact (first_of path) (values env) in
      let right : List Fact = out_fact y ∷ state ∷ [] in
      let acts : List Fact = input_fact x ∷ [] in
      record {
        placed = placed_set sig start agents t (running (first_of path) env p) r.placed (spot_below (root start) path 1 (place path (names env) (act (action.send m n) p)) (place (first_of path) (names env) p) here.0 refl, here.1);
        threads = ap (λ ts. slice_set ts t (Some (process_instance (chosen env) p))) r.threads ∙ sym (map-set (option_map process_of) agents t new);
        facts = λ test. let owed = total-set (count_owed test) agents t (Some (running path env (act (action.send m n) p))) new e in let live = takes_total (count_live test) refl takes in let more = total-append (count_live test) rest (map (λ f. Some f) right) in let equal = r.facts test in omega arith;
        pile = λ test. let live = takes_total (count_user test) refl takes in let more = total-append (count_user test) rest (map (λ f. Some f) right) in let equal = r.pile test in omega arith;
        holders = r.holders;
        locks = locks_set t (running path env (act (action.send m n) p)) (running (first_of path) env p) e (λ w. w) (locks_quiet (acts) (no_lock_one (input_fact x) refl) r.locks);
        init = let unborn = total-set is_unborn agents t (Some (running path env (act (action.send m n) p))) new e in let inits = total-append has_init full (acts ∷ []) in let one = r.init in omega arith;
        names = names_kept agents (slice_set agents t new) c d s ks _ rest right r.names takes (λ k. let tags = total-set (count_tag k) agents t (Some (running path env (act (action.send m n) p))) new e in omega arith);
        knowledge = record {
          derivation = derivation_grows sig c.own d.own c.frame d.frame (reverse s.known) up.own up.frame r.knowledge.derivation;
          outs = every-adds (λ f. (x : Tree) → f ≡ out_fact x → Member x d.frame) rest right
              (takes_every (λ f. (x : Tree) → f ≡ out_fact x → Member x d.frame) (λ k f g x h. up.frame x (r.knowledge.outs k f g x h)) takes)
              (out_right d y state (member_last c.frame y) (state_no_out (first_of path) (values env)));
          framed = λ z h. let w = takes_total (count_fact (out_fact z)) refl takes in let more = total-append (count_fact (out_fact z)) rest (map (λ f. Some f) right) in out_framed c z y (total (count_fact (out_fact z)) s.facts) (total (count_fact (out_fact z)) (adds rest right)) s.known (r.knowledge.framed z) (omega arith) (λ same. let one : count_fact (out_fact z) (Some (out_fact y)) ≡ 1 = rw (sym same) (rw (same_fact_self (out_fact y)) refl) in omega arith) h;
          owned = r.knowledge.owned;
        };
        traces = input_traces free d refl;
      }

  -- the pending K event is shown by the process side alone
  pub kept_flush : ProcessRun sig (initial start) c tr → Related sig start agents None c (tr ++ shown (k_fact x ∷ [])) s full
  kept_flush reached = record {
    placed = r.placed;
    threads = r.threads;
    facts = r.facts;
    pile = r.pile;
    holders = r.holders;
    locks = r.locks;
    init = r.init;
    names = r.names;
    knowledge = r.knowledge;
    traces = record {
      shows = r.traces.shows ∙ sym (append-nil (tr ++ shown (k_fact x ∷ [])));
      waiting = λ y h. absurd (cc);
      free = λ y f. elim (r.traces.free y f) [
        | inl e ↦ (let same : x ≡ y = cc in inr (refl, record { before = tr; reached = reached; is = ap (λ z. tr ++ shown (k_fact z ∷ [])) same; derived = r.traces.waiting y e }))
        | inr b ↦ absurd (let h : Some x ≡ None = b.0 in cc)
      ];
      demands = r.traces.demands;
      store = r.traces.store;
    };
  }

-- the last K event is taken back
pub kept_unflush : (sig : Sig) (start : Proc) (agents : List (Option Agent)) (x : Tree) (c : Config) (tr : Trace) (s : RuleState) (full : Trace) → Related sig start agents None c tr s full → Free full x → (b : Retractable sig start c tr x) → Related sig start agents (Some x) c b.before s full
kept_unflush sig start agents x c tr s full r f b = record {
  placed = r.placed;
  threads = r.threads;
  facts = r.facts;
  pile = r.pile;
  holders = r.holders;
  locks = r.locks;
  init = r.init;
  names = r.names;
  knowledge = r.knowledge;
  traces = record {
    shows = r.traces.shows ∙ append-nil tr ∙ b.is;
    waiting = λ y e. let same : x ≡ y = cc in subst (λ z. CanGive sig c z) same b.derived;
    free = λ y g. elim (r.traces.free y g) [
      | inl e ↦ absurd (let h : None ≡ Some y = e in cc)
      | inr o ↦ inl (let places : k_fact x ∷ [] ≡ k_fact y ∷ [] = last_same b.before o.1.before (k_fact x ∷ []) (k_fact y ∷ []) (sym b.is ∙ o.1.is) in let facts : k_fact x ≡ k_fact y = cc in ap (λ z. Some z) (same_k_fact x y facts))
    ];
    demands = r.traces.demands;
    store = r.traces.store;
  };
}

pub related_start : (sig : Sig) (start : Proc) → UnlocksAreOpen [] start → Related sig start (Some (unborn start) ∷ []) None (initial start) [] empty_state []
related_start sig start ok = record {
  placed = λ t a e. first t a e;
  threads = refl;
  facts = λ test. refl;
  pile = λ test. refl;
  holders = [];
  locks = record {
    part = record { free = λ x h l i a. absurd (let e = a.1 in cc); busy = λ x h. absurd (cc); only = λ h m. elim m [ ]; still = λ h m. elim m [ ] };
    covers = λ t a e. open_at t a e;
  };
  init = refl;
  names = record { once = λ n. omega arith; shares = λ n. omega arith };
  knowledge = record { derivation = tt; outs = λ k f e x g. absurd (cc); framed = λ x m. elim m [ ]; owned = λ n m. elim m [ ] };
  traces = record { shows = refl; waiting = λ x e. absurd (cc); free = λ x f. absurd (none_free x f); demands = record { served = λ x i h. absurd (let e = h.1 in cc); equal = λ x y i h. absurd (let e = h.1 in cc); unequal = λ x y i h. absurd (let e = h.1 in cc); found = λ x v i h. absurd (let e = h.1 in cc); missed = λ x y i j h k lt. absurd (let e = h.1 in cc); lock = λ l m x i j h k lt. absurd (let e = h.1 in cc) }; store = record { held = λ x v h. absurd (cc); values = λ x v h. absurd (cc); empty = λ x h v j k. absurd (let e = k.1 in cc); single = λ i x a b h k. absurd (let e = h.1 in cc) } };
}
  where
    first : (t : ℕ) (a : Agent) → slice_get (Some (unborn start) ∷ []) t ≡ Some (Some a) → Placed sig start a
    first zero a e = let same : unborn start ≡ a = cc in subst (λ b. Placed sig start b) same refl
    first (suc t) a e = absurd (cc)

    open_at : (t : ℕ) (a : Agent) → slice_get (Some (unborn start) ∷ []) t ≡ Some (Some a) → Covered (equations sig) [] t a
    open_at zero a e = let same : unborn start ≡ a = cc in subst (λ b. Covered (equations sig) [] zero b) same (no_open (equations sig) [] zero (unborn start) ok)
    open_at (suc t) a e = absurd (cc)

    none_free : (x : Tree) → Free [] x → ⊥
    none_free x f = let e = f.known.1 in cc
