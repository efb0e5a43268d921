-- The relation is kept by the rules of private channels.
use Rattle.sap_translate.specs.Members.{Member}
use Rattle.sap_translate.proofs.Shared.Facts.{names_apart}
use Rattle.sap_translate.proofs.Parts.Holders.{locks_set, locks_quiet, longer}
use Rattle.sap_translate.proofs.Parts.Kept.{placed_set, same_grows, cond_cond, state_no_out, threads_grow, threads_back}
use Rattle.sap_translate.proofs.Traces.LockTraces.{no_lock_none}
use Rattle.sap_translate.proofs.Shared.Lookups.{map-set, map-set_same, get-set_other, only_member}
use Rattle.sap_translate.proofs.Parts.Parts.{knowledge_kept, names_kept, quiet_none, trace_rules, trace_silent, spot_below}
use Rattle.sap_translate.proofs.Terms.Choices.{good-append}
use Rattle.sap_translate.proofs.Terms.Substitution.{new_free as free_of}
use Rattle.sap_translate.proofs.Shared.Takings.{takes_total}
use Rattle.sap_translate.proofs.Shared.Totals.{total-set, total-append}
use Rattle.sap_translate.specs.relation.Envs.{Env, names, chosen, GoodEnv, values, join}
use Rattle.sap_translate.specs.Scoped.{IsFree}
use Rattle.sap_templates.specs.ChannelFacts.{fresh_fact, msg_fact, ack_fact}
use Rattle.sap_translate.specs.relation.Agents.{Agent, running, awaiting, received, process_of, IsAt, is_unborn}
use Rattle.sap_translate.specs.relation.Counts.{count_live, count_owed, count_tag, has_init, count_user}
use Rattle.sap_translate.specs.relation.Related.{Related}
use Rattle.sap_place.specs.StateFacts.{state_fact, waits_fact}
use Rattle.sap_templates.specs.Places.{scoped_place_at, root}
use Rattle.sap_process.specs.Places.{place}
use Rattle.sap_templates.specs.Templates.{first_of}
use Rattle.sap_process.specs.Scopes.{with_new}
use Rattle.sap_process.specs.Configuration.{Config, becomes}
use Rattle.sap_process.specs.Instance.{process_instance}
use Rattle.sap_process.specs.Proc.{Proc, act}
use Rattle.sap_process.specs.ProcessSteps.{ProcessStep}
use Rattle.sap_rule.specs.RuleSteps.{RuleState}
use Rattle.sap_terms.specs.AdversaryFacts.{out_fact}
use Rattle.sap_terms.specs.Choice.{instance}
use Rattle.sap_terms.specs.Normal.{IsNormalForm}
use Rattle.sap_terms.specs.Piles.{Takes, adds}
use Rattle.sap_terms.specs.Signature.{Sig}
use Rattle.sap_terms.specs.Equations.{equations}
use Rattle.sap_terms.specs.Trace.{Trace}
use Rattle.sap_process.specs.Sites.{var_names}
use Rattle.sap_terms.specs.Variables.{tree_vars, new_vars}
use Rattle.sap_terms.specs.declared.var.Var.{Var}
use Rattle.sap_terms.specs.Tree.{Tree, fresh}
use Rattle.sap_terms.specs.declared.fact.Fact.{Fact}
use Rattle.std.proofs.Common.{◌≡◌, ℕ, ◌==◌, List, [], ◌∷◌, ◌++◌, Option, Some, refl, sym, ap, ◌∙◌, arith, slice_get, slice_set, subst, map}
use Rattle.std.specs.Option.{option_map}
use Rattle.sap_process.specs.Action as action

-- two facts of which neither has this name
two_apart : (a b : Fact) (word : List ℕ) → (a.name ≡ word → ⊥) → (b.name ≡ word → ⊥) → (f : Fact) → Member f (a ∷ b ∷ []) → f.name ≡ word → ⊥
two_apart a b word h k f Member.here e = h e
two_apart a b word h k f (Member.later m) e = k (sym (ap (λ (z : Fact). z.name) (only_member m)) ∙ e)

msg_sent_no : (word : List ℕ) (g m n : Tree) (path : List ℕ) (args : List Tree) → ((msg_fact g m n).name ≡ word → ⊥) → ((waits_fact path args).name ≡ word → ⊥) → (mk : Tree → Fact) → ((x : Tree) → (mk x).name ≡ word) → (f : Fact) → Member f (msg_fact g m n ∷ waits_fact path args ∷ []) → (x : Tree) → f ≡ mk x → ⊥
msg_sent_no word g m n path args h k mk is f mem x e = two_apart (msg_fact g m n) (waits_fact path args) word h k f mem (ap (λ (z : Fact). z.name) e ∙ is x)

ack_state_no : (word : List ℕ) (g : Tree) (path : List ℕ) (args : List Tree) → ((ack_fact g).name ≡ word → ⊥) → ((state_fact path args).name ≡ word → ⊥) → (mk : Tree → Fact) → ((x : Tree) → (mk x).name ≡ word) → (f : Fact) → Member f (ack_fact g ∷ state_fact path args ∷ []) → (x : Tree) → f ≡ mk x → ⊥
ack_state_no word g path args h k mk is f mem x e = two_apart (ack_fact g) (state_fact path args) word h k f mem (ap (λ (z : Fact). z.name) e ∙ is x)

apart_agents : (path : List ℕ) (env : Env) (m n x y : Tree) (p : Proc) (g : ℕ) (at : List ℕ) (other : Env) (q : Proc) → Some (Some (awaiting path env m n x y p g)) ≡ Some (Some (running at other q)) → ⊥
apart_agents path env m n x y p g at other q e = cc

module _ (sig : Sig) (start : Proc) (agents : List (Option Agent)) (pending : Option Tree) (c : Config) (tr : Trace) (s : RuleState) (full : Trace) (r : Related sig start agents pending c tr s full) where
  -- the sender puts its message under way: the process does nothing
  pub kept_out_msg : (t g : ℕ) (ks : List ℕ) (path : List ℕ) (env : Env) (m n x y : Tree) (p : Proc) (rest : List (Option Fact)) → IsNormalForm (equations sig) (instance (chosen env) m) x → IsNormalForm (equations sig) (instance (chosen env) n) y → slice_get agents t ≡ Some (Some (running path env (act (action.send m n) p))) → Takes s.facts ks (state_fact path (values env) ∷ fresh_fact (fresh g) ∷ []) rest → Related sig start (slice_set agents t (Some (awaiting path env m n x y p g))) pending c tr (record s { facts = adds rest (msg_fact (fresh g) x y ∷ waits_fact path (values env ++ fresh g ∷ []) ∷ []) }) (full ++ [] ∷ [])
  kept_out_msg t g ks path env m n x y p rest x_form y_form e takes =
      let here : IsAt sig start path env (act (action.send m n) p) = r.placed t (running path env (act (action.send m n) p)) e in
      let new : Option Agent = Some (awaiting path env m n x y p g) in
      let old : Option Agent = Some (running path env (act (action.send m n) p)) in
      let right : List Fact = msg_fact (fresh g) x y ∷ waits_fact path (values env ++ fresh g ∷ []) ∷ [] in
      record {
        placed = placed_set sig start agents t (awaiting path env m n x y p g) r.placed (here, x_form, y_form);
        threads = r.threads ∙ sym (map-set_same (option_map process_of) agents t old new e refl);
        facts = λ test. let owed = total-set (count_owed test) agents t old new e in let live = takes_total (count_live test) refl takes in let more = total-append (count_live test) rest (map (λ f. Some f) right) in let equal = r.facts test in omega arith;
        pile = λ test. let live = takes_total (count_user test) refl takes in let more = total-append (count_user test) rest (map (λ f. Some f) right) in let equal = r.pile test in omega arith;
        holders = r.holders;
        locks = locks_set t (running path env (act (action.send m n) p)) (awaiting path env m n x y p g) e (λ w. w) (locks_quiet ([]) (no_lock_none) r.locks);
        init = let unborn = total-set is_unborn agents t old new e in let inits = total-append has_init full ([] ∷ []) in let one = r.init in omega arith;
        names = names_kept agents (slice_set agents t new) c c s ks _ rest right r.names takes (λ k. let tags = total-set (count_tag k) agents t old new e in omega (arith, cond_cond (g == k)));
        knowledge = knowledge_kept sig c c s ks _ rest right r.knowledge (same_grows c) (same_grows c) takes (λ z. refl)
            (msg_sent_no (out_fact (fresh 0)).name (fresh g) x y path (values env ++ fresh g ∷ []) (λ z. names_apart (msg_fact (fresh g) (fresh g) (fresh g)).name (out_fact (fresh 0)).name refl z) (λ z. names_apart (waits_fact path []).name (out_fact (fresh 0)).name refl z) out_fact (λ x. refl));
        traces = trace_rules sig start pending c tr full [] r.traces quiet_none;
      }

  -- the receiver takes the message: both processes go on
  pub kept_meet : (a b g : ℕ) (ks : List ℕ) (path at : List ℕ) (env other τ : Env) (m n x y l k : Tree) (p q : Proc) (rest : List (Option Fact)) → slice_get agents a ≡ Some (Some (awaiting path env m n x y p g)) → slice_get agents b ≡ Some (Some (running at other (act (action.receive l k) q))) → names τ ≡ new_vars (var_names (names other)) (tree_vars k) → GoodEnv sig τ → Takes s.facts ks (state_fact at (values other) ∷ msg_fact (fresh g) x y ∷ []) rest
      → ProcessStep sig c [] (becomes (becomes c a (Some (process_instance (chosen env) p))) b (Some (process_instance (chosen (join other τ)) q)))
      → Related sig start (slice_set (slice_set agents a (Some (received path env m n p g))) b (Some (running (first_of at) (join other τ) q))) pending (becomes (becomes c a (Some (process_instance (chosen env) p))) b (Some (process_instance (chosen (join other τ)) q))) (tr ++ []) (record s { facts = adds rest (ack_fact (fresh g) ∷ state_fact (first_of at) (values (join other τ)) ∷ []) }) (full ++ [] ∷ [])
  kept_meet a b g ks path at env other τ m n x y l k p q rest ea eb new_names ground takes step =
      let here : IsAt sig start path env (act (action.send m n) p) = (r.placed a (awaiting path env m n x y p g) ea).0 in
      let there : IsAt sig start at other (act (action.receive l k) q) = r.placed b (running at other (act (action.receive l k) q)) eb in
      let old_a : Option Agent = Some (awaiting path env m n x y p g) in
      let new_a : Option Agent = Some (received path env m n p g) in
      let old_b : Option Agent = Some (running at other (act (action.receive l k) q)) in
      let new_b : Option Agent = Some (running (first_of at) (join other τ) q) in
      let mid : List (Option Agent) = slice_set agents a new_a in
      let differ : a ≡ b → ⊥ = λ same. apart_agents path env m n x y p g at other (act (action.receive l k) q) (sym ea ∙ ap (λ i. slice_get agents i) same ∙ eb) in
      let eb' : slice_get mid b ≡ Some old_b = get-set_other agents a b new_a differ ∙ eb in
      let later : List (Option Agent) = slice_set mid b new_b in
      let inner : Proc = process_instance (chosen (join other τ)) q in
      let d : Config = becomes (becomes c a (Some (process_instance (chosen env) p))) b (Some inner) in
      let up = threads_grow c d.threads in
      let down = threads_back c d.threads in
      let right : List Fact = ack_fact (fresh g) ∷ state_fact (first_of at) (values (join other τ)) ∷ [] in
      let scope : with_new (names other) (tree_vars k) ≡ names (join other τ) = ap (λ v. names other ++ v) (sym new_names) in
      let new_free : (y : Var) → Member y (names τ) → IsFree y (names other) = λ y h. free_of (var_names (names other)) (tree_vars k) y (subst (λ v. Member y v) new_names h) in
      record {
        placed = placed_set sig start mid b (running (first_of at) (join other τ) q) (placed_set sig start agents a (received path env m n p g) r.placed here)
            (subst (λ v. scoped_place_at (root start) (first_of at) ≡ Some (place (first_of at) v q)) scope (spot_below (root start) at 1 (place at (names other) (act (action.receive l k) q)) (place (first_of at) (with_new (names other) (tree_vars k)) q) there.0 refl), good-append sig other τ there.1 ground new_free);
        threads = ap (λ ts. slice_set (slice_set ts a (Some (process_instance (chosen env) p))) b (Some inner)) r.threads
            ∙ ap (λ ts. slice_set ts b (Some (process_instance (chosen (join other τ)) q))) (sym (map-set (option_map process_of) agents a new_a))
            ∙ sym (map-set (option_map process_of) mid b new_b);
        facts = λ test. let owed = total-set (count_owed test) agents a old_a new_a ea in let owed' = total-set (count_owed test) mid b old_b new_b eb' in let live = takes_total (count_live test) refl takes in let more = total-append (count_live test) rest (map (λ f. Some f) right) in let equal = r.facts test in omega arith;
        pile = λ test. let live = takes_total (count_user test) refl takes in let more = total-append (count_user test) rest (map (λ f. Some f) right) in let equal = r.pile test in omega arith;
        holders = r.holders;
        locks = locks_set b (running at other (act (action.receive l k) q)) (running (first_of at) (join other τ) q) eb' (λ w. (w.0, w.1, λ u v h. longer other τ (w.2 u v h))) (locks_set a (awaiting path env m n x y p g) (received path env m n p g) ea (λ w. w) (locks_quiet [] no_lock_none r.locks));
        init = let unborn = total-set is_unborn agents a old_a new_a ea in let unborn' = total-set is_unborn mid b old_b new_b eb' in let inits = total-append has_init full ([] ∷ []) in let one = r.init in omega arith;
        names = names_kept agents later c d s ks _ rest right r.names takes (λ j. let tags = total-set (count_tag j) agents a old_a new_a ea in let tags' = total-set (count_tag j) mid b old_b new_b eb' in omega arith);
        knowledge = knowledge_kept sig c d s ks _ rest right r.knowledge up down takes (λ z. refl)
            (ack_state_no (out_fact (fresh 0)).name (fresh g) (first_of at) (values (join other τ)) (λ z. names_apart (ack_fact (fresh g)).name (out_fact (fresh 0)).name refl z) (λ z. names_apart (state_fact (first_of at) []).name (out_fact (fresh 0)).name refl z) out_fact (λ x. refl));
        traces = trace_silent sig start pending c d tr (full ++ [] ∷ []) (trace_rules sig start pending c tr full [] r.traces quiet_none) up refl step;
      }

  -- the acknowledgement reaches its sender: the process does nothing
  pub kept_out_ack : (t g : ℕ) (ks : List ℕ) (path : List ℕ) (env : Env) (m n : Tree) (p : Proc) (rest : List (Option Fact)) → slice_get agents t ≡ Some (Some (received path env m n p g)) → Takes s.facts ks (waits_fact path (values env ++ fresh g ∷ []) ∷ ack_fact (fresh g) ∷ []) rest → Related sig start (slice_set agents t (Some (running (first_of path) env p))) pending c tr (record s { facts = adds rest (state_fact (first_of path) (values env) ∷ []) }) (full ++ [] ∷ [])
  kept_out_ack t g ks path env m n p rest e takes =
      let here : IsAt sig start path env (act (action.send m n) p) = r.placed t (received path env m n p g) e in
      let new : Option Agent = Some (running (first_of path) env p) in
      let old : Option Agent = Some (received path env m n p g) in
      let right : List Fact = state_fact (first_of path) (values env) ∷ [] in
      record {
        placed = placed_set sig start agents t (running (first_of path) env p) r.placed (spot_below (root start) path 1 (place path (names env) (act (action.send m n) p)) (place (first_of path) (names env) p) here.0 refl, here.1);
        threads = r.threads ∙ sym (map-set_same (option_map process_of) agents t old new e refl);
        facts = λ test. let owed = total-set (count_owed test) agents t old new e in let live = takes_total (count_live test) refl takes in let more = total-append (count_live test) rest (map (λ f. Some f) right) in let equal = r.facts test in omega arith;
        pile = λ test. let live = takes_total (count_user test) refl takes in let more = total-append (count_user test) rest (map (λ f. Some f) right) in let equal = r.pile test in omega arith;
        holders = r.holders;
        locks = locks_set t (received path env m n p g) (running (first_of path) env p) e (λ w. w) (locks_quiet ([]) (no_lock_none) r.locks);
        init = let unborn = total-set is_unborn agents t old new e in let inits = total-append has_init full ([] ∷ []) in let one = r.init in omega arith;
        names = names_kept agents (slice_set agents t new) c c s ks _ rest right r.names takes (λ k. let tags = total-set (count_tag k) agents t old new e in omega arith);
        knowledge = knowledge_kept sig c c s ks _ rest right r.knowledge (same_grows c) (same_grows c) takes (λ z. refl) (state_no_out (first_of path) (values env));
        traces = trace_rules sig start pending c tr full [] r.traces quiet_none;
      }
