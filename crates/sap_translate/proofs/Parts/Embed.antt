-- The relation is kept by embedded rules.
use Rattle.sap_translate.specs.Members.{Member}
use Rattle.sap_formula.specs.Hide.{hide}
use Rattle.sap_translate.proofs.Traces.Demands.{demands_quiet}
use Rattle.sap_translate.proofs.Parts.Holders.{locks_set, locks_quiet, longer}
use Rattle.sap_translate.proofs.Shared.Inputs.{event_frees_none}
use Rattle.sap_translate.proofs.Parts.Kept.{placed_set}
use Rattle.sap_translate.proofs.Shared.Lookups.{map-set}
use Rattle.sap_translate.proofs.Parts.Parts.{Grows, facts_apart, knowledge_kept, names_kept, quiet_none, trace_rules, trace_silent, spot_below}
use Rattle.sap_translate.proofs.Terms.Choices.{good-append}
use Rattle.sap_translate.proofs.Traces.Store.{store_quiet}
use Rattle.sap_translate.proofs.Shared.Takings.{takes_total}
use Rattle.sap_translate.proofs.Shared.Totals.{total-set, total-append}
use Rattle.sap_translate.proofs.Parts.Users.{user_live, user_fact, users_added, users_spent, said_visible, said_no_init, said_asks_none, said_writes_none, said_locks_none}
use Rattle.sap_translate.proofs.Traces.Visible.{hide_push}
use Rattle.sap_translate.specs.relation.Envs.{Env, names, chosen, GoodEnv, values, join}
use Rattle.sap_translate.specs.Scoped.{IsFree, AreUnreserved}
use Rattle.sap_templates.specs.ChannelFacts.{fresh_fact}
use Rattle.sap_translate.specs.relation.Agents.{Agent, running, process_of, IsAt, is_unborn}
use Rattle.sap_translate.specs.relation.Counts.{count_live, count_owed, count_user, count_fact, count_tag, has_init}
use Rattle.sap_translate.specs.relation.Related.{Related, TracePart, StorePart}
use Rattle.sap_place.specs.StateFacts.{state_fact}
use Rattle.sap_templates.specs.Places.{scoped_place_at, root}
use Rattle.sap_process.specs.Places.{place}
use Rattle.sap_templates.specs.Templates.{first_of, embedded_acts}
use Rattle.sap_process.specs.Scopes.{with_new}
use Rattle.sap_process.specs.Configuration.{Config, becomes}
use Rattle.sap_process.specs.Instance.{process_instance}
use Rattle.sap_process.specs.Proc.{Proc, act}
use Rattle.sap_process.specs.ProcessSteps.{ProcessStep}
use Rattle.sap_rule.specs.RuleSteps.{RuleState}
use Rattle.sap_terms.specs.AdversaryFacts.{out_fact}
use Rattle.sap_terms.specs.Piles.{Takes, adds}
use Rattle.sap_terms.specs.Reserved.{is_reserved}
use Rattle.sap_terms.specs.Signature.{Sig}
use Rattle.sap_terms.specs.Equations.{equations}
use Rattle.sap_terms.specs.Trace.{Trace, shown}
use Rattle.sap_terms.specs.Variables.{facts_vars}
use Rattle.sap_terms.specs.declared.var.Var.{Var}
use Rattle.sap_terms.specs.Tree.{Tree, fresh}
use Rattle.sap_terms.specs.declared.fact.Fact.{Fact}
use Rattle.std.proofs.Common.{◌≡◌, ℕ, List, [], ◌∷◌, ◌++◌, Option, Some, None, refl, sym, ap, ◌∙◌, arith, true, false, slice_get, slice_set, subst, append-nil, map}
use Rattle.std.specs.Option.{option_map}
use Rattle.sap_process.specs.Action as action

embed_no_out : (path : List ℕ) (args : List Tree) (right : List Fact) → AreUnreserved right → (f : Fact) → Member f (state_fact path args ∷ right) → (x : Tree) → f ≡ out_fact x → ⊥
embed_no_out path args right u f Member.here x e = facts_apart (state_fact path args) (out_fact x) e (λ h. cc)
embed_no_out path args right u f (Member.later m) x e = let h : is_reserved (out_fact x).name ≡ false = subst (λ y. is_reserved y.name ≡ false) e (u f m) in let z : true ≡ false = h in cc

-- a thread goes on by an embedded rule, where the traces are these behind
module _ (sig : Sig) (start : Proc) (agents : List (Option Agent)) (pending later : Option Tree) (c : Config) (tr : Trace) (s : RuleState) (full : Trace) (r : Related sig start agents pending c tr s full) where
  embedded_kept : (t : ℕ) (ks pks : List ℕ) (path : List ℕ) (env τ : Env) (l a o : List Fact) (p : Proc) (left acts right : List Fact) (rest prest : List (Option Fact)) → AreUnreserved left → AreUnreserved acts → AreUnreserved right → with_new (names env) (facts_vars (l ++ (a ++ o))) ≡ names (join env τ) → GoodEnv sig τ → ((y : Var) → Member y (names τ) → IsFree y (names env)) → slice_get agents t ≡ Some (Some (running path env (act (action.embedded l a o) p))) → Takes s.facts ks (state_fact path (values env) ∷ left) rest → Takes c.facts pks left prest → TracePart sig start later (record (becomes c t (Some (process_instance (chosen (join env τ)) p))) { facts = adds prest right }) (tr ++ shown acts) (full ++ embedded_acts acts ∷ []) → Related sig start (slice_set agents t (Some (running (first_of path) (join env τ) p))) later (record (becomes c t (Some (process_instance (chosen (join env τ)) p))) { facts = adds prest right }) (tr ++ shown acts) (record s { facts = adds rest (state_fact (first_of path) (values (join env τ)) ∷ right) }) (full ++ embedded_acts acts ∷ [])
  embedded_kept t ks pks path env τ l a o p left acts right rest prest uleft uacts uright scope good new_free e takes ptakes traces =
      let b : Proc = act (action.embedded l a o) p in
      let here : IsAt sig start path env b = r.placed t (running path env b) e in
      let new : Option Agent = Some (running (first_of path) (join env τ) p) in
      let q : Proc = process_instance (chosen (join env τ)) p in
      let d : Config = record (becomes c t (Some q)) { facts = adds prest right } in
      let up : Grows c d = record { own = λ n m. m; frame = λ x m. m } in
      let down : Grows d c = record { own = λ n m. m; frame = λ x m. m } in
      let state : Fact = state_fact (first_of path) (values (join env τ)) in
      record {
        placed = placed_set sig start agents t (running (first_of path) (join env τ) p) r.placed
            (subst (λ v. scoped_place_at (root start) (first_of path) ≡ Some (place (first_of path) v p)) scope (spot_below (root start) path 1 (place path (names env) b) (place (first_of path) (with_new (names env) (facts_vars (l ++ (a ++ o)))) p) here.0 refl), good-append sig env τ here.1 good new_free);
        threads = ap (λ ts. slice_set ts t (Some q)) r.threads ∙ sym (map-set (option_map process_of) agents t new);
        facts = λ test. let owed = total-set (count_owed test) agents t (Some (running path env b)) new e in let live = takes_total (count_live test) refl takes in let more = total-append (count_live test) rest (map (λ f. Some f) (state ∷ right)) in let none = users_spent (count_live test) left (user_live test) uleft in let none' = users_added (count_live test) right (user_live test) uright in let equal = r.facts test in omega arith;
        pile = λ test. let live = takes_total (count_user test) refl takes in let more = total-append (count_user test) rest (map (λ f. Some f) (state ∷ right)) in let plive = takes_total (count_user test) refl ptakes in let pmore = total-append (count_user test) prest (map (λ f. Some f) right) in let equal = r.pile test in omega arith;
        holders = r.holders;
        locks = locks_set t (running path env b) (running (first_of path) (join env τ) p) e (λ w. (w.0, w.1, λ l m h. longer env τ (w.2 l m h))) (locks_quiet (embedded_acts acts) (said_locks_none acts uacts) r.locks);
        init = let unborn = total-set is_unborn agents t (Some (running path env b)) new e in let inits = total-append has_init full (embedded_acts acts ∷ []) in let none = said_no_init acts uacts in let one = r.init in omega arith;
        names = names_kept agents (slice_set agents t new) c d s ks _ rest (state ∷ right) r.names takes (λ n. let tags = total-set (count_tag n) agents t (Some (running path env b)) new e in let none = users_added (count_fact (fresh_fact (fresh n))) right (λ f u. user_fact (fresh_fact (fresh n)) f refl u) uright in omega arith);
        knowledge = knowledge_kept sig c d s ks _ rest (state ∷ right) r.knowledge up down takes (λ x. let none = users_spent (count_fact (out_fact x)) left (λ f u. user_fact (out_fact x) f refl u) uleft in omega arith) (embed_no_out (first_of path) (values (join env τ)) right uright);
        traces = traces;
      }

module _ (sig : Sig) (start : Proc) (agents : List (Option Agent)) (c : Config) (tr : Trace) (s : RuleState) (full : Trace) (r : Related sig start agents None c tr s full) where
  embed_traces : (acts : List Fact) (d : Config) → AreUnreserved acts → Grows c d → d.store ≡ c.store → ProcessStep sig c acts d → TracePart sig start None d (tr ++ shown acts) (full ++ embedded_acts acts ∷ [])
  embed_traces [] d u up same step = trace_silent sig start None c d tr (full ++ [] ∷ []) (trace_rules sig start None c tr full [] r.traces quiet_none) up same step
  embed_traces (f ∷ fs) d u up same step = record {
    shows = hide_push full (embedded_acts (f ∷ fs)) ∙ ap (λ v. hide full ++ shown v) (said_visible (f ∷ fs) u) ∙ ap (λ x. x ++ shown (f ∷ fs)) (r.traces.shows ∙ append-nil tr) ∙ sym (append-nil (tr ++ shown (f ∷ fs)));
    waiting = λ x e. absurd (cc);
    free = λ x h. absurd (event_frees_none full (embedded_acts (f ∷ fs)) x Member.here h);
    demands = demands_quiet (equations sig) full (embedded_acts (f ∷ fs)) r.traces.demands (said_asks_none (f ∷ fs) u);
    store = subst (λ st. StorePart sig st (full ++ embedded_acts (f ∷ fs) ∷ [])) (sym same) (store_quiet sig c.store full (embedded_acts (f ∷ fs)) r.traces.store (said_writes_none (f ∷ fs) u));
  }

  pub kept_embed : (t : ℕ) (ks pks : List ℕ) (path : List ℕ) (env τ : Env) (l a o : List Fact) (p : Proc) (left acts right : List Fact) (rest prest : List (Option Fact)) → AreUnreserved left → AreUnreserved acts → AreUnreserved right → with_new (names env) (facts_vars (l ++ (a ++ o))) ≡ names (join env τ) → GoodEnv sig τ → ((y : Var) → Member y (names τ) → IsFree y (names env)) → slice_get agents t ≡ Some (Some (running path env (act (action.embedded l a o) p))) → Takes s.facts ks (state_fact path (values env) ∷ left) rest → Takes c.facts pks left prest → ProcessStep sig c acts (record (becomes c t (Some (process_instance (chosen (join env τ)) p))) { facts = adds prest right }) → Related sig start (slice_set agents t (Some (running (first_of path) (join env τ) p))) None (record (becomes c t (Some (process_instance (chosen (join env τ)) p))) { facts = adds prest right }) (tr ++ shown acts) (record s { facts = adds rest (state_fact (first_of path) (values (join env τ)) ∷ right) }) (full ++ embedded_acts acts ∷ [])
  kept_embed t ks pks path env τ l a o p left acts right rest prest uleft uacts uright scope good new_free e takes ptakes step =
      let d : Config = record (becomes c t (Some (process_instance (chosen (join env τ)) p))) { facts = adds prest right } in
      (embedded_kept sig start agents None None c tr s full r) t ks pks path env τ l a o p left acts right rest prest uleft uacts uright scope good new_free e takes ptakes (embed_traces acts d uacts (record { own = λ n m. m; frame = λ x m. m }) refl step)

-- the same where it shows nothing: what is pending stays so
module _ (sig : Sig) (start : Proc) (agents : List (Option Agent)) (pending : Option Tree) (c : Config) (tr : Trace) (s : RuleState) (full : Trace) (r : Related sig start agents pending c tr s full) where
  pub kept_embed_silent : (t : ℕ) (ks pks : List ℕ) (path : List ℕ) (env τ : Env) (l a o : List Fact) (p : Proc) (left right : List Fact) (rest prest : List (Option Fact)) → AreUnreserved left → AreUnreserved right → with_new (names env) (facts_vars (l ++ (a ++ o))) ≡ names (join env τ) → GoodEnv sig τ → ((y : Var) → Member y (names τ) → IsFree y (names env)) → slice_get agents t ≡ Some (Some (running path env (act (action.embedded l a o) p))) → Takes s.facts ks (state_fact path (values env) ∷ left) rest → Takes c.facts pks left prest → ProcessStep sig c [] (record (becomes c t (Some (process_instance (chosen (join env τ)) p))) { facts = adds prest right }) → Related sig start (slice_set agents t (Some (running (first_of path) (join env τ) p))) pending (record (becomes c t (Some (process_instance (chosen (join env τ)) p))) { facts = adds prest right }) (tr ++ []) (record s { facts = adds rest (state_fact (first_of path) (values (join env τ)) ∷ right) }) (full ++ [] ∷ [])
  kept_embed_silent t ks pks path env τ l a o p left right rest prest uleft uright scope good new_free e takes ptakes step =
      let d : Config = record (becomes c t (Some (process_instance (chosen (join env τ)) p))) { facts = adds prest right } in
      (embedded_kept sig start agents pending pending c tr s full r) t ks pks path env τ l a o p left [] right rest prest uleft (λ f m. elim m [ ]) uright scope good new_free e takes ptakes (trace_silent sig start pending c d tr (full ++ [] ∷ []) (trace_rules sig start pending c tr full [] r.traces quiet_none) (record { own = λ n m. m; frame = λ x m. m }) refl step)
