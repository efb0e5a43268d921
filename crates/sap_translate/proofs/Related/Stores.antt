-- What answers the steps of the store and of locks.
use Rattle.sap_translate.proofs.Premises.LowerLaws.{Laws, nf-fresh, one_normal_form, nf-fixed, nf}
use Rattle.sap_restrict.specs.ReservedFacts.{insert_fact, delete_fact, is_in_fact, is_not_set_fact, lock_fact, unlock_fact}
use Rattle.sap_translate.specs.Members.{Member}
use Rattle.sap_translate.specs.relation.Shown.{MeetsSix}
use Rattle.sap_translate.proofs.Terms.Choices.{filled_is, choice_new, choice_good, put_choice, put_longer, good_just, just_free, good-append}
use Rattle.sap_translate.proofs.Terms.Derive.{contains}
use Rattle.sap_translate.proofs.Terms.Forms.{settled, fresh_message}
use Rattle.sap_translate.proofs.Terms.Grounds.{put_message}
use Rattle.sap_translate.proofs.Terms.Substitution.{with_term_is}
use Rattle.sap_translate.proofs.Parts.Kept.{kept_branch, kept_fresh, kept_store, kept_found}
use Rattle.sap_translate.proofs.Parts.KeptLocks.{kept_lock, kept_unlock}
use Rattle.sap_translate.proofs.Traces.Demands.{other, demands_quiet, no_demand_one, demands_found, demands_missed}
use Rattle.sap_translate.proofs.Traces.LockTraces.{NoLock, no_lock_one}
use Rattle.sap_translate.proofs.Traces.Store.{no_write_one, store_insert, store_delete, store_quiet}
use Rattle.sap_templates.specs.ChannelFacts.{fresh_fact}
use Rattle.sap_translate.specs.Scoped.{IsFree}
use Rattle.sap_translate.specs.OpenLocks.{UnlocksAreOpen}
use Rattle.sap_templates.specs.Places.{child}
use Rattle.sap_translate.specs.Sound.{SoundPlaces}
use Rattle.sap_templates.specs.Templates.{first_of, second_of, rules_of, own_rules, insert_rule, delete_rule, found_rule, missing_rule, lock_rule, unlock_rule}
use Rattle.sap_translate.specs.relation.Answered.{Inserts, Deletes, Finds, Misses, Locks, Unlocks}
use Rattle.sap_translate.specs.relation.Answers.{AtRest, Answers, StandsBefore, term_under, under, at_first, at_second, goes_on, trades}
use Rattle.sap_translate.specs.relation.Envs.{Env, names, chosen, filled, values, just, join, GoodEnv}
use Rattle.sap_translate.specs.relation.Names.{vars}
use Rattle.sap_translate.specs.relation.ProcessMoves.{IsProcessMove}
use Rattle.sap_translate.specs.relation.ProcessMoves as process
use Rattle.sap_translate.specs.relation.Agents.{Agent, running}
use Rattle.sap_translate.specs.relation.Related.{Related, StorePart}
use Rattle.sap_translate.specs.relation.Counts.{has_init}
use Rattle.sap_translate.specs.relation.RuleMoves.{RuleMoves}
use Rattle.sap_translate.specs.relation.RuleMoves as rules
use Rattle.sap_formula.specs.Hide.{visible}
use Rattle.sap_process.specs.Scopes.{lock_var}
use Rattle.sap_place.specs.StateFacts.{state_fact}
use Rattle.sap_process.specs.Configuration.{Config, becomes, stored, holding}
use Rattle.sap_process.specs.Instance.{process_instance, without}
use Rattle.sap_process.specs.Places.{place}
use Rattle.sap_process.specs.Proc.{Proc, act}
use Rattle.sap_process.specs.ProcessSteps.{ProcessStep}
use Rattle.sap_process.specs.Sites.{message_var}
use Rattle.sap_rule.specs.RuleSteps.{RuleState, RuleStep, leaves}
use Rattle.sap_rule.specs.RuleSteps as state
use Rattle.sap_rule.specs.declared.rule.Rule.{Rule}
use Rattle.sap_terms.specs.AdversaryFacts.{k_fact, fr_fact}
use Rattle.sap_terms.specs.Choice.{instance}
use Rattle.sap_terms.specs.Equations.{equations}
use Rattle.sap_terms.specs.Piles.{Takes, nothing, one}
use Rattle.sap_terms.specs.Signature.{Sig, HoldsBuiltins}
use Rattle.sap_terms.specs.Trace.{Trace}
use Rattle.sap_terms.specs.Tree.{Tree, fresh}
use Rattle.sap_terms.specs.declared.fact.Fact.{Fact}
use Rattle.std.proofs.Common.{◌≡◌, ℕ, List, [], ◌∷◌, ◌++◌, Option, Some, None, refl, sym, ap, ◌∙◌, false, true, slice_set, subst, length, append_assoc, map}
use Rattle.sap_process.specs.Action as action
use Rattle.sap_process.specs.Proc as whole
use Rattle.sap_translate.proofs.Related.Common.{one_move, two_moves, runs_as, place_rule, use_of, own_args, old_args, takes_newest, answers_set, bound_term}
use Rattle.sap_terms.specs.declared.var.Sort.TheVariants.{Msg}
use Rattle.sap_translate.proofs.Related.Control.{plain_use}

module _ (laws : Laws) (g : Sig) (start : Proc) (hold : HoldsBuiltins g) (fine : SoundPlaces g start) (agents : List (Option Agent)) (c : Config) (tr : Trace) (s : RuleState) (full : Trace) (h : AtRest g start agents c tr s full) where
  -- a thread goes on at its first child, what its rule shows is hidden, and the store is this later
  at_store : (t k : ℕ) (path : List ℕ) (env : Env) (b p : Proc) → StandsBefore agents s t k path env b → (r : Rule) → Member r (own_rules path (names env) b) → r.left ≡ state_fact path (vars (names env)) ∷ [] → r.right ≡ state_fact (first_of path) (vars (names env)) ∷ []
      → (acts : List Fact) (later : Tree → Option Tree) → (settled laws) (equations g) (filled env) r.acts ≡ acts → NoLock acts → ((o : List (ℕ × Tree)) → UnlocksAreOpen o b → UnlocksAreOpen o p) → child (place path (names env) b) 1 ≡ Some (place (first_of path) (names env) p)
      → visible acts ≡ [] → has_init acts ≡ 0 → ((y : Tree) → Member (k_fact y) acts → ⊥) → MeetsSix (equations g) (full ++ acts ∷ []) → StorePart g later (full ++ acts ∷ []) → {move : process.ProcessMove} → IsProcessMove g c move [] (record (becomes c t (Some (under env p))) { store = later })
      → Answers g start c tr s full move [] (record (becomes c t (Some (under env p))) { store = later }) (rules.uses r (k ∷ []) (filled env) ∷ []) (acts ∷ []) (trades s (k ∷ []) (at_first path env ∷ [])) (goes_on agents t path env p)
  at_store t k path env b p w r m l o acts later shows quiet ok below hidden no_init no_k demands store move =
      let at = h.related.placed t (running path env b) w.thread in
      (answers_set g start agents c tr s full h) t (Some (running path env b)) (Some (running (first_of path) env p)) w.thread refl refl move
      (one_move ((plain_use laws g start fine agents c tr s full h) t k path env b w r m l acts (at_first path env ∷ []) shows (ap ((settled laws) (equations g) (filled env)) o ∙ ap (λ ts. state_fact (first_of path) ts ∷ []) ((own_args laws) g env at.1))))
      ((kept_store laws) g start agents None c tr s full h.related t (k ∷ []) path env b p (slice_set s.facts k None) acts later quiet ok below hidden no_init no_k demands store w.thread (one w.fact nothing) move.step)

  pub inserts : Inserts g start agents c tr s full
  inserts t k path env m u x v p w m_form u_form =
      let b : Proc = act (action.insert m u) p in
      let at = h.related.placed t (running path env b) w.thread in
      let sound = fine path (place path (names env) b) at.0 in
      let x_is : (nf laws) (equations g) (instance (filled env) m) ≡ x = ap ((nf laws) (equations g)) (put_choice env m sound.0) ∙ sym ((one_normal_form laws) (equations g) (term_under env m) x m_form) in
      let v_is : (nf laws) (equations g) (instance (filled env) u) ≡ v = ap ((nf laws) (equations g)) (put_choice env u sound.1) ∙ sym ((one_normal_form laws) (equations g) (term_under env u) v u_form) in
      let message = (put_message laws) g env u v hold at.1 sound.1 sound.2 u_form in
      let acts : List Fact = insert_fact x v ∷ [] in
      at_store t k path env b p w (insert_rule path (names env) m u) Member.here refl refl acts (stored c.store x (Some v)) (λ i. insert_fact (x_is i) (v_is i) ∷ []) (no_lock_one (insert_fact x v) refl) (λ o z. z) refl refl refl (λ z j. other (k_fact z) (insert_fact x v) refl j)
      (demands_quiet (equations g) full acts h.related.traces.demands (no_demand_one (insert_fact x v) refl)) (store_insert g c.store full x v h.related.traces.store message) (record { step = ProcessStep.inserts t (runs_as h.related t (running path env b) w.thread) m_form u_form; chooses = refl })

  pub deletes : Deletes g start agents c tr s full
  deletes t k path env m x p w m_form =
      let b : Proc = act (action.delete m) p in
      let at = h.related.placed t (running path env b) w.thread in
      let sound = fine path (place path (names env) b) at.0 in
      let x_is : (nf laws) (equations g) (instance (filled env) m) ≡ x = ap ((nf laws) (equations g)) (put_choice env m sound) ∙ sym ((one_normal_form laws) (equations g) (term_under env m) x m_form) in
      let acts : List Fact = delete_fact x ∷ [] in
      at_store t k path env b p w (delete_rule path (names env) m) Member.here refl refl acts (stored c.store x None) (λ i. delete_fact (x_is i) ∷ []) (no_lock_one (delete_fact x) refl) (λ o z. z) refl refl refl (λ z j. other (k_fact z) (delete_fact x) refl j)
      (demands_quiet (equations g) full acts h.related.traces.demands (no_demand_one (delete_fact x) refl)) (store_delete g c.store full x h.related.traces.store) (record { step = ProcessStep.deletes t (runs_as h.related t (running path env b) w.thread) m_form; chooses = refl })

  pub misses : Misses g start agents c tr s full
  misses t k path env m x y p q w m_form absent =
      let b : Proc = whole.lookup m y p q in
      let at = h.related.placed t (running path env b) w.thread in
      let sound = fine path (place path (names env) b) at.0 in
      let x_is : (nf laws) (equations g) (instance (filled env) m) ≡ x = ap ((nf laws) (equations g)) (put_choice env m sound.0) ∙ sym ((one_normal_form laws) (equations g) (term_under env m) x m_form) in
      let acts : List Fact = is_not_set_fact x ∷ [] in
      let step : ProcessStep g c [] (becomes c t (Some (under env q))) = ProcessStep.misses t (runs_as h.related t (running path env b) w.thread) m_form absent in
      (answers_set g start agents c tr s full h) t (Some (running path env b)) (Some (running (second_of path) env q)) w.thread refl refl (record { step = step; chooses = refl })
      (one_move ((plain_use laws g start fine agents c tr s full h) t k path env b w (missing_rule path (names env) m) (Member.later Member.here) refl acts (at_second path env ∷ []) (λ i. is_not_set_fact (x_is i) ∷ []) (ap (λ ts. state_fact (second_of path) ts ∷ []) ((own_args laws) g env at.1))))
      ((kept_branch laws) g start agents None c tr s full h.related t (k ∷ []) path 2 env b q (slice_set s.facts k None) acts (no_lock_one (is_not_set_fact x) refl) (λ o z. z.1) refl refl refl (λ i j. other (k_fact i) (is_not_set_fact x) refl j) (demands_missed (equations g) full x h.related.traces.demands (h.related.traces.store.empty x absent)) (no_write_one (is_not_set_fact x) refl) w.thread (one w.fact nothing) step)

  pub finds : Finds g start agents c tr s full
  finds t k path env m x v y p q w m_form held =
      let b : Proc = whole.lookup m y p q in
      let at = h.related.placed t (running path env b) w.thread in
      let sound = fine path (place path (names env) b) at.0 in
      let have = h.related.traces.store.values x v held in
      let τ : Env = just (message_var y) v in
      let wider : Env = join env τ in
      let good_wider : GoodEnv g wider = good-append g env τ at.1 (good_just g (message_var y) v have) (just_free env (message_var y) v sound.1) in
      let good = (choice_good laws) g wider good_wider in
      let x_is : (nf laws) (equations g) (instance (filled wider) m) ≡ x = ap ((nf laws) (equations g)) (put_longer env τ m sound.0) ∙ sym ((one_normal_form laws) (equations g) (term_under env m) x m_form) in
      let v_is : (nf laws) (equations g) (filled wider (message_var y)) ≡ v = ap ((nf laws) (equations g)) (choice_new env (message_var y) v sound.1) ∙ (nf-fixed laws) (equations g) v have.normal in
      let new_args : map ((nf laws) (equations g)) (map (instance (filled wider)) (vars (names env ++ message_var y ∷ []))) ≡ values wider = (own_args laws) g wider good_wider in
      let acts : List Fact = is_in_fact x v ∷ [] in
      let r : Rule = found_rule path (names env) m y in
      let inside : Proc = process_instance (without (chosen env) y) p in
      let inner : Proc = process_instance (chosen τ) inside in
      let same : inner ≡ under wider p = sym (with_term_is y v inside) ∙ (bound_term laws) env y Msg v p at.1.ground sound.1 in
      let move : IsProcessMove g c (process.finds t) [] (becomes c t (Some inner)) = subst (λ z. IsProcessMove g c (process.finds t) [] (becomes c t (Some z))) (with_term_is y v inside) (record { step = ProcessStep.finds t (runs_as h.related t (running path env b) w.thread) m_form held; chooses = refl }) in
      let z : RuleState = trades s (k ∷ []) (at_first path wider ∷ []) in
      let takes : Takes s.facts (k ∷ []) (state_fact path (values env) ∷ []) (slice_set s.facts k None) = one w.fact nothing in
      let moves : RuleMoves g (rules_of start) s (rules.uses r (k ∷ []) (filled wider) ∷ []) (acts ∷ []) z = one_move ((use_of laws) g start s r (filled wider) (state_fact path (values env) ∷ []) acts (at_first path wider ∷ []) (place_rule start path (names env) b r at.0 Member.here) good
      (ap (λ ts. state_fact path ts ∷ []) ((old_args laws) g env τ good_wider)) (λ i. is_in_fact (x_is i) (v_is i) ∷ []) (ap (λ ts. state_fact (first_of path) ts ∷ []) new_args) takes) in
      subst (λ u. Answers g start c tr s full (process.finds t) [] (becomes c t (Some u)) (rules.uses r (k ∷ []) (filled wider) ∷ []) (acts ∷ []) z (goes_on agents t path wider p)) same
      ((answers_set g start agents c tr s full h) t (Some (running path env b)) (Some (running (first_of path) wider p)) w.thread refl refl move moves
      ((kept_found laws) g start agents None c tr s full h.related t (k ∷ []) path env m y v p q (slice_set s.facts k None) acts (no_lock_one (is_in_fact x v) refl) sound.1 have refl refl (λ i j. other (k_fact i) (is_in_fact x v) refl j) (demands_found (equations g) full x v h.related.traces.demands (h.related.traces.store.held x v held)) (store_quiet g c.store full acts h.related.traces.store (no_write_one (is_in_fact x v) refl)) w.thread takes move.step))

  pub unlocks : Unlocks g start agents c tr s full
  unlocks t k path env m x l p w m_form =
      let b : Proc = act (action.unlock m l) p in
      let at = h.related.placed t (running path env b) w.thread in
      let sound = fine path (place path (names env) b) at.0 in
      let x_is : (nf laws) (equations g) (instance (filled env) m) ≡ x = ap ((nf laws) (equations g)) (put_choice env m sound.0) ∙ sym ((one_normal_form laws) (equations g) (term_under env m) x m_form) in
      let name : Tree = env.choice (lock_var l) in
      let name_is : (nf laws) (equations g) (filled env (lock_var l)) ≡ name = ap ((nf laws) (equations g)) (filled_is env (lock_var l) sound.1) ∙ (nf-fixed laws) (equations g) name (at.1.messages (lock_var l) sound.1).normal in
      let acts : List Fact = unlock_fact name x ∷ [] in
      let step : ProcessStep g c [] (holding (becomes c t (Some (under env p))) x false) = ProcessStep.unlocks t (runs_as h.related t (running path env b) w.thread) m_form in
      (answers_set g start agents c tr s full h) t (Some (running path env b)) (Some (running (first_of path) env p)) w.thread refl refl (record { step = step; chooses = refl })
      (one_move ((plain_use laws g start fine agents c tr s full h) t k path env b w (unlock_rule path (names env) m l) Member.here refl acts (at_first path env ∷ []) (λ i. unlock_fact (name_is i) (x_is i) ∷ []) (ap (λ ts. state_fact (first_of path) ts ∷ []) ((own_args laws) g env at.1))))
      ((kept_unlock laws) g start agents None c tr s full h.related t (k ∷ []) path env m l p x name (slice_set s.facts k None) refl m_form w.thread (one w.fact nothing) step)

  pub locks : Locks g start agents c tr s full
  locks t k n path env m x l p w m_form free unused =
      let b : Proc = act (action.lock m l) p in
      let at = h.related.placed t (running path env b) w.thread in
      let sound = fine path (place path (names env) b) at.0 in
      let absent : IsFree (lock_var l) (names env) = sound.1 in
      let τ : Env = just (lock_var l) (fresh n) in
      let wider : Env = join env τ in
      let good_wider : GoodEnv g wider = good-append g env τ at.1 (good_just g (lock_var l) (fresh n) ((fresh_message laws) g n)) (just_free env (lock_var l) (fresh n) absent) in
      let good = (choice_good laws) g wider good_wider in
      let x_is : (nf laws) (equations g) (instance (filled wider) m) ≡ x = ap ((nf laws) (equations g)) (put_longer env τ m sound.0) ∙ sym ((one_normal_form laws) (equations g) (term_under env m) x m_form) in
      let n_is : (nf laws) (equations g) (filled wider (lock_var l)) ≡ fresh n = ap ((nf laws) (equations g)) (choice_new env (lock_var l) (fresh n) absent) ∙ (nf-fresh laws) (equations g) n in
      let y : RuleState = state.makes s n in
      let f : Fact = state_fact path (values env) in
      let takes = takes_newest s.facts k f (fr_fact n) w.fact refl refl in
      let acts : List Fact = lock_fact (fresh n) x ∷ [] in
      let r : Rule = lock_rule path (names env) m l in
      let step : ProcessStep g c [] (holding (becomes c t (Some (under env p))) x true) = ProcessStep.locks t (runs_as h.related t (running path env b) w.thread) m_form free in
      let first = (kept_fresh laws) g start agents None c tr s full h.related n (λ i. unused (contains i)) in
      (answers_set g start agents c tr s full h) t (Some (running path env b)) (Some (running (first_of path) wider p)) w.thread refl refl (record { step = step; chooses = refl })
      (two_moves (record { step = RuleStep.makes_name n unused; chooses = refl })
      ((use_of laws) g start y r (filled wider) (f ∷ fr_fact n ∷ []) acts (at_first path wider ∷ []) (place_rule start path (names env) b r at.0 Member.here) good
      (λ i. state_fact path ((old_args laws) g env τ good_wider i) ∷ fresh_fact (n_is i) ∷ []) (λ i. lock_fact (n_is i) (x_is i) ∷ []) (ap (λ ts. state_fact (first_of path) ts ∷ []) ((own_args laws) g wider good_wider)) takes))
      (subst (λ v. Related g start (goes_on agents t path wider p) None (holding (becomes c t (Some (under env p))) x true) (tr ++ []) (trades y (k ∷ length s.facts ∷ []) (at_first path wider ∷ [])) v) (append_assoc full ([] ∷ []) (acts ∷ []))
      ((kept_lock laws) g start agents None c tr y (full ++ [] ∷ []) first t n (k ∷ length s.facts ∷ []) path env m l p x _ absent sound.2 sound.0 m_form free w.thread takes step))
