-- How the process follows the rules of the store and of locks, and those of new names.
use Rattle.sap_translate.specs.Members.{Member}
use Rattle.sap_translate.specs.Sound.{SoundPlaces}
use Rattle.sap_process.specs.Places.{place}
use Rattle.sap_process.specs.Proc.{Proc, act}
use Rattle.sap_process.specs.ProcessSteps.{ProcessStep}
use Rattle.sap_rule.specs.declared.rule.Rule.{Rule}
use Rattle.sap_terms.specs.Equations.{equations}
use Rattle.sap_terms.specs.Signature.{Sig, HoldsBuiltins}
use Rattle.sap_terms.specs.Trace.{Trace}
use Rattle.sap_terms.specs.declared.fact.Fact.{Fact}
use Rattle.sap_process.specs.Action as action
use Rattle.sap_translate.proofs.Premises.LowerLaws.{Laws, nf, has_normal_form, one_normal_form, nf-fixed, nf-fresh}
use Rattle.sap_translate.specs.relation.Shown.{MeetsAll}
use Rattle.sap_translate.proofs.Terms.Choices.{settled_vars, put_same, one_more, agree_of}
use Rattle.sap_translate.proofs.Terms.Forms.{settled}
use Rattle.sap_templates.specs.Templates.{rules_of, first_of, second_of, new_rule, insert_rule, delete_rule, found_rule, missing_rule, lock_rule, unlock_rule}
use Rattle.sap_translate.specs.relation.Answers.{term_under, under, at_first, at_second, goes_on}
use Rattle.sap_translate.specs.relation.Envs.{Env, names, chosen, values, just, join}
use Rattle.sap_translate.specs.relation.Follows.{Together, Follows}
use Rattle.sap_translate.specs.relation.ProcessMoves.{IsProcessMove}
use Rattle.sap_translate.specs.relation.ProcessMoves as process
use Rattle.sap_translate.specs.relation.Agents.{Agent, running}
use Rattle.sap_place.specs.StateFacts.{state_fact}
use Rattle.sap_rule.specs.RuleSteps.{RuleState, RuleStep, leaves}
use Rattle.sap_terms.specs.Choice.{instance}
use Rattle.sap_terms.specs.Piles.{Pile, Takes, adds}
use Rattle.sap_terms.specs.Tree.{Tree, variable, fresh}
use Rattle.std.proofs.Common.{◌≡◌, ℕ, List, [], ◌∷◌, ◌++◌, Option, Some, None, refl, sym, ap, ◌∙◌, false, true, subst}
use Rattle.sap_process.specs.Proc as whole
use Rattle.sap_restrict.specs.ReservedFacts.{insert_fact, delete_fact, is_in_fact, is_not_set_fact, lock_fact, unlock_fact}
use Rattle.sap_restrict.specs.Standard.{IsAdmitted}
use Rattle.sap_translate.proofs.Shared.Takings.{taken_each}
use Rattle.sap_translate.proofs.Parts.Control.{LiveFact}
use Rattle.sap_translate.proofs.Parts.Kept.{kept_branch, kept_store, kept_found, kept_new}
use Rattle.sap_translate.proofs.Parts.KeptLocks.{kept_lock, kept_unlock}
use Rattle.sap_translate.proofs.Related.Common.{runs_as, place_rule, bound_term}
use Rattle.sap_translate.proofs.Related.Follow.{follow_use, demands_of, under_env, one_step, silent_waits, no_acts}
use Rattle.sap_translate.proofs.Related.FollowControl.{met, args_of}
use Rattle.sap_translate.proofs.RulesToProcess.Followed.{is_new, not_held}
use Rattle.sap_translate.proofs.Terms.Grounds.{put_message}
use Rattle.sap_translate.proofs.Terms.Substitution.{with_term_is}
use Rattle.sap_translate.proofs.Traces.Demands.{other}
use Rattle.sap_translate.proofs.Traces.LockTraces.{no_lock_one, lock_now}
use Rattle.sap_translate.proofs.Traces.Store.{no_write_one, store_insert, store_delete, store_quiet, found_now, missed_now, found_is, missed_is}
use Rattle.sap_templates.specs.ChannelFacts.{fresh_fact}
use Rattle.sap_translate.specs.Scoped.{IsFree}
use Rattle.sap_translate.specs.relation.Followed.{FollowsNew, FollowsInsert, FollowsDelete, FollowsFound, FollowsMissing, FollowsLock, FollowsUnlock}
use Rattle.sap_process.specs.Scopes.{lock_var}
use Rattle.sap_process.specs.Configuration as config
use Rattle.sap_process.specs.Configuration.{Config, becomes, stores, stored, holding}
use Rattle.sap_process.specs.Instance.{process_instance, without}
use Rattle.sap_process.specs.Sites.{fresh_var, message_var}
use Rattle.sap_terms.specs.AdversaryFacts.{k_fact}
use Rattle.sap_terms.specs.Message.{IsMessage}
use Rattle.sap_terms.specs.declared.var.Sort.TheVariants.{Msg, Fresh}

module _ (laws : Laws) (g : Sig) (start : Proc) (hold : HoldsBuiltins g) (fine : SoundPlaces g start) (agents : List (Option Agent)) (pending : Option Tree) (c : Config) (tr : Trace) (s : RuleState) (full : Trace) (h : Together g start agents pending c tr s full) (meets : (acts : List Fact) (z : RuleState) → RuleStep g (rules_of start) s acts z → IsAdmitted g (full ++ acts ∷ []) → MeetsAll (equations g) (full ++ acts ∷ [])) where
  -- the second fact of two that are taken
  second_live : {k j : ℕ} {f u : Fact} {rest : Pile} → Takes s.facts (k ∷ j ∷ []) (f ∷ u ∷ []) rest → LiveFact s.facts u
  second_live {u = u} takes = taken_each (λ f. LiveFact s.facts f) (λ i f e. record { number = i; is = e }) takes u (Member.later Member.here)

  pub follows_new : FollowsNew g start agents pending c tr s full
  follows_new t k j n path env x p σ left acts right rest w u name =
      let b : Proc = act (action.new x) p in
      let at = h.related.placed t (running path env b) w.thread in
      let absent : IsFree x (names env) = fine path (place path (names env) b) at.0 in
      let r : Rule = new_rule path (names env) x in
      let v = (under_env laws g start agents pending c tr s full h) r (fresh_fact (variable (fresh_var x)) ∷ []) w u refl in
      let n_is : (nf laws) (equations g) (σ (fresh_var x)) ≡ fresh n = ap ((nf laws) (equations g)) name ∙ (nf-fresh laws) (equations g) n in
      let takes : Takes s.facts (k ∷ j ∷ []) (state_fact path (values env) ∷ fresh_fact (fresh n) ∷ []) rest = subst (λ i. Takes s.facts (k ∷ j ∷ []) (state_fact path (values env) ∷ fresh_fact i ∷ []) rest) n_is v.takes in
      let τ : Env = just (fresh_var x) (fresh n) in
      let wider : Env = join env τ in
      let args = (settled_vars laws) g σ u.fits.messages (names env ++ fresh_var x ∷ []) ∙ one_more σ env v.agrees (fresh_var x) (fresh n) absent name in
      let inside : Proc = process_instance (without (chosen env) x) p in
      let inner : Proc = process_instance (chosen τ) inside in
      let same : inner ≡ under wider p = sym (with_term_is x (fresh n) inside) ∙ (bound_term laws) env x Fresh (fresh n) p at.1.ground absent in
      let d : Proc → Config = λ q. config.makes (becomes c t (Some q)) n in
      let move : IsProcessMove g c (process.makes_name t n) [] (d inner) = subst (λ q. IsProcessMove g c (process.makes_name t n) [] (d q)) (with_term_is x (fresh n) inside) (record { step = ProcessStep.makes_name t n (runs_as h.related t (running path env b) w.thread) (is_new h.related n (second_live takes)); chooses = refl }) in
      subst (λ q. Follows g start pending c tr full (process.makes_name t n ∷ []) [] (d q) pending (goes_on agents t path wider p) (leaves s (adds rest right)) acts) same
      ((follow_use laws g start agents pending c tr s full h) r σ (place_rule start path (names env) b r at.0 Member.here) u [] (at_first path wider ∷ []) refl (λ i. state_fact (first_of path) (args i) ∷ []) (one_step move)
      ((kept_new laws) g start agents pending c tr s full h.related t n (k ∷ j ∷ []) path env x p rest absent w.thread takes move.step) (silent_waits pending full [] no_acts))

  pub follows_insert : FollowsInsert g start agents pending c tr s full
  follows_insert t k path env m u' x v' p σ left acts right rest w u m_form u_form =
      let b : Proc = act (action.insert m u') p in
      let at = h.related.placed t (running path env b) w.thread in
      let sound = fine path (place path (names env) b) at.0 in
      let r : Rule = insert_rule path (names env) m u' in
      let listed = place_rule start path (names env) b r at.0 Member.here in
      let v = (under_env laws g start agents pending c tr s full h) r [] w u refl in
      let args = (args_of laws g start fine agents pending c tr s full h meets) σ env u.fits.messages v.agrees in
      let x_is : (nf laws) (equations g) (instance σ m) ≡ x = ap ((nf laws) (equations g)) (put_same σ env v.agrees m sound.0) ∙ sym ((one_normal_form laws) (equations g) (term_under env m) x m_form) in
      let v_is : (nf laws) (equations g) (instance σ u') ≡ v' = ap ((nf laws) (equations g)) (put_same σ env v.agrees u' sound.1) ∙ sym ((one_normal_form laws) (equations g) (term_under env u') v' u_form) in
      let shown : List Fact = insert_fact x v' ∷ [] in
      let shown_is : (settled laws) (equations g) σ r.acts ≡ shown = λ i. insert_fact (x_is i) (v_is i) ∷ [] in
      let demands = (demands_of laws g start agents pending c tr s full h) r u shown shown_is ((met laws g start fine agents pending c tr s full h meets) r listed u) in
      let message = (put_message laws) g env u' v' hold at.1 sound.1 sound.2 u_form in
      let step : ProcessStep g c [] (stores (becomes c t (Some (under env p))) x (Some v')) = ProcessStep.inserts t (runs_as h.related t (running path env b) w.thread) m_form u_form in
      (follow_use laws g start agents pending c tr s full h) r σ listed u shown (at_first path env ∷ []) shown_is (λ i. state_fact (first_of path) (args i) ∷ []) (one_step (record { step = step; chooses = refl }))
      ((kept_store laws) g start agents pending c tr s full h.related t (k ∷ []) path env b p rest shown (stored c.store x (Some v')) (no_lock_one (insert_fact x v') refl) (λ o z. z) refl refl refl (λ i j. other (k_fact i) (insert_fact x v') refl j) demands (store_insert g c.store full x v' h.related.traces.store message) w.thread v.takes step)
      (silent_waits pending full shown (λ i j. other (k_fact i) (insert_fact x v') refl j))

  pub follows_delete : FollowsDelete g start agents pending c tr s full
  follows_delete t k path env m x p σ left acts right rest w u m_form =
      let b : Proc = act (action.delete m) p in
      let at = h.related.placed t (running path env b) w.thread in
      let sound = fine path (place path (names env) b) at.0 in
      let r : Rule = delete_rule path (names env) m in
      let listed = place_rule start path (names env) b r at.0 Member.here in
      let v = (under_env laws g start agents pending c tr s full h) r [] w u refl in
      let args = (args_of laws g start fine agents pending c tr s full h meets) σ env u.fits.messages v.agrees in
      let x_is : (nf laws) (equations g) (instance σ m) ≡ x = ap ((nf laws) (equations g)) (put_same σ env v.agrees m sound) ∙ sym ((one_normal_form laws) (equations g) (term_under env m) x m_form) in
      let shown : List Fact = delete_fact x ∷ [] in
      let shown_is : (settled laws) (equations g) σ r.acts ≡ shown = λ i. delete_fact (x_is i) ∷ [] in
      let demands = (demands_of laws g start agents pending c tr s full h) r u shown shown_is ((met laws g start fine agents pending c tr s full h meets) r listed u) in
      let step : ProcessStep g c [] (stores (becomes c t (Some (under env p))) x None) = ProcessStep.deletes t (runs_as h.related t (running path env b) w.thread) m_form in
      (follow_use laws g start agents pending c tr s full h) r σ listed u shown (at_first path env ∷ []) shown_is (λ i. state_fact (first_of path) (args i) ∷ []) (one_step (record { step = step; chooses = refl }))
      ((kept_store laws) g start agents pending c tr s full h.related t (k ∷ []) path env b p rest shown (stored c.store x None) (no_lock_one (delete_fact x) refl) (λ o z. z) refl refl refl (λ i j. other (k_fact i) (delete_fact x) refl j) demands (store_delete g c.store full x h.related.traces.store) w.thread v.takes step)
      (silent_waits pending full shown (λ i j. other (k_fact i) (delete_fact x) refl j))

  pub follows_unlock : FollowsUnlock g start agents pending c tr s full
  follows_unlock t k path env m x l p σ left acts right rest w u m_form =
      let b : Proc = act (action.unlock m l) p in
      let at = h.related.placed t (running path env b) w.thread in
      let sound = fine path (place path (names env) b) at.0 in
      let r : Rule = unlock_rule path (names env) m l in
      let v = (under_env laws g start agents pending c tr s full h) r [] w u refl in
      let args = (args_of laws g start fine agents pending c tr s full h meets) σ env u.fits.messages v.agrees in
      let x_is : (nf laws) (equations g) (instance σ m) ≡ x = ap ((nf laws) (equations g)) (put_same σ env v.agrees m sound.0) ∙ sym ((one_normal_form laws) (equations g) (term_under env m) x m_form) in
      let name : Tree = env.choice (lock_var l) in
      let name_is : (nf laws) (equations g) (σ (lock_var l)) ≡ name = (nf-fixed laws) (equations g) (σ (lock_var l)) (u.fits.messages (lock_var l)).normal ∙ agree_of σ env.choice (names env) v.agrees (lock_var l) sound.1 in
      let shown : List Fact = unlock_fact name x ∷ [] in
      let step : ProcessStep g c [] (holding (becomes c t (Some (under env p))) x false) = ProcessStep.unlocks t (runs_as h.related t (running path env b) w.thread) m_form in
      (follow_use laws g start agents pending c tr s full h) r σ (place_rule start path (names env) b r at.0 Member.here) u shown (at_first path env ∷ []) (λ i. unlock_fact (name_is i) (x_is i) ∷ []) (λ i. state_fact (first_of path) (args i) ∷ []) (one_step (record { step = step; chooses = refl }))
      ((kept_unlock laws) g start agents pending c tr s full h.related t (k ∷ []) path env m l p x name rest refl m_form w.thread v.takes step)
      (silent_waits pending full shown (λ i j. other (k_fact i) (unlock_fact name x) refl j))

  pub follows_lock : FollowsLock g start agents pending c tr s full
  follows_lock t k j n path env m x l p σ left acts right rest w u m_form name =
      let b : Proc = act (action.lock m l) p in
      let at = h.related.placed t (running path env b) w.thread in
      let sound = fine path (place path (names env) b) at.0 in
      let absent : IsFree (lock_var l) (names env) = sound.1 in
      let r : Rule = lock_rule path (names env) m l in
      let listed = place_rule start path (names env) b r at.0 Member.here in
      let v = (under_env laws g start agents pending c tr s full h) r (fresh_fact (variable (lock_var l)) ∷ []) w u refl in
      let n_is : (nf laws) (equations g) (σ (lock_var l)) ≡ fresh n = ap ((nf laws) (equations g)) name ∙ (nf-fresh laws) (equations g) n in
      let takes : Takes s.facts (k ∷ j ∷ []) (state_fact path (values env) ∷ fresh_fact (fresh n) ∷ []) rest = subst (λ i. Takes s.facts (k ∷ j ∷ []) (state_fact path (values env) ∷ fresh_fact i ∷ []) rest) n_is v.takes in
      let x_is : (nf laws) (equations g) (instance σ m) ≡ x = ap ((nf laws) (equations g)) (put_same σ env v.agrees m sound.0) ∙ sym ((one_normal_form laws) (equations g) (term_under env m) x m_form) in
      let wider : Env = join env (just (lock_var l) (fresh n)) in
      let args = (settled_vars laws) g σ u.fits.messages (names env ++ lock_var l ∷ []) ∙ one_more σ env v.agrees (lock_var l) (fresh n) absent name in
      let shown : List Fact = lock_fact (fresh n) x ∷ [] in
      let shown_is : (settled laws) (equations g) σ r.acts ≡ shown = λ i. lock_fact (n_is i) (x_is i) ∷ [] in
      let demands = (demands_of laws g start agents pending c tr s full h) r u shown shown_is ((met laws g start fine agents pending c tr s full h meets) r listed u) in
      let free : c.held x ≡ false = not_held h.related x (c.held x) refl (lock_now full (fresh n) x demands.lock) in
      let step : ProcessStep g c [] (holding (becomes c t (Some (under env p))) x true) = ProcessStep.locks t (runs_as h.related t (running path env b) w.thread) m_form free in
      (follow_use laws g start agents pending c tr s full h) r σ listed u shown (at_first path wider ∷ []) shown_is (λ i. state_fact (first_of path) (args i) ∷ []) (one_step (record { step = step; chooses = refl }))
      ((kept_lock laws) g start agents pending c tr s full h.related t n (k ∷ j ∷ []) path env m l p x rest absent sound.2 sound.0 m_form free w.thread takes step)
      (silent_waits pending full shown (λ i j. other (k_fact i) (lock_fact (fresh n) x) refl j))

  pub follows_missing : FollowsMissing g start agents pending c tr s full
  follows_missing t k path env m y p q σ left acts right rest w u =
      let b : Proc = whole.lookup m y p q in
      let at = h.related.placed t (running path env b) w.thread in
      let sound = fine path (place path (names env) b) at.0 in
      let r : Rule = missing_rule path (names env) m in
      let listed = place_rule start path (names env) b r at.0 (Member.later Member.here) in
      let v = (under_env laws g start agents pending c tr s full h) r [] w u refl in
      let args = (args_of laws g start fine agents pending c tr s full h meets) σ env u.fits.messages v.agrees in
      let x : Tree = (nf laws) (equations g) (term_under env m) in
      let shown : List Fact = is_not_set_fact x ∷ [] in
      let shown_is : (settled laws) (equations g) σ r.acts ≡ shown = λ i. is_not_set_fact ((nf laws) (equations g) (put_same σ env v.agrees m sound.0 i)) ∷ [] in
      let demands = (demands_of laws g start agents pending c tr s full h) r u shown shown_is ((met laws g start fine agents pending c tr s full h meets) r listed u) in
      let absent = missed_is g c.store full x h.related.traces.store (missed_now full x demands.missed) in
      let step : ProcessStep g c [] (becomes c t (Some (under env q))) = ProcessStep.misses t (runs_as h.related t (running path env b) w.thread) ((has_normal_form laws) (equations g) (term_under env m)) absent in
      (follow_use laws g start agents pending c tr s full h) r σ listed u shown (at_second path env ∷ []) shown_is (λ i. state_fact (second_of path) (args i) ∷ []) (one_step (record { step = step; chooses = refl }))
      ((kept_branch laws) g start agents pending c tr s full h.related t (k ∷ []) path 2 env b q rest shown (no_lock_one (is_not_set_fact x) refl) (λ o z. z.1) refl refl refl (λ i j. other (k_fact i) (is_not_set_fact x) refl j) demands (no_write_one (is_not_set_fact x) refl) w.thread v.takes step)
      (silent_waits pending full shown (λ i j. other (k_fact i) (is_not_set_fact x) refl j))

  pub follows_found : FollowsFound g start agents pending c tr s full
  follows_found t k path env m v' y p q σ left acts right rest w u name =
      let b : Proc = whole.lookup m y p q in
      let at = h.related.placed t (running path env b) w.thread in
      let sound = fine path (place path (names env) b) at.0 in
      let r : Rule = found_rule path (names env) m y in
      let listed = place_rule start path (names env) b r at.0 Member.here in
      let v = (under_env laws g start agents pending c tr s full h) r [] w u refl in
      let x : Tree = (nf laws) (equations g) (term_under env m) in
      let message = u.fits.messages (message_var y) in
      let good = subst (λ i. IsMessage g Msg i) name message in
      let v_is : (nf laws) (equations g) (σ (message_var y)) ≡ v' = (nf-fixed laws) (equations g) (σ (message_var y)) message.normal ∙ name in
      let shown : List Fact = is_in_fact x v' ∷ [] in
      let shown_is : (settled laws) (equations g) σ r.acts ≡ shown = λ i. is_in_fact ((nf laws) (equations g) (put_same σ env v.agrees m sound.0 i)) (v_is i) ∷ [] in
      let demands = (demands_of laws g start agents pending c tr s full h) r u shown shown_is ((met laws g start fine agents pending c tr s full h meets) r listed u) in
      let held = found_is g c.store full x v' h.related.traces.store (found_now full x v' demands.found) in
      let τ : Env = just (message_var y) v' in
      let wider : Env = join env τ in
      let args = (settled_vars laws) g σ u.fits.messages (names env ++ message_var y ∷ []) ∙ one_more σ env v.agrees (message_var y) v' sound.1 name in
      let inside : Proc = process_instance (without (chosen env) y) p in
      let inner : Proc = process_instance (chosen τ) inside in
      let same : inner ≡ under wider p = sym (with_term_is y v' inside) ∙ (bound_term laws) env y Msg v' p at.1.ground sound.1 in
      let move : IsProcessMove g c (process.finds t) [] (becomes c t (Some inner)) = subst (λ z. IsProcessMove g c (process.finds t) [] (becomes c t (Some z))) (with_term_is y v' inside) (record { step = ProcessStep.finds t (runs_as h.related t (running path env b) w.thread) ((has_normal_form laws) (equations g) (term_under env m)) held; chooses = refl }) in
      subst (λ i. Follows g start pending c tr full (process.finds t ∷ []) [] (becomes c t (Some i)) pending (goes_on agents t path wider p) (leaves s (adds rest right)) acts) same
      ((follow_use laws g start agents pending c tr s full h) r σ listed u shown (at_first path wider ∷ []) shown_is (λ i. state_fact (first_of path) (args i) ∷ []) (one_step move)
      ((kept_found laws) g start agents pending c tr s full h.related t (k ∷ []) path env m y v' p q rest shown (no_lock_one (is_in_fact x v') refl) sound.1 good refl refl (λ i j. other (k_fact i) (is_in_fact x v') refl j) demands (store_quiet g c.store full shown h.related.traces.store (no_write_one (is_in_fact x v') refl)) w.thread v.takes move.step)
      (silent_waits pending full shown (λ i j. other (k_fact i) (is_in_fact x v') refl j)))
