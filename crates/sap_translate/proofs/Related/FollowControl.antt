-- How the process follows the rules that start, end, branch, copy, put out and show, and the steps of the adversary.
use Rattle.sap_translate.specs.Members.{Member}
use Rattle.sap_translate.specs.Sound.{SoundPlaces}
use Rattle.sap_translate.specs.relation.Names.{vars}
use Rattle.sap_process.specs.Places.{place}
use Rattle.sap_process.specs.Proc.{Proc, act}
use Rattle.sap_process.specs.ProcessSteps.{ProcessStep}
use Rattle.sap_rule.specs.declared.rule.Rule.{Rule}
use Rattle.sap_terms.specs.Equations.{equations}
use Rattle.sap_terms.specs.Signature.{Sig}
use Rattle.sap_terms.specs.Trace.{Trace}
use Rattle.sap_terms.specs.declared.fact.Fact.{Fact}
use Rattle.sap_process.specs.Action as action
use Rattle.sap_translate.proofs.Premises.LowerLaws.{Laws, nf, one_normal_form, nf-reached, chain, back}
use Rattle.sap_translate.specs.relation.Shown.{MeetsAll}
use Rattle.sap_translate.proofs.Terms.Choices.{settled_vars, put_same, put_fact_same}
use Rattle.sap_translate.proofs.Terms.Forms.{settled, nf_fact, form_is}
use Rattle.sap_templates.specs.Templates.{rules_of, first_of, second_of, init_rule, nil_rule, parallel_rule, rep_start_rule, rep_copy_rule, out_rule, event_rule, then_rule, else_rule}
use Rattle.sap_translate.specs.relation.Answers.{term_under, under, at_first, at_second, goes_on}
use Rattle.sap_translate.specs.relation.Envs.{Env, names, chosen, values, no_env}
use Rattle.sap_translate.specs.relation.Follows.{Together, written}
use Rattle.sap_translate.specs.relation.ProcessMoves.{IsProcessMove, ProcessMoves, stays, further}
use Rattle.sap_translate.specs.relation.ProcessMoves as process
use Rattle.sap_translate.specs.relation.Agents.{Agent, running, copying}
use Rattle.sap_translate.specs.relation.Related.{Retractable, Related, pending_place}
use Rattle.sap_place.specs.StateFacts.{state_fact, copies_fact}
use Rattle.sap_rule.specs.RuleSteps.{RuleState, RuleStep, leaves}
use Rattle.sap_terms.specs.Choice.{instance, Choice}
use Rattle.sap_terms.specs.Piles.{Pile, Takes, adds}
use Rattle.sap_terms.specs.Tree.{Tree}
use Rattle.std.proofs.Common.{◌≡◌, ◌⊎◌, ℕ, List, [], ◌∷◌, ◌++◌, Option, Some, None, refl, sym, ap, ◌∙◌, false, slice_set, subst, map, length, inl, inr, append-nil, append_assoc}
use Rattle.sap_process.specs.Proc as whole
use Rattle.sap_restrict.specs.ReservedFacts.{init_fact, event_fact, eq_fact, not_eq_fact}
use Rattle.sap_restrict.specs.Standard.{IsAdmitted}
use Rattle.sap_translate.proofs.Parts.Kept.{first_taken, kept_init, kept_nil, kept_par, kept_branch, kept_rep_start, kept_rep_copy, kept_out, kept_event, kept_flush, kept_unflush, kept_know, kept_public, kept_applies, kept_learn, kept_own, kept_fresh}
use Rattle.sap_translate.proofs.Parts.Tidy.{tidy}
use Rattle.sap_translate.proofs.Related.Common.{runs_as, place_rule}
use Rattle.sap_translate.proofs.Related.Follow.{follow, follow_still, follow_use, follow_use_still, left_is, demands_of, under_env, one_step, silent_waits, no_acts}
use Rattle.sap_translate.proofs.RulesToProcess.Followed.{is_new, took_none}
use Rattle.sap_translate.proofs.Terms.Derive.{contains, member}
use Rattle.sap_translate.proofs.Traces.Demands.{other}
use Rattle.sap_translate.proofs.Shared.Inputs.{has_last, free_know, event_frees_none}
use Rattle.sap_translate.proofs.Traces.LockTraces.{no_lock_one}
use Rattle.sap_translate.proofs.Traces.Store.{no_write_one}
use Rattle.sap_translate.specs.relation.Followed.{IsUsed, FollowsInit, FollowsNil, FollowsParallel, FollowsRepStart, FollowsRepCopy, FollowsOut, FollowsThen, FollowsElse, FollowsEvent, FollowsFresh, FollowsLearn, FollowsOwn, FollowsPublic, FollowsApply, FollowsGive, TakesBack}
use Rattle.sap_process.specs.Configuration as config
use Rattle.sap_process.specs.Configuration.{Config, initial, becomes, spawns, sends_out, IsUnused}
use Rattle.sap_terms.specs.AdversaryFacts.{k_fact, out_fact}
use Rattle.sap_terms.specs.Equal.{IsTheoryEqual}
use Rattle.sap_terms.specs.Message.{IsMessageChoice}
use Rattle.sap_terms.specs.Reserved.{is_reserved}
use Rattle.sap_terms.specs.Modulo.{instance_fact}

module _ (laws : Laws) (g : Sig) (start : Proc) (fine : SoundPlaces g start) (agents : List (Option Agent)) (pending : Option Tree) (c : Config) (tr : Trace) (s : RuleState) (full : Trace) (h : Together g start agents pending c tr s full) (meets : (acts : List Fact) (z : RuleState) → RuleStep g (rules_of start) s acts z → IsAdmitted g (full ++ acts ∷ []) → MeetsAll (equations g) (full ++ acts ∷ [])) where
  -- the full trace behind the use of a rule meets what the restrictions demand
  pub met : (r : Rule) {ks : List ℕ} {σ : Choice} {left acts right : List Fact} {rest : Pile} → Member r (rules_of start) → IsUsed g s full r ks σ left acts right rest → MeetsAll (equations g) (full ++ acts ∷ [])
  met r {ks} {σ} {left} {acts} {right} {rest} m u = meets acts (leaves s (adds rest right)) (RuleStep.uses r ks σ left acts right (contains m) u.takes u.fits) u.admitted

  -- what the variables in scope come to under the choice of a rule
  pub args_of : (σ : Choice) (env : Env) → IsMessageChoice g σ → map σ (names env) ≡ values env → map ((nf laws) (equations g)) (map (instance σ) (vars (names env))) ≡ values env
  args_of σ env good agrees = (settled_vars laws) g σ good (names env) ∙ agrees

  pub follows_init : FollowsInit g start agents pending c tr s full
  follows_init t body σ left acts right rest e u =
      let none : rest ≡ s.facts = took_none (subst (λ fs. Takes s.facts [] fs rest) ((left_is laws g start agents pending c tr s full h) init_rule u) u.takes) in
      (follow_use_still laws g start agents pending c tr s full h) init_rule σ Member.here u (init_fact ∷ []) (state_fact [] [] ∷ []) refl refl
      (subst (λ i. Related g start (slice_set agents t (Some (running [] no_env body))) pending c tr (leaves s (adds i (state_fact [] [] ∷ []))) (full ++ (init_fact ∷ []) ∷ [])) (sym none) ((kept_init laws) g start agents pending c tr s full h.related t body e))
      (silent_waits pending full (init_fact ∷ []) (λ y m. other (k_fact y) init_fact refl m))

  pub follows_nil : FollowsNil g start agents pending c tr s full
  follows_nil t k path env σ left acts right rest w u =
      let b : Proc = whole.nil in
      let at = h.related.placed t (running path env b) w.thread in
      let r : Rule = nil_rule path (names env) in
      let v = (under_env laws g start agents pending c tr s full h) r [] w u refl in
      let step : ProcessStep g c [] (becomes c t None) = ProcessStep.ends t (runs_as h.related t (running path env b) w.thread) in
      (follow_use laws g start agents pending c tr s full h) r σ (place_rule start path (names env) b r at.0 Member.here) u [] [] refl refl (one_step (record { step = step; chooses = refl }))
      ((kept_nil laws) g start agents pending c tr s full h.related t (k ∷ []) path env rest w.thread v.takes step) (silent_waits pending full [] no_acts)

  pub follows_parallel : FollowsParallel g start agents pending c tr s full
  follows_parallel t k path env p q σ left acts right rest w u =
      let b : Proc = whole.parallel p q in
      let at = h.related.placed t (running path env b) w.thread in
      let r : Rule = parallel_rule path (names env) in
      let v = (under_env laws g start agents pending c tr s full h) r [] w u refl in
      let args = args_of σ env u.fits.messages v.agrees in
      let step : ProcessStep g c [] (spawns (becomes c t (Some (under env p))) (under env q)) = ProcessStep.splits t (runs_as h.related t (running path env b) w.thread) in
      (follow_use laws g start agents pending c tr s full h) r σ (place_rule start path (names env) b r at.0 Member.here) u [] (at_first path env ∷ at_second path env ∷ []) refl (λ i. state_fact (first_of path) (args i) ∷ state_fact (second_of path) (args i) ∷ []) (one_step (record { step = step; chooses = refl }))
      ((kept_par laws) g start agents pending c tr s full h.related t (k ∷ []) path env p q rest w.thread v.takes step) (silent_waits pending full [] no_acts)

  pub follows_rep_start : FollowsRepStart g start agents pending c tr s full
  follows_rep_start t k path env p σ left acts right rest w u =
      let b : Proc = whole.replicated p in
      let at = h.related.placed t (running path env b) w.thread in
      let r : Rule = rep_start_rule path (names env) in
      let v = (under_env laws g start agents pending c tr s full h) r [] w u refl in
      let args = args_of σ env u.fits.messages v.agrees in
      (follow_use_still laws g start agents pending c tr s full h) r σ (place_rule start path (names env) b r at.0 Member.here) u [] (copies_fact path (values env) ∷ []) refl (λ i. copies_fact path (args i) ∷ [])
      ((kept_rep_start laws) g start agents pending c tr s full h.related t (k ∷ []) path env p rest w.thread v.takes) (silent_waits pending full [] no_acts)

  same_copies : (path : List ℕ) (xs ys : List Tree) → Some (Some (copies_fact path xs)) ≡ Some (Some (copies_fact path ys)) → xs ≡ ys
  same_copies path xs ys e = let one : copies_fact path xs ≡ copies_fact path ys = cc in ap (λ (f : Fact). f.args) one

  pub follows_rep_copy : FollowsRepCopy g start agents pending c tr s full
  follows_rep_copy t k path env p σ left acts right rest w u =
      let b : Proc = whole.replicated p in
      let at = h.related.placed t (copying path env p) w.thread in
      let r : Rule = rep_copy_rule path (names env) in
      let own : List Tree = map ((nf laws) (equations g)) (map (instance σ) (vars (names env))) in
      let taken : Takes s.facts (k ∷ []) (copies_fact path own ∷ []) rest = subst (λ fs. Takes s.facts (k ∷ []) fs rest) ((left_is laws g start agents pending c tr s full h) r u) u.takes in
      let args : own ≡ values env = same_copies path own (values env) (sym (first_taken taken) ∙ w.fact) in
      let step : ProcessStep g c [] (spawns c (under env p)) = ProcessStep.copies t (runs_as h.related t (copying path env p) w.thread) in
      (follow_use laws g start agents pending c tr s full h) r σ (place_rule start path (names env) b r at.0 (Member.later Member.here)) u [] (at_first path env ∷ []) refl (λ i. state_fact (first_of path) (args i) ∷ []) (one_step (record { step = step; chooses = refl }))
      ((kept_rep_copy laws) g start agents pending c tr s full h.related t (k ∷ []) path env p rest w.thread (subst (λ ts. Takes s.facts (k ∷ []) (copies_fact path ts ∷ []) rest) args taken) step) (silent_waits pending full [] no_acts)

  pub follows_out : FollowsOut g start agents pending c tr s full
  follows_out t k path env m n p σ left acts right rest w u form =
      let b : Proc = act (action.out m) p in
      let at = h.related.placed t (running path env b) w.thread in
      let r : Rule = out_rule path (names env) m in
      let v = (under_env laws g start agents pending c tr s full h) r [] w u refl in
      let args = args_of σ env u.fits.messages v.agrees in
      let n_is : (nf laws) (equations g) (instance σ m) ≡ n = ap ((nf laws) (equations g)) (put_same σ env v.agrees m (fine path (place path (names env) b) at.0)) ∙ sym ((one_normal_form laws) (equations g) (term_under env m) n form) in
      let step : ProcessStep g c [] (sends_out (becomes c t (Some (under env p))) n) = ProcessStep.outputs t (runs_as h.related t (running path env b) w.thread) form in
      (follow_use laws g start agents pending c tr s full h) r σ (place_rule start path (names env) b r at.0 Member.here) u [] (out_fact n ∷ at_first path env ∷ []) refl (λ i. out_fact (n_is i) ∷ state_fact (first_of path) (args i) ∷ []) (one_step (record { step = step; chooses = refl }))
      ((kept_out laws) g start agents pending c tr s full h.related t (k ∷ []) path env m n p rest w.thread v.takes step) (silent_waits pending full [] no_acts)

  pub follows_then : FollowsThen g start agents pending c tr s full
  follows_then t k path env m n p q σ left acts right rest w u =
      let b : Proc = whole.test m n p q in
      let at = h.related.placed t (running path env b) w.thread in
      let sound = fine path (place path (names env) b) at.0 in
      let r : Rule = then_rule path (names env) m n in
      let listed = place_rule start path (names env) b r at.0 Member.here in
      let v = (under_env laws g start agents pending c tr s full h) r [] w u refl in
      let args = args_of σ env u.fits.messages v.agrees in
      let x : Tree = (nf laws) (equations g) (term_under env m) in
      let y : Tree = (nf laws) (equations g) (term_under env n) in
      let shown : List Fact = eq_fact x y ∷ [] in
      let shown_is : (settled laws) (equations g) σ r.acts ≡ shown = λ i. eq_fact ((nf laws) (equations g) (put_same σ env v.agrees m sound.0 i)) ((nf laws) (equations g) (put_same σ env v.agrees n sound.1 i)) ∷ [] in
      let demands = (demands_of laws g start agents pending c tr s full h) r u shown shown_is (met r listed u) in
      let equal : IsTheoryEqual (equations g) x y = demands.equal x y (length full) (has_last full shown (eq_fact x y) Member.here) in
      let step : ProcessStep g c [] (becomes c t (Some (under env p))) = ProcessStep.agrees t (runs_as h.related t (running path env b) w.thread) ((chain laws) ((nf-reached laws) (equations g) (term_under env m)) ((chain laws) equal ((back laws) ((nf-reached laws) (equations g) (term_under env n))))) in
      (follow_use laws g start agents pending c tr s full h) r σ listed u shown (at_first path env ∷ []) shown_is (λ i. state_fact (first_of path) (args i) ∷ []) (one_step (record { step = step; chooses = refl }))
      ((kept_branch laws) g start agents pending c tr s full h.related t (k ∷ []) path 1 env b p rest shown (no_lock_one (eq_fact x y) refl) (λ o z. z.0) refl refl refl (λ i j. other (k_fact i) (eq_fact x y) refl j) demands (no_write_one (eq_fact x y) refl) w.thread v.takes step)
      (silent_waits pending full shown (λ i j. other (k_fact i) (eq_fact x y) refl j))

  pub follows_else : FollowsElse g start agents pending c tr s full
  follows_else t k path env m n p q σ left acts right rest w u =
      let b : Proc = whole.test m n p q in
      let at = h.related.placed t (running path env b) w.thread in
      let sound = fine path (place path (names env) b) at.0 in
      let r : Rule = else_rule path (names env) m n in
      let listed = place_rule start path (names env) b r at.0 (Member.later Member.here) in
      let v = (under_env laws g start agents pending c tr s full h) r [] w u refl in
      let args = args_of σ env u.fits.messages v.agrees in
      let x : Tree = (nf laws) (equations g) (term_under env m) in
      let y : Tree = (nf laws) (equations g) (term_under env n) in
      let shown : List Fact = not_eq_fact x y ∷ [] in
      let shown_is : (settled laws) (equations g) σ r.acts ≡ shown = λ i. not_eq_fact ((nf laws) (equations g) (put_same σ env v.agrees m sound.0 i)) ((nf laws) (equations g) (put_same σ env v.agrees n sound.1 i)) ∷ [] in
      let demands = (demands_of laws g start agents pending c tr s full h) r u shown shown_is (met r listed u) in
      let unequal : IsTheoryEqual (equations g) x y → ⊥ = demands.unequal x y (length full) (has_last full shown (not_eq_fact x y) Member.here) in
      let step : ProcessStep g c [] (becomes c t (Some (under env q))) = ProcessStep.differs t (runs_as h.related t (running path env b) w.thread) (λ e. unequal ((chain laws) ((back laws) ((nf-reached laws) (equations g) (term_under env m))) ((chain laws) e ((nf-reached laws) (equations g) (term_under env n))))) in
      (follow_use laws g start agents pending c tr s full h) r σ listed u shown (at_second path env ∷ []) shown_is (λ i. state_fact (second_of path) (args i) ∷ []) (one_step (record { step = step; chooses = refl }))
      ((kept_branch laws) g start agents pending c tr s full h.related t (k ∷ []) path 2 env b q rest shown (no_lock_one (not_eq_fact x y) refl) (λ o z. z.1) refl refl refl (λ i j. other (k_fact i) (not_eq_fact x y) refl j) demands (no_write_one (not_eq_fact x y) refl) w.thread v.takes step)
      (silent_waits pending full shown (λ i j. other (k_fact i) (not_eq_fact x y) refl j))

  -- the process shows what is pending
  pub flush : (o : Option Tree) → Related g start agents o c tr s full → Related g start agents None c (tr ++ pending_place o) s full
  flush None r = subst (λ t. Related g start agents None c t s full) (sym (append-nil tr)) r
  flush (Some x) r = kept_flush g start agents x c tr s full r h.reached

  pub flush_moves : (o : Option Tree) → Related g start agents o c tr s full → {moves : List process.ProcessMove} {shows : Trace} {d : Config} → ProcessMoves g c moves shows d → ProcessMoves g c (written o ++ moves) (pending_place o ++ shows) d
  flush_moves None r ms = ms
  flush_moves (Some x) r ms = further (record { step = ProcessStep.knows x (r.traces.waiting x refl); chooses = refl }) ms

  pub follows_event : FollowsEvent g start agents pending c tr s full
  follows_event t k path env f p' p σ left acts right rest w u form =
      let b : Proc = act (action.event f) p in
      let at = h.related.placed t (running path env b) w.thread in
      let sound = fine path (place path (names env) b) at.0 in
      let r : Rule = event_rule path (names env) f in
      let v = (under_env laws g start agents pending c tr s full h) r [] w u refl in
      let args = args_of σ env u.fits.messages v.agrees in
      let seen : (nf_fact laws) (equations g) (instance_fact σ f) ≡ p' = ap ((nf_fact laws) (equations g)) (put_fact_same σ env v.agrees f sound.1) ∙ sym ((form_is laws) (equations g) (instance_fact (chosen env) f) p' form) in
      let free = subst (λ z. is_reserved z ≡ false) (sym form.name) sound.0 in
      let step : ProcessStep g c (p' ∷ []) (becomes c t (Some (under env p))) = ProcessStep.shows t (runs_as h.related t (running path env b) w.thread) form in
      let shown : List Fact = event_fact ∷ p' ∷ [] in
      (follow_use laws g start agents pending c tr s full h) r σ (place_rule start path (names env) b r at.0 Member.here) u shown (at_first path env ∷ []) (λ i. event_fact ∷ seen i ∷ []) (λ i. state_fact (first_of path) (args i) ∷ [])
      (flush_moves pending h.related (one_step (record { step = step; chooses = refl })))
      (subst (λ i. Related g start (goes_on agents t path env p) None (becomes c t (Some (under env p))) i (leaves s (adds rest (at_first path env ∷ []))) (full ++ shown ∷ [])) (append_assoc tr (pending_place pending) ((p' ∷ []) ∷ []))
      (kept_event g start agents c (tr ++ pending_place pending) s full (flush pending h.related) t (k ∷ []) path env f p' p rest free w.thread v.takes))
      (λ o x i. absurd (event_frees_none full shown x Member.here i))

  pub follows_fresh : FollowsFresh g start agents pending c tr s full
  follows_fresh n clear = (follow_still laws g start agents pending c tr s full h) (RuleStep.makes_name n clear) ((kept_fresh laws) g start agents pending c tr s full h.related n (λ i. clear (contains i))) (silent_waits pending full [] no_acts)

  pub follows_learn : FollowsLearn g start agents pending c tr s full
  follows_learn k t rest takes = (follow_still laws g start agents pending c tr s full h) (RuleStep.learns k t takes) ((kept_learn laws) g start agents pending c tr s full h.related k t rest takes) (silent_waits pending full [] no_acts)

  pub follows_own : FollowsOwn g start agents pending c tr s full
  follows_own k n rest takes =
      let step : ProcessStep g c [] (config.owns c n) = ProcessStep.adversary_makes n (is_new h.related n (record { number = k; is = first_taken takes })) in
      (follow laws g start agents pending c tr s full h) (one_step (record { step = step; chooses = refl })) (RuleStep.owns k n takes) ((kept_own laws) g start agents pending c tr s full h.related k n rest takes step) (silent_waits pending full [] no_acts)

  pub follows_public : FollowsPublic g start agents pending c tr s full
  follows_public a = (follow_still laws g start agents pending c tr s full h) (RuleStep.knows_public a) ((kept_public laws) g start agents pending c tr s full h.related a) (silent_waits pending full [] no_acts)

  pub follows_apply : FollowsApply g start agents pending c tr s full
  follows_apply f ts t free arity all form = (follow_still laws g start agents pending c tr s full h) (RuleStep.applies f ts t free arity all form) ((kept_applies laws) g start agents pending c tr s full h.related f ts t free arity all form) (silent_waits pending full [] no_acts)

  pub follows_give : FollowsGive g start agents pending c tr s full
  follows_give t known =
      let none : ProcessMoves g c (written pending) (pending_place pending) c = subst (λ z. z) (λ i. ProcessMoves g c (append-nil (written pending) i) (append-nil (pending_place pending) i) c) (flush_moves pending h.related stays) in
      (follow laws g start agents pending c tr s full h) none (RuleStep.gives t known)
      (kept_know g start agents c (tr ++ pending_place pending) s full (flush pending h.related) t (((tidy laws) h.ran).known t (member t s.known known)) (member t s.known known))
      (λ o x i. ap (λ z. Some z) (sym (free_know full t x i)))

  pub takes_back : TakesBack g start agents pending c tr s full
  takes_back x f = by_case (h.related.traces.free x f)
    where
      by_case : (pending ≡ Some x) ⊎ ((pending ≡ None) × Retractable g start c tr x) → (before : Trace) × Together g start agents (Some x) c before s full × (tr ++ pending_place pending ≡ before ++ (k_fact x ∷ []) ∷ [])
      by_case (inl e) = (tr, record { reached = h.reached; ran = h.ran; related = subst (λ o. Related g start agents o c tr s full) e h.related }, ap (λ o. tr ++ pending_place o) e)
      by_case (inr b) = (b.1.before, record { reached = b.1.reached; ran = h.ran; related = kept_unflush g start agents x c tr s full (subst (λ o. Related g start agents o c tr s full) b.0 h.related) f b.1 }, ap (λ o. tr ++ pending_place o) b.0 ∙ append-nil tr ∙ b.1.is)
