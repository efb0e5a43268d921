-- How the process follows the rules of messages, on public and on private channels.
use Rattle.sap_translate.specs.Members.{Member}
use Rattle.sap_translate.specs.Sound.{SoundPlaces}
use Rattle.sap_translate.specs.relation.Names.{vars}
use Rattle.sap_process.specs.Places.{place}
use Rattle.sap_process.specs.Proc.{Proc, act}
use Rattle.sap_process.specs.ProcessSteps.{ProcessStep}
use Rattle.sap_rule.specs.declared.rule.Rule.{Rule}
use Rattle.sap_terms.specs.Equations.{equations, app2, pair_name}
use Rattle.sap_terms.specs.Signature.{Sig}
use Rattle.sap_terms.specs.Trace.{Trace}
use Rattle.sap_terms.specs.declared.fact.Fact.{Fact}
use Rattle.sap_process.specs.Action as action
use Rattle.sap_translate.proofs.Premises.LowerLaws.{Laws, nf, one_normal_form, nf-reached, nf-fresh, chain, back}
use Rattle.sap_translate.specs.relation.Shown.{MeetsAll}
use Rattle.sap_translate.proofs.Terms.Choices.{settled_vars, put_same, good_bind, longer_choice, pattern_matches}
use Rattle.sap_templates.specs.Templates.{rules_of, first_of, in_rule, in_adv_rule, in_msg_rule, out_adv_rule, out_msg_rule, out_ack_rule}
use Rattle.sap_translate.specs.relation.Answers.{term_under, under, widened, at_first}
use Rattle.sap_translate.specs.relation.Envs.{Env, names, values, bind}
use Rattle.sap_translate.specs.relation.Follows.{Together}
use Rattle.sap_translate.specs.relation.ProcessMoves.{IsProcessMove}
use Rattle.sap_translate.specs.relation.ProcessMoves as process
use Rattle.sap_translate.specs.relation.Agents.{Agent, running, awaiting, received}
use Rattle.sap_translate.specs.relation.Related.{Related}
use Rattle.sap_place.specs.StateFacts.{state_fact, tag, waits_fact}
use Rattle.sap_rule.specs.RuleSteps.{RuleState, RuleStep}
use Rattle.sap_terms.specs.Choice.{instance, Choice}
use Rattle.sap_terms.specs.Piles.{Pile, Takes}
use Rattle.sap_terms.specs.Tree.{Tree, fresh, variable}
use Rattle.std.proofs.Common.{◌≡◌, ℕ, List, [], ◌∷◌, ◌++◌, Option, Some, None, refl, sym, ap, ◌∙◌, slice_get, slice_set, subst, map, zero, suc}
use Rattle.sap_restrict.specs.ReservedFacts.{input_fact}
use Rattle.sap_restrict.specs.Standard.{IsAdmitted}
use Rattle.sap_translate.proofs.Lists.FactLists.{map_joined}
use Rattle.sap_translate.proofs.Shared.Lookups.{map_push}
use Rattle.sap_translate.proofs.Parts.Kept.{first_taken, kept_in, kept_out_adv}
use Rattle.sap_translate.proofs.Traces.Private.{kept_out_msg, kept_meet, kept_out_ack}
use Rattle.sap_translate.proofs.Related.Common.{runs_as, place_rule, bound_pattern}
use Rattle.sap_translate.proofs.Related.Follow.{follow_use, follow_use_still, left_is, demands_of, under_env, one_step, silent_waits, no_acts}
use Rattle.sap_translate.proofs.Related.FollowControl.{met, args_of}
use Rattle.sap_translate.proofs.Terms.Substitution.{new_first, new_free}
use Rattle.sap_translate.proofs.Shared.Inputs.{served_free, input_frees_none, last_same, init_same}
use Rattle.sap_templates.specs.ChannelFacts.{fresh_fact, msg_fact, ack_fact}
use Rattle.sap_translate.specs.relation.Followed.{FollowsIn, FollowsInAdv, FollowsInMsg, FollowsOutAdv, FollowsOutMsg, FollowsOutAck}
use Rattle.sap_process.specs.Scopes.{with_new}
use Rattle.sap_process.specs.Configuration.{Config, becomes, sends_out}
use Rattle.sap_process.specs.Sites.{var_names}
use Rattle.sap_terms.specs.AdversaryFacts.{k_fact, in_fact, out_fact}
use Rattle.sap_terms.specs.Equal.{IsTheoryEqual}
use Rattle.sap_terms.specs.Message.{IsMessageChoice}
use Rattle.sap_terms.specs.Variables.{tree_vars, new_vars}

-- what is there once a fact is gone was there before
before_gone : {A : Type 0} (xs : List (Option A)) (k j : ℕ) (x : A) → slice_get (slice_set xs k None) j ≡ Some (Some x) → slice_get xs j ≡ Some (Some x)
before_gone [] k j x e = e
before_gone (y ∷ xs) zero zero x e = absurd (cc)
before_gone (y ∷ xs) zero (suc j) x e = e
before_gone (y ∷ xs) (suc k) zero x e = e
before_gone (y ∷ xs) (suc k) (suc j) x e = before_gone xs k j x e

module _ (laws : Laws) (g : Sig) (start : Proc) (fine : SoundPlaces g start) (agents : List (Option Agent)) (pending : Option Tree) (c : Config) (tr : Trace) (s : RuleState) (full : Trace) (h : Together g start agents pending c tr s full) (meets : (acts : List Fact) (z : RuleState) → RuleStep g (rules_of start) s acts z → IsAdmitted g (full ++ acts ∷ []) → MeetsAll (equations g) (full ++ acts ∷ [])) where
  pub follows_in : FollowsIn g start agents pending c tr s full
  follows_in t k j path env m x p σ left acts right rest w u form waiting =
      let b : Proc = act (action.input m) p in
      let at = h.related.placed t (running path env b) w.thread in
      let sound = fine path (place path (names env) b) at.0 in
      let r : Rule = in_rule path (names env) m in
      let listed = place_rule start path (names env) b r at.0 Member.here in
      let v = (under_env laws g start agents pending c tr s full h) r (in_fact m ∷ []) w u refl in
      let x_is : (nf laws) (equations g) (instance σ m) ≡ x = sym ((one_normal_form laws) (equations g) (instance σ m) x form) in
      let takes : Takes s.facts (k ∷ j ∷ []) (state_fact path (values env) ∷ in_fact x ∷ []) rest = subst (λ i. Takes s.facts (k ∷ j ∷ []) (state_fact path (values env) ∷ in_fact i ∷ []) rest) x_is v.takes in
      let ns = new_vars (var_names (names env)) (tree_vars m) in
      let free_vars = new_free (var_names (names env)) (tree_vars m) in
      let own = new_first σ (var_names (names env)) (tree_vars m) in
      let wider : Env = widened env σ (tree_vars m) in
      let args = (settled_vars laws) g σ u.fits.messages (with_new (names env) (tree_vars m)) ∙ longer_choice σ env v.agrees ns free_vars own in
      let shown : List Fact = input_fact x ∷ [] in
      let demands = (demands_of laws g start agents pending c tr s full h) r u shown (λ i. input_fact (x_is i) ∷ []) ((met laws g start fine agents pending c tr s full h meets) r listed u) in
      let free = served_free full x demands.served in
      let related : Related g start agents (Some x) c tr s full = subst (λ o. Related g start agents o c tr s full) waiting h.related in
      let matches : IsTheoryEqual (equations g) (instance σ (term_under env m)) x = subst (λ i. IsTheoryEqual (equations g) i x) (sym (pattern_matches σ env v.agrees ns free_vars own at.1.ground m sound)) form.equal in
      let move : IsProcessMove g c (process.inputs t σ) (k_fact x ∷ []) (becomes c t (Some (under wider p))) = subst (λ q. IsProcessMove g c (process.inputs t σ) (k_fact x ∷ []) (becomes c t (Some q))) ((bound_pattern laws) σ env at.1.ground m p) (record { step = ProcessStep.inputs t σ (runs_as h.related t (running path env b) w.thread) (related.traces.waiting x refl) (record { messages = u.fits.messages; equal = matches }); chooses = refl }) in
      (follow_use laws g start agents pending c tr s full h) r σ listed u shown (at_first path wider ∷ []) (λ i. input_fact (x_is i) ∷ []) (λ i. state_fact (first_of path) (args i) ∷ []) (one_step move)
      (kept_in g start agents x c tr s full related t (k ∷ j ∷ []) path env (bind σ ns) b p (with_new (names env) (tree_vars m)) rest (λ o z. z) refl refl (good_bind g σ ns own u.fits.messages) free_vars free w.thread takes)
      (λ o y i. absurd (input_frees_none full y x i))

  pub follows_in_adv : FollowsInAdv g start agents pending c tr s full
  follows_in_adv t k j path env m u' x p σ left acts right rest w u form waiting =
      let b : Proc = act (action.receive m u') p in
      let at = h.related.placed t (running path env b) w.thread in
      let sound = fine path (place path (names env) b) at.0 in
      let r : Rule = in_adv_rule path (names env) m u' in
      let listed = place_rule start path (names env) b r at.0 Member.here in
      let v = (under_env laws g start agents pending c tr s full h) r (in_fact (app2 pair_name m u') ∷ []) w u refl in
      let x_is : (nf laws) (equations g) (instance σ (app2 pair_name m u')) ≡ x = sym ((one_normal_form laws) (equations g) (instance σ (app2 pair_name m u')) x form) in
      let takes : Takes s.facts (k ∷ j ∷ []) (state_fact path (values env) ∷ in_fact x ∷ []) rest = subst (λ i. Takes s.facts (k ∷ j ∷ []) (state_fact path (values env) ∷ in_fact i ∷ []) rest) x_is v.takes in
      let ns = new_vars (var_names (names env)) (tree_vars u') in
      let free_vars = new_free (var_names (names env)) (tree_vars u') in
      let own = new_first σ (var_names (names env)) (tree_vars u') in
      let wider : Env = widened env σ (tree_vars u') in
      let args = (settled_vars laws) g σ u.fits.messages (with_new (names env) (tree_vars u')) ∙ longer_choice σ env v.agrees ns free_vars own in
      let shown : List Fact = input_fact x ∷ [] in
      let demands = (demands_of laws g start agents pending c tr s full h) r u shown (λ i. input_fact (x_is i) ∷ []) ((met laws g start fine agents pending c tr s full h meets) r listed u) in
      let free = served_free full x demands.served in
      let related : Related g start agents (Some x) c tr s full = subst (λ o. Related g start agents o c tr s full) waiting h.related in
      let channel = put_same σ env v.agrees m sound.0 in
      let message = sym (pattern_matches σ env v.agrees ns free_vars own at.1.ground u' sound.2) in
      let matches : IsTheoryEqual (equations g) (app2 pair_name (term_under env m) (instance σ (term_under env u'))) x = subst (λ i. IsTheoryEqual (equations g) i x) (λ i. app2 pair_name (channel i) (message i)) form.equal in
      let move : IsProcessMove g c (process.inputs_on t σ) (k_fact x ∷ []) (becomes c t (Some (under wider p))) = subst (λ q. IsProcessMove g c (process.inputs_on t σ) (k_fact x ∷ []) (becomes c t (Some q))) ((bound_pattern laws) σ env at.1.ground u' p) (record { step = ProcessStep.inputs_on t σ (runs_as h.related t (running path env b) w.thread) (related.traces.waiting x refl) u.fits.messages matches; chooses = refl }) in
      (follow_use laws g start agents pending c tr s full h) r σ listed u shown (at_first path wider ∷ []) (λ i. input_fact (x_is i) ∷ []) (λ i. state_fact (first_of path) (args i) ∷ []) (one_step move)
      (kept_in g start agents x c tr s full related t (k ∷ j ∷ []) path env (bind σ ns) b p (with_new (names env) (tree_vars u')) rest (λ o z. z) refl refl (good_bind g σ ns own u.fits.messages) free_vars free w.thread takes)
      (λ o y i. absurd (input_frees_none full y x i))

  pub follows_out_adv : FollowsOutAdv g start agents pending c tr s full
  follows_out_adv t k j path env m u' x n p σ left acts right rest w u m_form u_form waiting =
      let b : Proc = act (action.send m u') p in
      let at = h.related.placed t (running path env b) w.thread in
      let sound = fine path (place path (names env) b) at.0 in
      let r : Rule = out_adv_rule path (names env) m u' in
      let listed = place_rule start path (names env) b r at.0 Member.here in
      let v = (under_env laws g start agents pending c tr s full h) r (in_fact m ∷ []) w u refl in
      let args = (args_of laws g start fine agents pending c tr s full h meets) σ env u.fits.messages v.agrees in
      let x_is : (nf laws) (equations g) (instance σ m) ≡ x = ap ((nf laws) (equations g)) (put_same σ env v.agrees m sound.0) ∙ sym ((one_normal_form laws) (equations g) (term_under env m) x m_form) in
      let n_is : (nf laws) (equations g) (instance σ u') ≡ n = ap ((nf laws) (equations g)) (put_same σ env v.agrees u' sound.1) ∙ sym ((one_normal_form laws) (equations g) (term_under env u') n u_form) in
      let takes : Takes s.facts (k ∷ j ∷ []) (state_fact path (values env) ∷ in_fact x ∷ []) rest = subst (λ i. Takes s.facts (k ∷ j ∷ []) (state_fact path (values env) ∷ in_fact i ∷ []) rest) x_is v.takes in
      let shown : List Fact = input_fact x ∷ [] in
      let demands = (demands_of laws g start agents pending c tr s full h) r u shown (λ i. input_fact (x_is i) ∷ []) ((met laws g start fine agents pending c tr s full h meets) r listed u) in
      let free = served_free full x demands.served in
      let related : Related g start agents (Some x) c tr s full = subst (λ o. Related g start agents o c tr s full) waiting h.related in
      let step : ProcessStep g c (k_fact x ∷ []) (sends_out (becomes c t (Some (under env p))) n) = ProcessStep.outputs_on t (runs_as h.related t (running path env b) w.thread) m_form (related.traces.waiting x refl) u_form in
      (follow_use laws g start agents pending c tr s full h) r σ listed u shown (out_fact n ∷ at_first path env ∷ []) (λ i. input_fact (x_is i) ∷ []) (λ i. out_fact (n_is i) ∷ state_fact (first_of path) (args i) ∷ []) (one_step (record { step = step; chooses = refl }))
      (kept_out_adv g start agents x c tr s full related t (k ∷ j ∷ []) path env m u' n p rest free w.thread takes)
      (λ o y i. absurd (input_frees_none full y x i))

  -- the variables in scope with the tag last
  with_tag : (σ : Choice) (env : Env) (n : ℕ) → IsMessageChoice g σ → map σ (names env) ≡ values env → σ tag ≡ fresh n → map ((nf laws) (equations g)) (map (instance σ) (vars (names env) ++ variable tag ∷ [])) ≡ values env ++ fresh n ∷ []
  with_tag σ env n good agrees name = ap (λ ts. map ((nf laws) (equations g)) (map (instance σ) ts)) (sym (map_joined variable (names env) (tag ∷ []))) ∙ (settled_vars laws) g σ good (names env ++ tag ∷ []) ∙ map_push σ (names env) tag ∙ (λ i. agrees i ++ name i ∷ [])

  tag_form : (σ : Choice) (n : ℕ) → σ tag ≡ fresh n → (nf laws) (equations g) (σ tag) ≡ fresh n
  tag_form σ n name = ap ((nf laws) (equations g)) name ∙ (nf-fresh laws) (equations g) n

  pub follows_out_msg : FollowsOutMsg g start agents pending c tr s full
  follows_out_msg t k j n path env m u' x v' p σ left acts right rest w u m_form u_form name =
      let b : Proc = act (action.send m u') p in
      let at = h.related.placed t (running path env b) w.thread in
      let sound = fine path (place path (names env) b) at.0 in
      let r : Rule = out_msg_rule path (names env) m u' in
      let v = (under_env laws g start agents pending c tr s full h) r (fresh_fact (variable tag) ∷ []) w u refl in
      let n_is = tag_form σ n name in
      let x_is : (nf laws) (equations g) (instance σ m) ≡ x = ap ((nf laws) (equations g)) (put_same σ env v.agrees m sound.0) ∙ sym ((one_normal_form laws) (equations g) (term_under env m) x m_form) in
      let v_is : (nf laws) (equations g) (instance σ u') ≡ v' = ap ((nf laws) (equations g)) (put_same σ env v.agrees u' sound.1) ∙ sym ((one_normal_form laws) (equations g) (term_under env u') v' u_form) in
      let tagged = with_tag σ env n u.fits.messages v.agrees name in
      let takes : Takes s.facts (k ∷ j ∷ []) (state_fact path (values env) ∷ fresh_fact (fresh n) ∷ []) rest = subst (λ i. Takes s.facts (k ∷ j ∷ []) (state_fact path (values env) ∷ fresh_fact i ∷ []) rest) n_is v.takes in
      (follow_use_still laws g start agents pending c tr s full h) r σ (place_rule start path (names env) b r at.0 (Member.later Member.here)) u [] (msg_fact (fresh n) x v' ∷ waits_fact path (values env ++ fresh n ∷ []) ∷ []) refl (λ i. msg_fact (n_is i) (x_is i) (v_is i) ∷ waits_fact path (tagged i) ∷ [])
      (kept_out_msg g start agents pending c tr s full h.related t n (k ∷ j ∷ []) path env m u' x v' p rest m_form u_form w.thread takes) (silent_waits pending full [] no_acts)

  -- the second of two facts, where the first was linear
  second_fact : (facts rest : Pile) (k j : ℕ) (path : List ℕ) (args : List Tree) (u : Fact) → Takes facts (k ∷ j ∷ []) (state_fact path args ∷ u ∷ []) rest → slice_get facts j ≡ Some (Some u)
  second_fact facts rest k j path args u (Takes.one e i) = before_gone facts k j u (first_taken i)

  pub follows_out_ack : FollowsOutAck g start agents pending c tr s full
  follows_out_ack t k j n path env m u' p σ left acts right rest is fact u =
      let b : Proc = act (action.send m u') p in
      let at = h.related.placed t (received path env m u' p n) is in
      let r : Rule = out_ack_rule path (names env) in
      let long : List Tree = map ((nf laws) (equations g)) (map (instance σ) (vars (names env) ++ variable tag ∷ [])) in
      let taken : Takes s.facts (k ∷ j ∷ []) (waits_fact path long ∷ ack_fact ((nf laws) (equations g) (σ tag)) ∷ []) rest = subst (λ fs. Takes s.facts (k ∷ j ∷ []) fs rest) ((left_is laws g start agents pending c tr s full h) r u) u.takes in
      let plain : long ≡ map σ (names env) ++ σ tag ∷ [] = ap (λ ts. map ((nf laws) (equations g)) (map (instance σ) ts)) (sym (map_joined variable (names env) (tag ∷ []))) ∙ (settled_vars laws) g σ u.fits.messages (names env ++ tag ∷ []) ∙ map_push σ (names env) tag in
      let same : long ≡ values env ++ fresh n ∷ [] = same_waits path long (values env ++ fresh n ∷ []) (sym (first_taken taken) ∙ fact) in
      let agrees : map σ (names env) ≡ values env = init_same (map σ (names env)) (values env) (σ tag) (fresh n) (sym plain ∙ same) in
      let name : σ tag ≡ fresh n = last_same (map σ (names env)) (values env) (σ tag) (fresh n) (sym plain ∙ same) in
      let n_is = tag_form σ n name in
      let args = (args_of laws g start fine agents pending c tr s full h meets) σ env u.fits.messages agrees in
      let takes : Takes s.facts (k ∷ j ∷ []) (waits_fact path (values env ++ fresh n ∷ []) ∷ ack_fact (fresh n) ∷ []) rest = subst (λ fs. Takes s.facts (k ∷ j ∷ []) fs rest) (λ i. waits_fact path (same i) ∷ ack_fact (n_is i) ∷ []) taken in
      (follow_use_still laws g start agents pending c tr s full h) r σ (place_rule start path (names env) b r at.0 (Member.later (Member.later Member.here))) u [] (at_first path env ∷ []) refl (λ i. state_fact (first_of path) (args i) ∷ [])
      (kept_out_ack g start agents pending c tr s full h.related t n (k ∷ j ∷ []) path env m u' p rest is takes) (silent_waits pending full [] no_acts)
    where
      same_waits : (path : List ℕ) (xs ys : List Tree) → Some (Some (waits_fact path xs)) ≡ Some (Some (waits_fact path ys)) → xs ≡ ys
      same_waits path xs ys e = let one : waits_fact path xs ≡ waits_fact path ys = cc in ap (λ (f : Fact). f.args) one

  pub follows_in_msg : FollowsInMsg g start agents pending c tr s full
  follows_in_msg a t k j n at path other env m u' x v' l r' p q σ left acts right rest ia fact w u =
      let b : Proc = act (action.receive l r') q in
      let here = h.related.placed t (running path env b) w.thread in
      let there = h.related.placed a (awaiting at other m u' x v' p n) ia in
      let sound = fine path (place path (names env) b) here.0 in
      let r : Rule = in_msg_rule path (names env) l r' in
      let v = (under_env laws g start agents pending c tr s full h) r (msg_fact (variable tag) l r' ∷ []) w u refl in
      let taken = same_message ((nf laws) (equations g) (σ tag)) ((nf laws) (equations g) (instance σ l)) ((nf laws) (equations g) (instance σ r')) (fresh n) x v' (sym (second_fact s.facts rest k j path (values env) (msg_fact ((nf laws) (equations g) (σ tag)) ((nf laws) (equations g) (instance σ l)) ((nf laws) (equations g) (instance σ r'))) v.takes) ∙ fact) in
      let x_is : (nf laws) (equations g) (instance σ l) ≡ x = taken.1 in
      let v_is : (nf laws) (equations g) (instance σ r') ≡ v' = taken.2 in
      let takes : Takes s.facts (k ∷ j ∷ []) (state_fact path (values env) ∷ msg_fact (fresh n) x v' ∷ []) rest = subst (λ f. Takes s.facts (k ∷ j ∷ []) (state_fact path (values env) ∷ f ∷ []) rest) (λ i. msg_fact (taken.0 i) (x_is i) (v_is i)) v.takes in
      let ns = new_vars (var_names (names env)) (tree_vars r') in
      let free_vars = new_free (var_names (names env)) (tree_vars r') in
      let own = new_first σ (var_names (names env)) (tree_vars r') in
      let wider : Env = widened env σ (tree_vars r') in
      let args = (settled_vars laws) g σ u.fits.messages (with_new (names env) (tree_vars r')) ∙ longer_choice σ env v.agrees ns free_vars own in
      let e = equations g in
      let channel : IsTheoryEqual e (term_under other m) (term_under env l) = (chain laws) there.1.equal ((back laws) (subst (λ i. IsTheoryEqual e (term_under env l) i) (ap ((nf laws) e) (sym (put_same σ env v.agrees l sound.0)) ∙ x_is) ((nf-reached laws) e (term_under env l)))) in
      let message : IsTheoryEqual e (instance σ (term_under env r')) (term_under other u') = subst (λ i. IsTheoryEqual e i (term_under other u')) (sym (pattern_matches σ env v.agrees ns free_vars own here.1.ground r' sound.2)) ((chain laws) (subst (λ i. IsTheoryEqual e (instance σ r') i) v_is ((nf-reached laws) e (instance σ r'))) ((back laws) there.2.equal)) in
      let move : IsProcessMove g c (process.meets a t σ) [] (becomes (becomes c a (Some (under other p))) t (Some (under wider q))) = subst (λ z. IsProcessMove g c (process.meets a t σ) [] (becomes (becomes c a (Some (under other p))) t (Some z))) ((bound_pattern laws) σ env here.1.ground r' q) (record { step = ProcessStep.meets a t σ (runs_as h.related a (awaiting at other m u' x v' p n) ia) (runs_as h.related t (running path env b) w.thread) channel (record { messages = u.fits.messages; equal = message }); chooses = refl }) in
      (follow_use laws g start agents pending c tr s full h) r σ (place_rule start path (names env) b r here.0 (Member.later Member.here)) u [] (ack_fact (fresh n) ∷ at_first path wider ∷ []) refl (λ i. ack_fact (taken.0 i) ∷ state_fact (first_of path) (args i) ∷ []) (one_step move)
      (kept_meet g start agents pending c tr s full h.related a t n (k ∷ j ∷ []) at path other env (bind σ ns) m u' x v' l r' p q rest ia w.thread refl (good_bind g σ ns own u.fits.messages) takes move.step) (silent_waits pending full [] no_acts)
    where
      same_message : (n1 x1 v1 n2 x2 v2 : Tree) → Some (Some (msg_fact n1 x1 v1)) ≡ Some (Some (msg_fact n2 x2 v2)) → (n1 ≡ n2) × (x1 ≡ x2) × (v1 ≡ v2)
      same_message n1 x1 v1 n2 x2 v2 e =
          let one : msg_fact n1 x1 v1 ≡ msg_fact n2 x2 v2 = cc in
          let two : n1 ∷ x1 ∷ v1 ∷ [] ≡ n2 ∷ x2 ∷ v2 ∷ [] = ap (λ (f : Fact). f.args) one in
          (cc, cc, cc)
