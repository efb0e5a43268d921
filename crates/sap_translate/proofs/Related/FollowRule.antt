-- How the process follows an embedded rule.
use Rattle.sap_translate.specs.Members.{Member}
use Rattle.sap_translate.specs.Sound.{SoundPlaces}
use Rattle.sap_process.specs.Places.{place}
use Rattle.sap_process.specs.Proc.{Proc, act}
use Rattle.sap_process.specs.ProcessSteps.{ProcessStep}
use Rattle.sap_terms.specs.Equations.{equations}
use Rattle.sap_terms.specs.Signature.{Sig}
use Rattle.sap_terms.specs.Trace.{Trace}
use Rattle.sap_terms.specs.declared.fact.Fact.{Fact}
use Rattle.sap_process.specs.Action as action
use Rattle.sap_translate.proofs.Premises.LowerLaws.{Laws}
use Rattle.sap_translate.specs.relation.Shown.{MeetsAll}
use Rattle.sap_translate.proofs.Terms.Choices.{settled_vars, good_bind, longer_choice, facts_match}
use Rattle.sap_translate.proofs.Terms.Forms.{settled, forms_are_facts}
use Rattle.sap_templates.specs.Templates.{rules_of, first_of, embedded_rule, embedded_acts}
use Rattle.sap_translate.specs.relation.Answers.{StandsBefore, under, widened, at_first, goes_on}
use Rattle.sap_translate.specs.relation.Envs.{Env, names, values, join, bind, GoodEnv}
use Rattle.sap_translate.specs.relation.Follows.{Together}
use Rattle.sap_translate.specs.relation.ProcessMoves.{IsProcessMove}
use Rattle.sap_translate.specs.relation.ProcessMoves as process
use Rattle.sap_translate.specs.relation.Agents.{Agent, running}
use Rattle.sap_translate.specs.relation.Related.{Related, pending_place}
use Rattle.sap_place.specs.StateFacts.{state_fact}
use Rattle.sap_rule.specs.RuleSteps.{RuleState, RuleStep, leaves}
use Rattle.sap_terms.specs.Choice.{Choice}
use Rattle.sap_terms.specs.Piles.{Pile, Takes, adds}
use Rattle.sap_terms.specs.Tree.{Tree}
use Rattle.std.proofs.Common.{◌≡◌, ℕ, List, [], ◌∷◌, ◌++◌, Option, Some, None, refl, sym, ap, ◌∙◌, subst, append_assoc}
use Rattle.sap_restrict.specs.ReservedFacts.{event_fact}
use Rattle.sap_restrict.specs.Standard.{IsAdmitted}
use Rattle.sap_translate.proofs.Lists.FactLists.{within_left, within_right}
use Rattle.sap_translate.proofs.Parts.Embed.{kept_embed, kept_embed_silent}
use Rattle.sap_translate.proofs.Parts.Users.{equal_users, form_users, put_users}
use Rattle.sap_translate.proofs.Related.Common.{runs_as, place_rule, bound_facts}
use Rattle.sap_translate.proofs.Related.Follow.{follow_use, under_env, one_step, silent_waits, no_acts}
use Rattle.sap_translate.proofs.Related.FollowControl.{flush, flush_moves}
use Rattle.sap_translate.proofs.RulesToProcess.Followed.{settled_said}
use Rattle.sap_translate.proofs.Terms.Substitution.{new_first, new_free}
use Rattle.sap_translate.proofs.Shared.Inputs.{event_frees_none}
use Rattle.sap_translate.specs.Scoped.{FactsWithin, AreUnreserved}
use Rattle.sap_translate.specs.relation.Followed.{IsUsed, FollowsRule}
use Rattle.sap_process.specs.Scopes.{with_new}
use Rattle.sap_process.specs.Configuration as config
use Rattle.sap_process.specs.Configuration.{Config, becomes}
use Rattle.sap_process.specs.Sites.{var_names}
use Rattle.sap_terms.specs.Modulo.{instance_facts, AreEqualFacts, AreFormsOfFacts}
use Rattle.sap_terms.specs.Variables.{facts_vars, new_vars}

module _ (laws : Laws) (g : Sig) (start : Proc) (fine : SoundPlaces g start) (agents : List (Option Agent)) (pending : Option Tree) (c : Config) (tr : Trace) (s : RuleState) (full : Trace) (h : Together g start agents pending c tr s full) (meets : (acts : List Fact) (z : RuleState) → RuleStep g (rules_of start) s acts z → IsAdmitted g (full ++ acts ∷ []) → MeetsAll (equations g) (full ++ acts ∷ [])) where
  -- what both cases share
  record Rule (t k : ℕ) (js ks : List ℕ) (path : List ℕ) (env : Env) (l a o : List Fact) (p : Proc) (σ : Choice) (taken shows gives : List Fact) (others : Pile) : Type 0 where
    acts_is : (settled laws) (equations g) σ (embedded_acts a) ≡ embedded_acts shows
    right_is : (settled laws) (equations g) σ (embedded_rule path (names env) l a o).right ≡ at_first path (widened env σ (facts_vars (l ++ (a ++ o)))) ∷ gives
    own_left : AreUnreserved taken
    own_acts : AreUnreserved shows
    own_right : AreUnreserved gives
    ground : GoodEnv g (bind σ (new_vars (var_names (names env)) (facts_vars (l ++ (a ++ o)))))
    move : IsProcessMove g c (process.embeds t ks σ) shows (config.leaves (becomes c t (Some (under (widened env σ (facts_vars (l ++ (a ++ o)))) p))) (adds others gives))

  shared : (t k : ℕ) (js ks : List ℕ) (path : List ℕ) (env : Env) (l a o : List Fact) (p : Proc) (σ : Choice) (taken shows gives acts right : List Fact) (rest others : Pile) → StandsBefore agents s t k path env (act (action.embedded l a o) p) → IsUsed g s full (embedded_rule path (names env) l a o) (k ∷ js) σ (state_fact path (values env) ∷ taken) acts right rest
      → Takes c.facts ks taken others → AreFormsOfFacts (equations g) (instance_facts σ a) shows → AreFormsOfFacts (equations g) (instance_facts σ o) gives → Rule t k js ks path env l a o p σ taken shows gives others
  shared t k js ks path env l a o p σ taken shows gives acts right rest others w u ptakes a_form o_form =
      let e = equations g in
      let b : Proc = act (action.embedded l a o) p in
      let at = h.related.placed t (running path env b) w.thread in
      let sound = fine path (place path (names env) b) at.0 in
      let v = (under_env laws g start agents pending c tr s full h) (embedded_rule path (names env) l a o) l w u refl in
      let fs : List Fact = l ++ (a ++ o) in
      let ns = new_vars (var_names (names env)) (facts_vars fs) in
      let free = new_free (var_names (names env)) (facts_vars fs) in
      let own = new_first σ (var_names (names env)) (facts_vars fs) in
      let within : FactsWithin (names env ++ ns) fs = sound.3 in
      let within_l = within_left (names env ++ ns) l (a ++ o) within in
      let within_ao = within_right (names env ++ ns) l (a ++ o) within in
      let l_is = facts_match σ env v.agrees ns free own at.1.ground l within_l in
      let a_is = facts_match σ env v.agrees ns free own at.1.ground a (within_left (names env ++ ns) a o within_ao) in
      let o_is = facts_match σ env v.agrees ns free own at.1.ground o (within_right (names env ++ ns) a o within_ao) in
      let l_equal : AreEqualFacts e (instance_facts σ l) taken = u.fits.takes.1 in
      let args = (settled_vars laws) g σ u.fits.messages (with_new (names env) (facts_vars fs)) ∙ longer_choice σ env v.agrees ns free own in
      let shows_are = (forms_are_facts laws) e (instance_facts σ a) shows a_form in
      let gives_are = (forms_are_facts laws) e (instance_facts σ o) gives o_form in
      let d : Proc → Config = λ q. config.leaves (becomes c t (Some q)) (adds others gives) in
      record {
        acts_is = (settled_said laws) e σ a ∙ ap embedded_acts (sym shows_are);
        right_is = λ i. state_fact (first_of path) (args i) ∷ sym gives_are i;
        own_left = equal_users e (instance_facts σ l) taken l_equal (put_users σ l sound.0);
        own_acts = form_users e (instance_facts σ a) shows a_form (put_users σ a sound.1);
        own_right = form_users e (instance_facts σ o) gives o_form (put_users σ o sound.2);
        ground = good_bind g σ ns own u.fits.messages;
        move = subst (λ q. IsProcessMove g c (process.embeds t ks σ) shows (d q)) ((bound_facts laws) σ env at.1.ground l a o p) (record {
          step = ProcessStep.embeds t ks σ taken shows gives (runs_as h.related t (running path env b) w.thread) u.fits.messages (subst (λ z. AreEqualFacts e z taken) (sym l_is) l_equal) ptakes (subst (λ z. AreFormsOfFacts e z shows) (sym a_is) a_form) (subst (λ z. AreFormsOfFacts e z gives) (sym o_is) o_form);
          chooses = refl;
        });
      }

  pub follows_rule : FollowsRule g start agents pending c tr s full
  follows_rule t k js ks path env l a o p σ taken [] gives acts right rest others w u ptakes a_form o_form =
      let at = h.related.placed t (running path env (act (action.embedded l a o) p)) w.thread in
      let x = shared t k js ks path env l a o p σ taken [] gives acts right rest others w u ptakes a_form o_form in
      let r = embedded_rule path (names env) l a o in
      let free = new_free (var_names (names env)) (facts_vars (l ++ (a ++ o))) in
      let τ : Env = bind σ (new_vars (var_names (names env)) (facts_vars (l ++ (a ++ o)))) in
      (follow_use laws g start agents pending c tr s full h) r σ (place_rule start path (names env) (act (action.embedded l a o) p) r at.0 Member.here) u [] (at_first path (join env τ) ∷ gives) x.acts_is x.right_is (one_step x.move)
      (kept_embed_silent g start agents pending c tr s full h.related t (k ∷ js) ks path env τ l a o p taken gives rest others x.own_left x.own_right refl x.ground free w.thread u.takes ptakes x.move.step) (silent_waits pending full [] no_acts)
  follows_rule t k js ks path env l a o p σ taken (f ∷ fs) gives acts right rest others w u ptakes a_form o_form =
      let at = h.related.placed t (running path env (act (action.embedded l a o) p)) w.thread in
      let x = shared t k js ks path env l a o p σ taken (f ∷ fs) gives acts right rest others w u ptakes a_form o_form in
      let r = embedded_rule path (names env) l a o in
      let free = new_free (var_names (names env)) (facts_vars (l ++ (a ++ o))) in
      let τ : Env = bind σ (new_vars (var_names (names env)) (facts_vars (l ++ (a ++ o)))) in
      let wider : Env = join env τ in
      let d : Config = config.leaves (becomes c t (Some (under wider p))) (adds others gives) in
      (follow_use laws g start agents pending c tr s full h) r σ (place_rule start path (names env) (act (action.embedded l a o) p) r at.0 Member.here) u (event_fact ∷ f ∷ fs) (at_first path wider ∷ gives) x.acts_is x.right_is ((flush_moves laws g start fine agents pending c tr s full h meets) pending h.related (one_step x.move))
      (subst (λ i. Related g start (goes_on agents t path wider p) None d i (leaves s (adds rest (at_first path wider ∷ gives))) (full ++ (event_fact ∷ f ∷ fs) ∷ [])) (append_assoc tr (pending_place pending) ((f ∷ fs) ∷ []))
      (kept_embed g start agents c (tr ++ pending_place pending) s full ((flush laws g start fine agents pending c tr s full h meets) pending h.related) t (k ∷ js) ks path env τ l a o p taken (f ∷ fs) gives rest others x.own_left x.own_acts x.own_right refl x.ground free w.thread u.takes ptakes x.move.step))
      (λ i y z. absurd (event_frees_none full (event_fact ∷ f ∷ fs) y Member.here z))
