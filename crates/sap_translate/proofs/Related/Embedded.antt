-- What answers an embedded rule.
use Rattle.sap_translate.specs.Members.{Member}
use Rattle.sap_translate.specs.Sound.{SoundPlaces}
use Rattle.sap_translate.specs.relation.Names.{vars}
use Rattle.sap_process.specs.Places.{place}
use Rattle.sap_process.specs.Proc.{Proc, act}
use Rattle.sap_process.specs.ProcessSteps.{ProcessStep}
use Rattle.sap_rule.specs.declared.rule.Rule.{Rule}
use Rattle.sap_terms.specs.Equations.{equations, Equations}
use Rattle.sap_terms.specs.Signature.{Sig}
use Rattle.sap_terms.specs.Trace.{Trace}
use Rattle.sap_terms.specs.declared.fact.Fact.{Fact}
use Rattle.sap_terms.specs.declared.var.Var.{Var}
use Rattle.sap_process.specs.Action as action
use Rattle.sap_translate.proofs.Premises.LowerLaws.{Laws}
use Rattle.sap_translate.proofs.Terms.Choices.{values_append, filled_values, settled_vars, choice_good, good_bind, good-append, facts_are}
use Rattle.sap_translate.proofs.Terms.Derive.{contains}
use Rattle.sap_translate.proofs.Terms.Forms.{are_equal, are_forms}
use Rattle.sap_translate.specs.relation.Modulo.{AreEqual, AreForms}
use Rattle.sap_translate.proofs.Terms.Substitution.{new_first, new_free}
use Rattle.sap_translate.proofs.Lists.FactLists.{within_left, within_right}
use Rattle.sap_translate.proofs.Parts.Embed.{kept_embed}
use Rattle.sap_translate.proofs.Parts.Users.{equal_users, form_users, put_users}
use Rattle.sap_translate.specs.Scoped.{FactsWithin, AreUnreserved}
use Rattle.sap_templates.specs.Templates.{first_of, rules_of, embedded_rule, embedded_acts}
use Rattle.sap_translate.specs.relation.Answered.{Embeds}
use Rattle.sap_translate.specs.relation.Answers.{AtRest, under, at_first}
use Rattle.sap_translate.specs.relation.Envs.{Env, names, filled, values, bind, join, GoodEnv}
use Rattle.sap_translate.specs.relation.ProcessMoves.{IsProcessMove}
use Rattle.sap_translate.specs.relation.ProcessMoves as process
use Rattle.sap_translate.specs.relation.Agents.{Agent, running}
use Rattle.sap_translate.specs.relation.RuleMoves.{IsRuleMove}
use Rattle.sap_translate.specs.relation.RuleMoves as rules
use Rattle.sap_process.specs.Scopes.{with_new}
use Rattle.sap_place.specs.StateFacts.{state_fact}
use Rattle.sap_process.specs.Configuration as config
use Rattle.sap_process.specs.Configuration.{Config, becomes}
use Rattle.sap_process.specs.Sites.{var_names}
use Rattle.sap_rule.specs.RuleSteps.{RuleState, RuleStep, leaves}
use Rattle.sap_terms.specs.Choice.{Choice, instance}
use Rattle.sap_terms.specs.Modulo.{instance_fact, instance_facts, IsEqualFact, IsFormOfFact, AreEqualFacts, AreFormsOfFacts}
use Rattle.sap_terms.specs.Message.{IsMessageChoice}
use Rattle.sap_terms.specs.Tree.{Tree}
use Rattle.sap_terms.specs.Piles.{Takes, adds}
use Rattle.sap_terms.specs.Variables.{facts_vars, new_vars}
use Rattle.std.proofs.Common.{◌≡◌, ℕ, List, [], ◌∷◌, ◌++◌, Option, Some, refl, ◌∙◌, subst, map}
use Rattle.sap_translate.proofs.Related.Common.{one_move, runs_as, place_rule, answers_set, bound_facts}

-- a state fact, and what the rule shows, under a choice
state_equal : (laws : Laws) → (g : Sig) (path : List ℕ) (σ : Choice) → IsMessageChoice g σ → (v : List Var) (args : List Tree) → map σ v ≡ args → IsEqualFact (equations g) (instance_fact σ (state_fact path (vars v))) (state_fact path args)
state_equal laws g path σ good v args same = record { name = refl; persistent = refl; args = subst (λ ts. AreEqual (equations g) (map (instance σ) (vars v)) ts) ((settled_vars laws) g σ good v ∙ same) ((are_equal laws) (equations g) (map (instance σ) (vars v))) }

state_form : (laws : Laws) → (g : Sig) (path : List ℕ) (σ : Choice) → IsMessageChoice g σ → (v : List Var) (args : List Tree) → map σ v ≡ args → IsFormOfFact (equations g) (instance_fact σ (state_fact path (vars v))) (state_fact path args)
state_form laws g path σ good v args same = record { name = refl; persistent = refl; args = subst (λ ts. AreForms (equations g) (map (instance σ) (vars v)) ts) ((settled_vars laws) g σ good v ∙ same) ((are_forms laws) (equations g) (map (instance σ) (vars v))) }

said_forms : (e : Equations) (σ : Choice) (a acts : List Fact) → AreFormsOfFacts e (instance_facts σ a) acts → AreFormsOfFacts e (instance_facts σ (embedded_acts a)) (embedded_acts acts)
said_forms e σ [] [] h = tt
said_forms e σ [] (x ∷ xs) h = absurd h
said_forms e σ (f ∷ fs) [] h = absurd h
said_forms e σ (f ∷ fs) (x ∷ xs) h = (record { name = refl; persistent = refl; args = tt }, h)

module _ (laws : Laws) (g : Sig) (start : Proc) (fine : SoundPlaces g start) (agents : List (Option Agent)) (c : Config) (tr : Trace) (s : RuleState) (full : Trace) (h : AtRest g start agents c tr s full) where
  pub embeds : Embeds g start agents c tr s full
  embeds t k path env l a o p ks js σ left acts right rest others w messages equal ptakes a_forms o_forms jtakes =
      let e : Equations = equations g in
      let b : Proc = act (action.embedded l a o) p in
      let at = h.related.placed t (running path env b) w.thread in
      let sound = fine path (place path (names env) b) at.0 in
      let fs : List Fact = l ++ (a ++ o) in
      let ns = new_vars (var_names (names env)) (facts_vars fs) in
      let free = new_free (var_names (names env)) (facts_vars fs) in
      let own = new_first σ (var_names (names env)) (facts_vars fs) in
      let τ : Env = bind σ ns in
      let ground : GoodEnv g τ = good_bind g σ ns own messages in
      let wider : Env = join env τ in
      let within : FactsWithin (names wider) fs = sound.3 in
      let within_l = within_left (names wider) l (a ++ o) within in
      let within_ao = within_right (names wider) l (a ++ o) within in
      let within_a = within_left (names wider) a o within_ao in
      let within_o = within_right (names wider) a o within_ao in
      let ρ : Choice = filled wider in
      let good = (choice_good laws) g wider (good-append g env τ at.1 ground free) in
      let l_equal : AreEqualFacts e (instance_facts ρ l) left = subst (λ z. AreEqualFacts e z left) (facts_are env σ ns at.1.ground free own l within_l) equal in
      let a_form : AreFormsOfFacts e (instance_facts ρ a) acts = subst (λ z. AreFormsOfFacts e z acts) (facts_are env σ ns at.1.ground free own a within_a) a_forms in
      let o_form : AreFormsOfFacts e (instance_facts ρ o) right = subst (λ z. AreFormsOfFacts e z right) (facts_are env σ ns at.1.ground free own o within_o) o_forms in
      let own_left : AreUnreserved left = equal_users e (instance_facts ρ l) left l_equal (put_users ρ l sound.0) in
      let own_acts : AreUnreserved acts = form_users e (instance_facts ρ a) acts a_form (put_users ρ a sound.1) in
      let own_right : AreUnreserved right = form_users e (instance_facts ρ o) right o_form (put_users ρ o sound.2) in
      let f : Fact = state_fact path (values env) in
      let takes : Takes s.facts (k ∷ js) (f ∷ left) others = Takes.one w.fact jtakes in
      let r : Rule = embedded_rule path (names env) l a o in
      let d : Proc → Config = λ q. config.leaves (becomes c t (Some q)) (adds rest right) in
      let thread = (bound_facts laws) σ env at.1.ground l a o p in
      let move : IsProcessMove g c (process.embeds t ks σ) acts (d (under wider p)) = subst (λ q. IsProcessMove g c (process.embeds t ks σ) acts (d q)) thread (record { step = ProcessStep.embeds t ks σ left acts right (runs_as h.related t (running path env b) w.thread) messages equal ptakes a_forms o_forms; chooses = refl }) in
      let used : IsRuleMove g (rules_of start) s (rules.uses r (k ∷ js) ρ) (embedded_acts acts) (leaves s (adds others (at_first path wider ∷ right))) = record {
        step = RuleStep.uses r (k ∷ js) ρ (f ∷ left) (embedded_acts acts) (at_first path wider ∷ right) (contains (place_rule start path (names env) b r at.0 Member.here)) takes (record {
          messages = good;
          takes = ((state_equal laws) g path ρ good (names env) (values env) (values_append env τ), l_equal);
          shows = said_forms e ρ a acts a_form;
          adds = ((state_form laws) g (first_of path) ρ good (with_new (names env) (facts_vars fs)) (values wider) (filled_values wider), o_form);
        });
        chooses = refl;
      } in
      (answers_set g start agents c tr s full h) t (Some (running path env b)) (Some (running (first_of path) wider p)) w.thread refl refl move (one_move used)
      (kept_embed g start agents c tr s full h.related t (k ∷ js) ks path env τ l a o p left acts right others rest own_left own_acts own_right refl ground free w.thread takes ptakes move.step)
