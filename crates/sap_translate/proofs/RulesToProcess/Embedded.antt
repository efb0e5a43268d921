-- The process follows the rules of embedded rules, of events and of new names.
use Rattle.sap_translate.proofs.Premises.LowerLaws.{Laws, nf-fresh, nf}
use Rattle.sap_restrict.specs.ReservedFacts.{event_fact}
use Rattle.sap_translate.specs.Members.{Member}
use Rattle.sap_translate.proofs.Lists.Bags.{take_same}
use Rattle.sap_translate.proofs.Terms.Choices.{good_bind, put_fact_same, facts_match, longer_choice, one_more}
use Rattle.sap_translate.proofs.Parts.Control.{LiveFact}
use Rattle.sap_translate.proofs.Parts.Embed.{kept_embed}
use Rattle.sap_translate.proofs.Lists.FactLists.{within_left, within_right, map_joined}
use Rattle.sap_translate.proofs.Terms.Forms.{settled, nf_fact, form_of_fact, fresh_fits, equal_facts, forms_of_facts}
use Rattle.sap_translate.proofs.Parts.Kept.{kept_new, kept_event}
use Rattle.sap_translate.proofs.Terms.Steps.{step_makes_name, step_embeds}
use Rattle.sap_translate.proofs.Terms.Substitution.{new_first, after_facts, new_free}
use Rattle.sap_translate.proofs.Shared.Takings.{taken_each, takes_total}
use Rattle.sap_translate.proofs.Parts.Tidy.{Tidy}
use Rattle.sap_translate.proofs.Parts.Users.{form_users, put_users}
use Rattle.sap_translate.specs.relation.Envs.{Env, names, chosen, values, just, join, bind}
use Rattle.sap_translate.specs.Scoped.{AllWithin, FactsWithin, IsFree, AreUnreserved}
use Rattle.sap_templates.specs.ChannelFacts.{fresh_fact}
use Rattle.sap_translate.specs.relation.Agents.{running}
use Rattle.sap_translate.specs.relation.Counts.{SamePile, count_user}
use Rattle.sap_place.specs.StateFacts.{state_fact}
use Rattle.sap_templates.specs.Places.{scoped_place_at, root}
use Rattle.sap_process.specs.Places.{place}
use Rattle.sap_templates.specs.Templates.{first_of, embedded_acts}
use Rattle.sap_process.specs.Scopes.{with_new}
use Rattle.sap_translate.specs.Sound.{SoundPlaces}
use Rattle.sap_process.specs.Configuration.{becomes, makes}
use Rattle.sap_process.specs.Instance.{process_instance, without}
use Rattle.sap_process.specs.Proc.{Proc, act}
use Rattle.sap_process.specs.ProcessSteps.{ProcessStep, ProcessRun}
use Rattle.sap_rule.specs.RuleSteps.{RuleState}
use Rattle.sap_terms.specs.Choice.{Choice}
use Rattle.sap_terms.specs.Message.{IsMessageChoice}
use Rattle.sap_terms.specs.Modulo.{instance_fact, instance_facts, IsFormOfFact, AreEqualFacts, AreFormsOfFacts}
use Rattle.sap_terms.specs.Piles.{Takes, adds, used}
use Rattle.sap_terms.specs.Signature.{Sig, HoldsBuiltins}
use Rattle.sap_terms.specs.Equations.{equations}
use Rattle.sap_terms.specs.Trace.{Trace, shown}
use Rattle.sap_terms.specs.Tree.{fresh}
use Rattle.sap_terms.specs.declared.fact.Fact.{Fact}
use Rattle.sap_terms.specs.declared.var.Var.{Var}
use Rattle.std.proofs.Common.{◌≡◌, ℕ, List, [], ◌∷◌, ◌++◌, Option, Some, None, refl, sym, ap, ◌∙◌, arith, slice_set, subst, map}
use Rattle.sap_process.specs.Action as action
use Rattle.sap_process.specs.Sites.{var_names, fresh_var}
use Rattle.sap_terms.specs.Variables.{facts_vars, new_vars}
use Rattle.sap_translate.proofs.Related.Common.{runs_as}
use Rattle.sap_translate.proofs.RulesToProcess.Followed.{flushed, head_of, seat, tail_of, Followed, is_new}
use Rattle.sap_translate.proofs.RulesToProcess.Control.{After}

module _ (laws : Laws) (sig : Sig) (start : Proc) (hold : HoldsBuiltins sig) (fine : SoundPlaces sig start) (s : RuleState) (full : Trace) (w : Followed sig start s full) (clean : Tidy (equations sig) s) where
  module _ (ks : List ℕ) (rest : List (Option Fact)) (σ : Choice) (good : IsMessageChoice sig σ) (path : List ℕ) (v : List Var) where
    pub law_embed : (l a o : List Fact) (p : Proc) → scoped_place_at (root start) path ≡ Some (place path v (act (action.embedded l a o) p)) → Takes s.facts ks (state_fact path (map σ v) ∷ (settled laws) (equations sig) σ l) rest → (After laws sig start hold fine s full w clean ks rest σ good path v) (state_fact (first_of path) (map σ (with_new v (facts_vars (l ++ (a ++ o))))) ∷ (settled laws) (equations sig) σ o) (embedded_acts ((settled laws) (equations sig) σ a))
    law_embed l a o p e takes =
        let th = equations sig in
        let fs : List Fact = l ++ (a ++ o) in
        let left : List Fact = (settled laws) th σ l in
        let acts : List Fact = (settled laws) th σ a in
        let right : List Fact = (settled laws) th σ o in
        let z = flushed sig start s full w in
        let y = seat sig start w.agents None z.c z.tr s full z.related path v (act (action.embedded l a o) p) σ e (head_of takes) in
        let at = z.related.placed y.thread (running path y.env (act (action.embedded l a o) p)) y.stands in
        let takes' = subst (λ ts. Takes s.facts ks (state_fact path ts ∷ left) rest) y.bound takes in
        let agrees : map σ (names y.env) ≡ values y.env = ap (λ u. map σ u) y.scope ∙ y.bound in
        let sound = fine path (place path v (act (action.embedded l a o) p)) e in
        let uleft : AreUnreserved left = form_users th (instance_facts σ l) left ((forms_of_facts laws) th (instance_facts σ l)) (put_users σ l sound.0) in
        let uacts : AreUnreserved acts = form_users th (instance_facts σ a) acts ((forms_of_facts laws) th (instance_facts σ a)) (put_users σ a sound.1) in
        let uright : AreUnreserved right = form_users th (instance_facts σ o) right ((forms_of_facts laws) th (instance_facts σ o)) (put_users σ o sound.2) in
        let tail = tail_of takes' in
        let f : Fact = state_fact path (values y.env) in
        let first : Takes s.facts (tail.k ∷ []) (f ∷ []) (used s.facts tail.k f) = Takes.one tail.is Takes.nothing in
        let piles : SamePile (used s.facts tail.k f) z.c.facts = λ test. let a1 = takes_total (count_user test) refl first in let b1 = z.related.pile test in omega arith in
        let taken = take_same z.c.facts piles uleft tail.takes in
        let ns = new_vars (var_names (names y.env)) (facts_vars fs) in
        let free = new_free (var_names (names y.env)) (facts_vars fs) in
        let own = new_first σ (var_names (names y.env)) (facts_vars fs) in
        let τ : Env = bind σ ns in
        let good_τ = good_bind sig σ ns own good in
        let within : FactsWithin (names y.env ++ ns) fs = subst (λ u. FactsWithin (with_new u (facts_vars fs)) fs) (sym y.scope) sound.3 in
        let wl = within_left (names y.env ++ ns) l (a ++ o) within in
        let war = within_right (names y.env ++ ns) l (a ++ o) within in
        let wa = within_left (names y.env ++ ns) a o war in
        let wo = within_right (names y.env ++ ns) a o war in
        let l_is = facts_match σ y.env agrees ns free own at.1.ground l wl in
        let a_is = facts_match σ y.env agrees ns free own at.1.ground a wa in
        let o_is = facts_match σ y.env agrees ns free own at.1.ground o wo in
        let joined : map (instance_fact (chosen y.env)) fs ≡ map (instance_fact (chosen y.env)) l ++ (map (instance_fact (chosen y.env)) a ++ map (instance_fact (chosen y.env)) o) = map_joined (instance_fact (chosen y.env)) l (a ++ o) ∙ ap (λ u. map (instance_fact (chosen y.env)) l ++ u) (map_joined (instance_fact (chosen y.env)) a o) in
        let run = runs_as z.related y.thread (running path y.env (act (action.embedded l a o) p)) y.stands in
        let inner : Proc = process_instance (chosen (join y.env τ)) p in
        let thread : process_instance (chosen (bind σ (facts_vars (map (instance_fact (chosen y.env)) l ++ (map (instance_fact (chosen y.env)) a ++ map (instance_fact (chosen y.env)) o))))) (process_instance (chosen y.env) p) ≡ inner = ap (λ u. process_instance (chosen (bind σ (facts_vars u))) (process_instance (chosen y.env) p)) (sym joined) ∙ (after_facts laws) σ y.env at.1.ground fs p in
        let step0 : ProcessStep sig z.c acts (record (becomes z.c y.thread (Some (process_instance (chosen (bind σ (facts_vars (map (instance_fact (chosen y.env)) l ++ (map (instance_fact (chosen y.env)) a ++ map (instance_fact (chosen y.env)) o))))) (process_instance (chosen y.env) p)))) { facts = adds taken.left right }) = step_embeds y.thread taken.ks σ left acts right run good
        (subst (λ u. AreEqualFacts th u left) (sym l_is) ((equal_facts laws) th (instance_facts σ l))) taken.takes
        (subst (λ u. AreFormsOfFacts th u acts) (sym a_is) ((forms_of_facts laws) th (instance_facts σ a)))
        (subst (λ u. AreFormsOfFacts th u right) (sym o_is) ((forms_of_facts laws) th (instance_facts σ o))) in
        let step : ProcessStep sig z.c acts (record (becomes z.c y.thread (Some inner)) { facts = adds taken.left right }) = subst (λ u. ProcessStep sig z.c acts (record (becomes z.c y.thread (Some u)) { facts = adds taken.left right })) thread step0 in
        let args : map σ (with_new v (facts_vars fs)) ≡ values (join y.env τ) = ap (λ u. map σ (with_new u (facts_vars fs))) (sym y.scope) ∙ longer_choice σ y.env agrees ns free own in
        subst (λ ts. (After laws sig start hold fine s full w clean ks rest σ good path v) (state_fact (first_of path) ts ∷ right) (embedded_acts acts)) (sym args)
        (record {
          agents = slice_set w.agents y.thread (Some (running (first_of path) (join y.env τ) p));
          pending = None;
          c = record (becomes z.c y.thread (Some (process_instance (chosen (join y.env τ)) p))) { facts = adds taken.left right };
          tr = z.tr ++ shown acts;
          reached = ProcessRun.further z.reached step;
          related = kept_embed sig start w.agents z.c z.tr s full z.related y.thread ks taken.ks path y.env τ l a o p left acts right rest taken.left uleft uacts uright refl good_τ free y.stands takes' taken.takes step;
        })

    pub law_event : (f : Fact) (p : Proc) → scoped_place_at (root start) path ≡ Some (place path v (act (action.event f) p)) → Takes s.facts ks (state_fact path (map σ v) ∷ []) rest → (After laws sig start hold fine s full w clean ks rest σ good path v) (state_fact (first_of path) (map σ v) ∷ []) (event_fact ∷ (nf_fact laws) (equations sig) (instance_fact σ f) ∷ [])
    law_event f p e takes =
        let z = flushed sig start s full w in
        let y = seat sig start w.agents None z.c z.tr s full z.related path v (act (action.event f) p) σ e (head_of takes) in
        let takes' = subst (λ ts. Takes s.facts ks (state_fact path ts ∷ []) rest) y.bound takes in
        let agrees : map σ (names y.env) ≡ values y.env = ap (λ u. map σ u) y.scope ∙ y.bound in
        let sound = fine path (place path v (act (action.event f) p)) e in
        let h : Fact = (nf_fact laws) (equations sig) (instance_fact σ f) in
        let same = put_fact_same σ y.env agrees f (subst (λ u. AllWithin u f.args) (sym y.scope) sound.1) in
        let form : IsFormOfFact (equations sig) (instance_fact (chosen y.env) f) h = subst (λ u. IsFormOfFact (equations sig) u h) same ((form_of_fact laws) (equations sig) (instance_fact σ f)) in
        let step : ProcessStep sig z.c (h ∷ []) (becomes z.c y.thread (Some (process_instance (chosen y.env) p))) = ProcessStep.shows y.thread (runs_as z.related y.thread (running path y.env (act (action.event f) p)) y.stands) form in
        subst (λ ts. (After laws sig start hold fine s full w clean ks rest σ good path v) (state_fact (first_of path) ts ∷ []) (event_fact ∷ h ∷ [])) (sym y.bound)
        (record {
          agents = _;
          pending = None;
          c = _;
          tr = _;
          reached = ProcessRun.further z.reached step;
          related = kept_event sig start w.agents z.c z.tr s full z.related y.thread ks path y.env f h p rest sound.0 y.stands takes';
        })

    pub law_new : (x : Var) (p : Proc) → scoped_place_at (root start) path ≡ Some (place path v (act (action.new x) p)) → Takes s.facts ks (state_fact path (map σ v) ∷ fresh_fact ((nf laws) (equations sig) (σ (fresh_var x))) ∷ []) rest → (After laws sig start hold fine s full w clean ks rest σ good path v) (state_fact (first_of path) (map σ (v ++ fresh_var x ∷ [])) ∷ []) []
    law_new x p e takes =
        let y = seat sig start w.agents w.pending w.c w.tr s full w.related path v (act (action.new x) p) σ e (head_of takes) in
        let agrees : map σ (names y.env) ≡ values y.env = ap (λ u. map σ u) y.scope ∙ y.bound in
        let sound = fine path (place path v (act (action.new x) p)) e in
        let drawn = fresh_fits (σ (fresh_var x)) (good (fresh_var x)).sorted in
        let n : ℕ = drawn.number in
        let given : (nf laws) (equations sig) (σ (fresh_var x)) ≡ fresh n = ap ((nf laws) (equations sig)) drawn.is ∙ (nf-fresh laws) (equations sig) n in
        let takes' = subst (λ t. Takes s.facts ks (state_fact path (values y.env) ∷ fresh_fact t ∷ []) rest) given (subst (λ ts. Takes s.facts ks (state_fact path ts ∷ fresh_fact ((nf laws) (equations sig) (σ (fresh_var x))) ∷ []) rest) y.bound takes) in
        let live = taken_each (λ f. LiveFact s.facts f) (λ k f g. record { number = k; is = g }) takes' (fresh_fact (fresh n)) (Member.later Member.here) in
        let absent : IsFree x (names y.env) = subst (λ u. IsFree x u) (sym y.scope) sound in
        let τ : Env = just (fresh_var x) (fresh n) in
        let q : Proc = process_instance (chosen τ) (process_instance (without (chosen y.env) x) p) in
        let step : ProcessStep sig w.c [] (makes (becomes w.c y.thread (Some q)) n) = step_makes_name y.thread n (runs_as w.related y.thread (running path y.env (act (action.new x) p)) y.stands) (is_new w.related n live) in
        let args : map σ (v ++ fresh_var x ∷ []) ≡ values (join y.env τ) = ap (λ u. map σ (u ++ fresh_var x ∷ [])) (sym y.scope) ∙ one_more σ y.env agrees (fresh_var x) (fresh n) absent drawn.is in
        subst (λ ts. (After laws sig start hold fine s full w clean ks rest σ good path v) (state_fact (first_of path) ts ∷ []) []) (sym args)
        (record {
          agents = _;
          pending = w.pending;
          c = _;
          tr = _;
          reached = ProcessRun.further w.reached step;
          related = (kept_new laws) sig start w.agents w.pending w.c w.tr s full w.related y.thread n ks path y.env x p rest absent y.stands takes' step;
        })
