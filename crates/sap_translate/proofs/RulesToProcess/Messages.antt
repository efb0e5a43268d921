-- The process follows the rules of messages.
use Rattle.sap_translate.proofs.Premises.LowerLaws.{Laws, has_normal_form, nf-reached, chain, back, nf}
use Rattle.sap_restrict.specs.ReservedFacts.{input_fact}
use Rattle.sap_translate.specs.Members.{Member}
use Rattle.sap_translate.specs.relation.Shown.{ShowsAt}
use Rattle.sap_restrict.specs.Sentences.{EachServed}
use Rattle.sap_translate.proofs.Terms.Choices.{good_bind, put_same, pattern_matches, longer_choice}
use Rattle.sap_translate.proofs.Parts.Control.{LiveFact}
use Rattle.sap_translate.proofs.Shared.Standing.{msg_owner}
use Rattle.sap_translate.proofs.Terms.Forms.{fresh_fits}
use Rattle.sap_translate.proofs.Shared.Inputs.{served_free}
use Rattle.sap_translate.proofs.Parts.Kept.{kept_in, kept_out_adv}
use Rattle.sap_translate.proofs.Parts.Owner.{owner, handshake}
use Rattle.sap_translate.proofs.Traces.Private.{kept_out_msg, kept_meet, kept_out_ack}
use Rattle.sap_translate.proofs.Terms.Steps.{step_inputs, step_inputs_on, step_meets}
use Rattle.sap_translate.proofs.Terms.Substitution.{new_first, after_pattern, new_free}
use Rattle.sap_translate.proofs.Shared.Takings.{taken_each}
use Rattle.sap_translate.proofs.Parts.Tidy.{Tidy}
use Rattle.sap_translate.specs.relation.Envs.{Env, names, chosen, values, join, bind}
use Rattle.sap_translate.specs.Scoped.{Within}
use Rattle.sap_templates.specs.ChannelFacts.{fresh_fact, msg_fact, ack_fact}
use Rattle.sap_translate.specs.relation.Agents.{running, awaiting, received}
use Rattle.sap_place.specs.StateFacts.{state_fact, waits_fact, tag}
use Rattle.sap_templates.specs.Places.{scoped_place_at, root}
use Rattle.sap_process.specs.Places.{place}
use Rattle.sap_templates.specs.Templates.{first_of}
use Rattle.sap_process.specs.Scopes.{with_new}
use Rattle.sap_translate.specs.Sound.{SoundPlaces}
use Rattle.sap_process.specs.Configuration.{Config, becomes, sends_out}
use Rattle.sap_process.specs.Instance.{process_instance}
use Rattle.sap_process.specs.Proc.{Proc, act}
use Rattle.sap_process.specs.ProcessSteps.{ProcessStep, ProcessRun}
use Rattle.sap_rule.specs.RuleSteps.{RuleState}
use Rattle.sap_terms.specs.AdversaryFacts.{k_fact, in_fact, out_fact}
use Rattle.sap_terms.specs.Choice.{instance, Choice}
use Rattle.sap_terms.specs.Equal.{IsTheoryEqual}
use Rattle.sap_terms.specs.Message.{IsMessageChoice}
use Rattle.sap_terms.specs.Normal.{IsNormalForm}
use Rattle.sap_terms.specs.Piles.{Takes}
use Rattle.sap_terms.specs.Signature.{Sig, HoldsBuiltins}
use Rattle.sap_terms.specs.Equations.{equations, app2, pair_name}
use Rattle.sap_terms.specs.Trace.{Trace, shown}
use Rattle.sap_terms.specs.Tree.{Tree, fresh}
use Rattle.sap_terms.specs.declared.fact.Fact.{Fact}
use Rattle.sap_terms.specs.declared.var.Var.{Var}
use Rattle.std.proofs.Common.{◌≡◌, ℕ, List, [], ◌∷◌, ◌++◌, Option, Some, None, refl, sym, ap, ◌∙◌, slice_set, subst, map}
use Rattle.sap_process.specs.Action as action
use Rattle.sap_process.specs.Sites.{var_names}
use Rattle.sap_terms.specs.Variables.{tree_vars, new_vars}
use Rattle.sap_translate.proofs.Related.Common.{runs_as}
use Rattle.sap_translate.proofs.RulesToProcess.Followed.{head_of, seat, waiting, Followed}
use Rattle.sap_translate.proofs.RulesToProcess.Control.{After}

module _ (laws : Laws) (sig : Sig) (start : Proc) (hold : HoldsBuiltins sig) (fine : SoundPlaces sig start) (s : RuleState) (full : Trace) (w : Followed sig start s full) (clean : Tidy (equations sig) s) where
  module _ (ks : List ℕ) (rest : List (Option Fact)) (σ : Choice) (good : IsMessageChoice sig σ) (path : List ℕ) (v : List Var) where
    pub law_in : (m : Tree) (p : Proc) → scoped_place_at (root start) path ≡ Some (place path v (act (action.input m) p)) → EachServed (ShowsAt (full ++ (input_fact ((nf laws) (equations sig) (instance σ m)) ∷ []) ∷ [])) → Takes s.facts ks (state_fact path (map σ v) ∷ in_fact ((nf laws) (equations sig) (instance σ m)) ∷ []) rest → (After laws sig start hold fine s full w clean ks rest σ good path v) (state_fact (first_of path) (map σ (with_new v (tree_vars m))) ∷ []) (input_fact ((nf laws) (equations sig) (instance σ m)) ∷ [])
    law_in m p e served takes =
        let u : Tree = (nf laws) (equations sig) (instance σ m) in
        let free = served_free full u served in
        let z = waiting sig start s full w u free in
        let y = seat sig start w.agents (Some u) z.c z.tr s full z.related path v (act (action.input m) p) σ e (head_of takes) in
        let at = z.related.placed y.thread (running path y.env (act (action.input m) p)) y.stands in
        let takes' = subst (λ ts. Takes s.facts ks (state_fact path ts ∷ in_fact u ∷ []) rest) y.bound takes in
        let agrees : map σ (names y.env) ≡ values y.env = ap (λ a. map σ a) y.scope ∙ y.bound in
        let ns = new_vars (var_names (names y.env)) (tree_vars m) in
        let new_free' = new_free (var_names (names y.env)) (tree_vars m) in
        let own = new_first σ (var_names (names y.env)) (tree_vars m) in
        let τ : Env = bind σ ns in
        let within : Within (names y.env ++ ns) m = subst (λ a. Within (with_new a (tree_vars m)) m) (sym y.scope) (fine path (place path v (act (action.input m) p)) e) in
        let run = runs_as z.related y.thread (running path y.env (act (action.input m) p)) y.stands in
        let matches : IsTheoryEqual (equations sig) (instance σ (instance (chosen y.env) m)) u = subst (λ t. IsTheoryEqual (equations sig) t u) (sym (pattern_matches σ y.env agrees ns new_free' own at.1.ground m within)) ((nf-reached laws) (equations sig) (instance σ m)) in
        let first : ProcessStep sig z.c (k_fact u ∷ []) (becomes z.c y.thread (Some (process_instance (chosen (bind σ (tree_vars (instance (chosen y.env) m)))) (process_instance (chosen y.env) p)))) = step_inputs y.thread σ run (z.related.traces.waiting u refl) (record { messages = good; equal = matches }) in
        let step : ProcessStep sig z.c (k_fact u ∷ []) (becomes z.c y.thread (Some (process_instance (chosen (join y.env τ)) p))) = subst (λ q. ProcessStep sig z.c (k_fact u ∷ []) (becomes z.c y.thread (Some q))) ((after_pattern laws) σ y.env at.1.ground m p) first in
        let args : map σ (with_new v (tree_vars m)) ≡ values (join y.env τ) = ap (λ a. map σ (with_new a (tree_vars m))) (sym y.scope) ∙ longer_choice σ y.env agrees ns new_free' own in
        subst (λ ts. (After laws sig start hold fine s full w clean ks rest σ good path v) (state_fact (first_of path) ts ∷ []) (input_fact u ∷ [])) (sym args)
        (record {
          agents = slice_set w.agents y.thread (Some (running (first_of path) (join y.env τ) p));
          pending = None;
          c = becomes z.c y.thread (Some (process_instance (chosen (join y.env τ)) p));
          tr = z.tr ++ shown (k_fact u ∷ []);
          reached = ProcessRun.further z.reached step;
          related = kept_in sig start w.agents u z.c z.tr s full z.related y.thread ks path y.env τ (act (action.input m) p) p (with_new (names y.env) (tree_vars m)) rest (λ o h. h) refl refl (good_bind sig σ ns own good) new_free' free y.stands takes';
        })

    pub law_in_adv : (l k : Tree) (p : Proc) → scoped_place_at (root start) path ≡ Some (place path v (act (action.receive l k) p)) → EachServed (ShowsAt (full ++ (input_fact ((nf laws) (equations sig) (instance σ (app2 pair_name l k))) ∷ []) ∷ [])) → Takes s.facts ks (state_fact path (map σ v) ∷ in_fact ((nf laws) (equations sig) (instance σ (app2 pair_name l k))) ∷ []) rest → (After laws sig start hold fine s full w clean ks rest σ good path v) (state_fact (first_of path) (map σ (with_new v (tree_vars k))) ∷ []) (input_fact ((nf laws) (equations sig) (instance σ (app2 pair_name l k))) ∷ [])
    law_in_adv l k p e served takes =
        let u : Tree = (nf laws) (equations sig) (instance σ (app2 pair_name l k)) in
        let free = served_free full u served in
        let z = waiting sig start s full w u free in
        let y = seat sig start w.agents (Some u) z.c z.tr s full z.related path v (act (action.receive l k) p) σ e (head_of takes) in
        let at = z.related.placed y.thread (running path y.env (act (action.receive l k) p)) y.stands in
        let takes' = subst (λ ts. Takes s.facts ks (state_fact path ts ∷ in_fact u ∷ []) rest) y.bound takes in
        let agrees : map σ (names y.env) ≡ values y.env = ap (λ a. map σ a) y.scope ∙ y.bound in
        let ns = new_vars (var_names (names y.env)) (tree_vars k) in
        let new_free' = new_free (var_names (names y.env)) (tree_vars k) in
        let own = new_first σ (var_names (names y.env)) (tree_vars k) in
        let τ : Env = bind σ ns in
        let sound = fine path (place path v (act (action.receive l k) p)) e in
        let within : Within (names y.env ++ ns) k = subst (λ a. Within (with_new a (tree_vars k)) k) (sym y.scope) sound.2 in
        let run = runs_as z.related y.thread (running path y.env (act (action.receive l k) p)) y.stands in
        let l_is = put_same σ y.env agrees l (subst (λ a. Within a l) (sym y.scope) sound.0) in
        let k_is = sym (pattern_matches σ y.env agrees ns new_free' own at.1.ground k within) in
        let matches : IsTheoryEqual (equations sig) (app2 pair_name (instance (chosen y.env) l) (instance σ (instance (chosen y.env) k))) u = subst (λ t. IsTheoryEqual (equations sig) t u) (λ i. app2 pair_name (l_is i) (k_is i)) ((nf-reached laws) (equations sig) (instance σ (app2 pair_name l k))) in
        let first : ProcessStep sig z.c (k_fact u ∷ []) (becomes z.c y.thread (Some (process_instance (chosen (bind σ (tree_vars (instance (chosen y.env) k)))) (process_instance (chosen y.env) p)))) = step_inputs_on y.thread σ run (z.related.traces.waiting u refl) good matches in
        let step : ProcessStep sig z.c (k_fact u ∷ []) (becomes z.c y.thread (Some (process_instance (chosen (join y.env τ)) p))) = subst (λ q. ProcessStep sig z.c (k_fact u ∷ []) (becomes z.c y.thread (Some q))) ((after_pattern laws) σ y.env at.1.ground k p) first in
        let args : map σ (with_new v (tree_vars k)) ≡ values (join y.env τ) = ap (λ a. map σ (with_new a (tree_vars k))) (sym y.scope) ∙ longer_choice σ y.env agrees ns new_free' own in
        subst (λ ts. (After laws sig start hold fine s full w clean ks rest σ good path v) (state_fact (first_of path) ts ∷ []) (input_fact u ∷ [])) (sym args)
        (record {
          agents = slice_set w.agents y.thread (Some (running (first_of path) (join y.env τ) p));
          pending = None;
          c = becomes z.c y.thread (Some (process_instance (chosen (join y.env τ)) p));
          tr = z.tr ++ shown (k_fact u ∷ []);
          reached = ProcessRun.further z.reached step;
          related = kept_in sig start w.agents u z.c z.tr s full z.related y.thread ks path y.env τ (act (action.receive l k) p) p (with_new (names y.env) (tree_vars k)) rest (λ o h. h) refl refl (good_bind sig σ ns own good) new_free' free y.stands takes';
        })

    pub law_out_adv : (m n : Tree) (p : Proc) → scoped_place_at (root start) path ≡ Some (place path v (act (action.send m n) p)) → EachServed (ShowsAt (full ++ (input_fact ((nf laws) (equations sig) (instance σ m)) ∷ []) ∷ [])) → Takes s.facts ks (state_fact path (map σ v) ∷ in_fact ((nf laws) (equations sig) (instance σ m)) ∷ []) rest → (After laws sig start hold fine s full w clean ks rest σ good path v) (out_fact ((nf laws) (equations sig) (instance σ n)) ∷ state_fact (first_of path) (map σ v) ∷ []) (input_fact ((nf laws) (equations sig) (instance σ m)) ∷ [])
    law_out_adv m n p e served takes =
        let u : Tree = (nf laws) (equations sig) (instance σ m) in
        let o : Tree = (nf laws) (equations sig) (instance σ n) in
        let free = served_free full u served in
        let z = waiting sig start s full w u free in
        let y = seat sig start w.agents (Some u) z.c z.tr s full z.related path v (act (action.send m n) p) σ e (head_of takes) in
        let takes' = subst (λ ts. Takes s.facts ks (state_fact path ts ∷ in_fact u ∷ []) rest) y.bound takes in
        let agrees : map σ (names y.env) ≡ values y.env = ap (λ a. map σ a) y.scope ∙ y.bound in
        let sound = fine path (place path v (act (action.send m n) p)) e in
        let m_is = put_same σ y.env agrees m (subst (λ a. Within a m) (sym y.scope) sound.0) in
        let n_is = put_same σ y.env agrees n (subst (λ a. Within a n) (sym y.scope) sound.1) in
        let run = runs_as z.related y.thread (running path y.env (act (action.send m n) p)) y.stands in
        let d : Config = sends_out (becomes z.c y.thread (Some (process_instance (chosen y.env) p))) o in
        let m_form : IsNormalForm (equations sig) (instance (chosen y.env) m) u = subst (λ t. IsNormalForm (equations sig) t u) m_is ((has_normal_form laws) (equations sig) (instance σ m)) in
        let n_form : IsNormalForm (equations sig) (instance (chosen y.env) n) o = subst (λ t. IsNormalForm (equations sig) t o) n_is ((has_normal_form laws) (equations sig) (instance σ n)) in
        let step : ProcessStep sig z.c (k_fact u ∷ []) d = ProcessStep.outputs_on y.thread run m_form (z.related.traces.waiting u refl) n_form in
        subst (λ ts. (After laws sig start hold fine s full w clean ks rest σ good path v) (out_fact o ∷ state_fact (first_of path) ts ∷ []) (input_fact u ∷ [])) (sym y.bound)
        (record {
          agents = slice_set w.agents y.thread (Some (running (first_of path) y.env p));
          pending = None;
          c = d;
          tr = z.tr ++ shown (k_fact u ∷ []);
          reached = ProcessRun.further z.reached step;
          related = kept_out_adv sig start w.agents u z.c z.tr s full z.related y.thread ks path y.env m n o p rest free y.stands takes';
        })

    pub law_out_msg : (m n : Tree) (p : Proc) → scoped_place_at (root start) path ≡ Some (place path v (act (action.send m n) p)) → Takes s.facts ks (state_fact path (map σ v) ∷ fresh_fact (σ tag) ∷ []) rest → (After laws sig start hold fine s full w clean ks rest σ good path v) (msg_fact (σ tag) ((nf laws) (equations sig) (instance σ m)) ((nf laws) (equations sig) (instance σ n)) ∷ waits_fact path (map σ v ++ σ tag ∷ []) ∷ []) []
    law_out_msg m n p e takes =
        let a : Tree = (nf laws) (equations sig) (instance σ m) in
        let o : Tree = (nf laws) (equations sig) (instance σ n) in
        let y = seat sig start w.agents w.pending w.c w.tr s full w.related path v (act (action.send m n) p) σ e (head_of takes) in
        let agrees : map σ (names y.env) ≡ values y.env = ap (λ u. map σ u) y.scope ∙ y.bound in
        let drawn = fresh_fits (σ tag) (good tag).sorted in
        let g : ℕ = drawn.number in
        let takes' = subst (λ t. Takes s.facts ks (state_fact path (values y.env) ∷ fresh_fact t ∷ []) rest) drawn.is (subst (λ ts. Takes s.facts ks (state_fact path ts ∷ fresh_fact (σ tag) ∷ []) rest) y.bound takes) in
        let sound = fine path (place path v (act (action.send m n) p)) e in
        let m_is = put_same σ y.env agrees m (subst (λ u. Within u m) (sym y.scope) sound.0) in
        let n_is = put_same σ y.env agrees n (subst (λ u. Within u n) (sym y.scope) sound.1) in
        let m_form : IsNormalForm (equations sig) (instance (chosen y.env) m) a = subst (λ t. IsNormalForm (equations sig) t a) m_is ((has_normal_form laws) (equations sig) (instance σ m)) in
        let n_form : IsNormalForm (equations sig) (instance (chosen y.env) n) o = subst (λ t. IsNormalForm (equations sig) t o) n_is ((has_normal_form laws) (equations sig) (instance σ n)) in
        let done : (After laws sig start hold fine s full w clean ks rest σ good path v) (msg_fact (fresh g) a o ∷ waits_fact path (values y.env ++ fresh g ∷ []) ∷ []) [] = record {
          agents = slice_set w.agents y.thread (Some (awaiting path y.env m n a o p g));
          pending = w.pending;
          c = w.c;
          tr = w.tr;
          reached = w.reached;
          related = kept_out_msg sig start w.agents w.pending w.c w.tr s full w.related y.thread g ks path y.env m n a o p rest m_form n_form y.stands takes';
        } in
        subst (λ t. (After laws sig start hold fine s full w clean ks rest σ good path v) (msg_fact t a o ∷ waits_fact path (map σ v ++ t ∷ []) ∷ []) []) (sym drawn.is)
        (subst (λ ts. (After laws sig start hold fine s full w clean ks rest σ good path v) (msg_fact (fresh g) a o ∷ waits_fact path (ts ++ fresh g ∷ []) ∷ []) []) (sym y.bound) done)

    pub law_in_msg : (l k : Tree) (q : Proc) → scoped_place_at (root start) path ≡ Some (place path v (act (action.receive l k) q)) → Takes s.facts ks (state_fact path (map σ v) ∷ msg_fact (σ tag) ((nf laws) (equations sig) (instance σ l)) ((nf laws) (equations sig) (instance σ k)) ∷ []) rest → (After laws sig start hold fine s full w clean ks rest σ good path v) (ack_fact (σ tag) ∷ state_fact (first_of path) (map σ (with_new v (tree_vars k))) ∷ []) []
    law_in_msg l k q e takes =
        let a : Tree = (nf laws) (equations sig) (instance σ l) in
        let m0 : Tree = (nf laws) (equations sig) (instance σ k) in
        let y = seat sig start w.agents w.pending w.c w.tr s full w.related path v (act (action.receive l k) q) σ e (head_of takes) in
        let at = w.related.placed y.thread (running path y.env (act (action.receive l k) q)) y.stands in
        let agrees : map σ (names y.env) ≡ values y.env = ap (λ u. map σ u) y.scope ∙ y.bound in
        let live = taken_each (λ f. LiveFact s.facts f) (λ i f g. record { number = i; is = g }) takes (msg_fact (σ tag) a m0) (Member.later Member.here) in
        let o = msg_owner w.agents (σ tag) a m0 (owner w.agents s live.number (msg_fact (σ tag) a m0) w.related.facts refl live.is) in
        let there = w.related.placed o.thread (awaiting o.path o.env o.m o.n a m0 o.body o.tag) o.is in
        let sound = fine path (place path v (act (action.receive l k) q)) e in
        let l_is = put_same σ y.env agrees l (subst (λ u. Within u l) (sym y.scope) sound.0) in
        let ns = new_vars (var_names (names y.env)) (tree_vars k) in
        let new_free' = new_free (var_names (names y.env)) (tree_vars k) in
        let own = new_first σ (var_names (names y.env)) (tree_vars k) in
        let τ : Env = bind σ ns in
        let within : Within (names y.env ++ ns) k = subst (λ a. Within (with_new a (tree_vars k)) k) (sym y.scope) sound.2 in
        let takes' = subst (λ ts. Takes s.facts ks (state_fact path ts ∷ msg_fact (fresh o.tag) a m0 ∷ []) rest) y.bound
        (subst (λ t. Takes s.facts ks (state_fact path (map σ v) ∷ msg_fact t a m0 ∷ []) rest) o.same takes) in
        let sends = runs_as w.related o.thread (awaiting o.path o.env o.m o.n a m0 o.body o.tag) o.is in
        let takes_it = runs_as w.related y.thread (running path y.env (act (action.receive l k) q)) y.stands in
        let inner : Proc = process_instance (chosen (join y.env τ)) q in
        let d : Config = becomes (becomes w.c o.thread (Some (process_instance (chosen o.env) o.body))) y.thread (Some inner) in
        let channel : IsTheoryEqual (equations sig) (instance (chosen o.env) o.m) (instance (chosen y.env) l) = subst (λ t. IsTheoryEqual (equations sig) (instance (chosen o.env) o.m) t) l_is ((chain laws) there.1.equal ((back laws) ((nf-reached laws) (equations sig) (instance σ l)))) in
        let message : IsTheoryEqual (equations sig) (instance σ (instance (chosen y.env) k)) (instance (chosen o.env) o.n) = subst (λ t. IsTheoryEqual (equations sig) t (instance (chosen o.env) o.n)) (sym (pattern_matches σ y.env agrees ns new_free' own at.1.ground k within)) ((chain laws) ((nf-reached laws) (equations sig) (instance σ k)) ((back laws) there.2.equal)) in
        let first : ProcessStep sig w.c [] (becomes (becomes w.c o.thread (Some (process_instance (chosen o.env) o.body))) y.thread (Some (process_instance (chosen (bind σ (tree_vars (instance (chosen y.env) k)))) (process_instance (chosen y.env) q)))) = step_meets o.thread y.thread σ sends takes_it channel (record { messages = good; equal = message }) in
        let step : ProcessStep sig w.c [] d = subst (λ u. ProcessStep sig w.c [] (becomes (becomes w.c o.thread (Some (process_instance (chosen o.env) o.body))) y.thread (Some u))) ((after_pattern laws) σ y.env at.1.ground k q) first in
        let args : map σ (with_new v (tree_vars k)) ≡ values (join y.env τ) = ap (λ a. map σ (with_new a (tree_vars k))) (sym y.scope) ∙ longer_choice σ y.env agrees ns new_free' own in
        let done : (After laws sig start hold fine s full w clean ks rest σ good path v) (ack_fact (fresh o.tag) ∷ state_fact (first_of path) (values (join y.env τ)) ∷ []) [] = record {
          agents = slice_set (slice_set w.agents o.thread (Some (received o.path o.env o.m o.n o.body o.tag))) y.thread (Some (running (first_of path) (join y.env τ) q));
          pending = w.pending;
          c = d;
          tr = w.tr ++ [];
          reached = ProcessRun.further w.reached step;
          related = kept_meet sig start w.agents w.pending w.c w.tr s full w.related o.thread y.thread o.tag ks o.path path o.env y.env τ o.m o.n a m0 l k o.body q rest o.is y.stands refl (good_bind sig σ ns own good) takes' step;
        } in
        subst (λ t. (After laws sig start hold fine s full w clean ks rest σ good path v) (ack_fact t ∷ state_fact (first_of path) (map σ (with_new v (tree_vars k))) ∷ []) []) (sym o.same)
        (subst (λ ts. (After laws sig start hold fine s full w clean ks rest σ good path v) (ack_fact (fresh o.tag) ∷ state_fact (first_of path) ts ∷ []) []) (sym args) done)

    pub law_out_ack : (m n : Tree) (p : Proc) → scoped_place_at (root start) path ≡ Some (place path v (act (action.send m n) p)) → Takes s.facts ks (waits_fact path (map σ v ++ σ tag ∷ []) ∷ ack_fact (σ tag) ∷ []) rest → (After laws sig start hold fine s full w clean ks rest σ good path v) (state_fact (first_of path) (map σ v) ∷ []) []
    law_out_ack m n p e takes =
        let l = head_of takes in
        let a = taken_each (λ f. LiveFact s.facts f) (λ i f g. record { number = i; is = g }) takes (ack_fact (σ tag)) (Member.later Member.here) in
        let h = handshake w.agents w.c s l.number a.number path (σ tag) (map σ v) w.related.facts w.related.names l.is a.is in
        let at = w.related.placed h.thread (received path h.env h.m h.n h.body h.tag) h.is in
        let takes' = subst (λ ts. Takes s.facts ks (waits_fact path (ts ++ fresh h.tag ∷ []) ∷ ack_fact (fresh h.tag) ∷ []) rest) h.bound (subst (λ t. Takes s.facts ks (waits_fact path (map σ v ++ t ∷ []) ∷ ack_fact t ∷ []) rest) h.same takes) in
        subst (λ ts. (After laws sig start hold fine s full w clean ks rest σ good path v) (state_fact (first_of path) ts ∷ []) []) (sym h.bound)
        (record {
          agents = slice_set w.agents h.thread (Some (running (first_of path) h.env h.body));
          pending = w.pending;
          c = w.c;
          tr = w.tr;
          reached = w.reached;
          related = kept_out_ack sig start w.agents w.pending w.c w.tr s full w.related h.thread h.tag ks path h.env h.m h.n h.body rest h.is takes';
        })
