-- The process follows the rules of places that end, branch, copy and put out.
use Rattle.sap_translate.proofs.Premises.LowerLaws.{Laws, has_normal_form, nf-reached, equal-from_nf, chain, back, nf}
use Rattle.sap_restrict.specs.ReservedFacts.{eq_fact, not_eq_fact}
use Rattle.sap_translate.specs.Members.{Member}
use Rattle.sap_translate.specs.relation.Shown.{MeetsSix}
use Rattle.sap_translate.proofs.Terms.Choices.{put_same}
use Rattle.sap_translate.proofs.Parts.Control.{copy_agent_of}
use Rattle.sap_translate.proofs.Traces.Demands.{other}
use Rattle.sap_translate.proofs.Shared.Inputs.{has_last}
use Rattle.sap_translate.proofs.Parts.Kept.{kept_nil, kept_par, kept_branch, kept_rep_start, kept_rep_copy, kept_out}
use Rattle.sap_translate.proofs.Traces.LockTraces.{no_lock_one}
use Rattle.sap_translate.proofs.Traces.Store.{no_write_one}
use Rattle.sap_translate.proofs.Parts.Tidy.{Tidy}
use Rattle.sap_translate.specs.relation.Envs.{names, chosen, values}
use Rattle.sap_translate.specs.Scoped.{Within}
use Rattle.sap_translate.specs.relation.Agents.{running, copying}
use Rattle.sap_place.specs.StateFacts.{state_fact, copies_fact}
use Rattle.sap_templates.specs.Places.{scoped_place_at, root, ScopedPlace}
use Rattle.sap_process.specs.Places.{place}
use Rattle.sap_templates.specs.Templates.{first_of, second_of}
use Rattle.sap_translate.specs.Sound.{SoundPlaces}
use Rattle.sap_process.specs.Configuration.{becomes, spawns, sends_out}
use Rattle.sap_process.specs.Instance.{process_instance}
use Rattle.sap_process.specs.Proc.{Proc, act}
use Rattle.sap_process.specs.ProcessSteps.{ProcessStep, ProcessRun}
use Rattle.sap_rule.specs.RuleSteps.{RuleState}
use Rattle.sap_terms.specs.AdversaryFacts.{k_fact, out_fact}
use Rattle.sap_terms.specs.Choice.{instance, Choice}
use Rattle.sap_terms.specs.Equal.{IsTheoryEqual}
use Rattle.sap_terms.specs.Message.{IsMessageChoice}
use Rattle.sap_terms.specs.Normal.{IsNormalForm}
use Rattle.sap_terms.specs.Piles.{Takes, adds}
use Rattle.sap_terms.specs.Signature.{Sig, HoldsBuiltins}
use Rattle.sap_terms.specs.Equations.{equations}
use Rattle.sap_terms.specs.Trace.{Trace}
use Rattle.sap_terms.specs.Tree.{Tree}
use Rattle.sap_terms.specs.declared.fact.Fact.{Fact}
use Rattle.sap_terms.specs.declared.var.Var.{Var}
use Rattle.std.proofs.Common.{◌≡◌, ℕ, List, [], ◌∷◌, ◌++◌, Option, Some, None, refl, sym, ap, ◌∙◌, slice_get, slice_set, subst, map}
use Rattle.std.specs.Prelude.{length}
use Rattle.sap_process.specs.Action as action
use Rattle.sap_process.specs.Proc as whole
use Rattle.sap_translate.proofs.Related.Common.{runs_as}
use Rattle.sap_translate.proofs.RulesToProcess.Followed.{Followed, head_of, same_forms, seat, some_spot}

module _ (laws : Laws) (sig : Sig) (start : Proc) (hold : HoldsBuiltins sig) (fine : SoundPlaces sig start) (s : RuleState) (full : Trace) (w : Followed sig start s full) (clean : Tidy (equations sig) s) where
  module _ (ks : List ℕ) (rest : List (Option Fact)) (σ : Choice) (good : IsMessageChoice sig σ) (path : List ℕ) (v : List Var) where
    abbrev pub After : List Fact → List Fact → Type 0
    After right acts = Followed sig start (record s { facts = adds rest right }) (full ++ acts ∷ [])

    pub law_nil : scoped_place_at (root start) path ≡ Some (place path v whole.nil) → Takes s.facts ks (state_fact path (map σ v) ∷ []) rest → After [] []
    law_nil e takes =
        let y = seat sig start w.agents w.pending w.c w.tr s full w.related path v whole.nil σ e (head_of takes) in
        let takes' = subst (λ ts. Takes s.facts ks (state_fact path ts ∷ []) rest) y.bound takes in
        let step : ProcessStep sig w.c [] (becomes w.c y.thread None) = ProcessStep.ends y.thread (runs_as w.related y.thread (running path y.env whole.nil) y.stands) in
        record {
          agents = _;
          pending = w.pending;
          c = _;
          tr = _;
          reached = ProcessRun.further w.reached step;
          related = (kept_nil laws) sig start w.agents w.pending w.c w.tr s full w.related y.thread ks path y.env rest y.stands takes' step;
        }

    pub law_par : (p q : Proc) → scoped_place_at (root start) path ≡ Some (place path v (whole.parallel p q)) → Takes s.facts ks (state_fact path (map σ v) ∷ []) rest → After (state_fact (first_of path) (map σ v) ∷ state_fact (second_of path) (map σ v) ∷ []) []
    law_par p q e takes =
        let y = seat sig start w.agents w.pending w.c w.tr s full w.related path v (whole.parallel p q) σ e (head_of takes) in
        let takes' = subst (λ ts. Takes s.facts ks (state_fact path ts ∷ []) rest) y.bound takes in
        let step : ProcessStep sig w.c [] (spawns (becomes w.c y.thread (Some (process_instance (chosen y.env) p))) (process_instance (chosen y.env) q)) = ProcessStep.splits y.thread (runs_as w.related y.thread (running path y.env (whole.parallel p q)) y.stands) in
        subst (λ ts. After (state_fact (first_of path) ts ∷ state_fact (second_of path) ts ∷ []) []) (sym y.bound)
        (record {
          agents = _;
          pending = w.pending;
          c = _;
          tr = _;
          reached = ProcessRun.further w.reached step;
          related = (kept_par laws) sig start w.agents w.pending w.c w.tr s full w.related y.thread ks path y.env p q rest y.stands takes' step;
        })

    pub law_rep_start : (p : Proc) → scoped_place_at (root start) path ≡ Some (place path v (whole.replicated p)) → Takes s.facts ks (state_fact path (map σ v) ∷ []) rest → After (copies_fact path (map σ v) ∷ []) []
    law_rep_start p e takes =
        let y = seat sig start w.agents w.pending w.c w.tr s full w.related path v (whole.replicated p) σ e (head_of takes) in
        let takes' = subst (λ ts. Takes s.facts ks (state_fact path ts ∷ []) rest) y.bound takes in
        subst (λ ts. After (copies_fact path ts ∷ []) []) (sym y.bound)
        (record {
          agents = slice_set w.agents y.thread (Some (copying path y.env p));
          pending = w.pending;
          c = w.c;
          tr = w.tr;
          reached = w.reached;
          related = (kept_rep_start laws) sig start w.agents w.pending w.c w.tr s full w.related y.thread ks path y.env p rest y.stands takes';
        })

    pub law_rep_copy : (p : Proc) → scoped_place_at (root start) path ≡ Some (place path v (whole.replicated p)) → Takes s.facts ks (copies_fact path (map σ v) ∷ []) rest → After (state_fact (first_of path) (map σ v) ∷ []) []
    law_rep_copy p e takes =
        let l = head_of takes in
        let st = copy_agent_of w.agents path (map σ v) s l.number w.related.facts l.is in
        let at = w.related.placed st.thread (copying path st.env st.body) st.is in
        let same : place path (names st.env) (whole.replicated st.body) ≡ place path v (whole.replicated p) = some_spot _ _ (sym at.0 ∙ e) in
        let reps : whole.replicated st.body ≡ whole.replicated p = ap (λ (z : ScopedPlace). z.body) same in
        let body : st.body ≡ p = cc in
        let stands : slice_get w.agents st.thread ≡ Some (Some (copying path st.env p)) = st.is ∙ ap (λ z. Some (Some (copying path st.env z))) body in
        let takes' = subst (λ ts. Takes s.facts ks (copies_fact path ts ∷ []) rest) st.bound takes in
        let step : ProcessStep sig w.c [] (spawns w.c (process_instance (chosen st.env) p)) = ProcessStep.copies st.thread (runs_as w.related st.thread (copying path st.env p) stands) in
        subst (λ ts. After (state_fact (first_of path) ts ∷ []) []) (sym st.bound)
        (record {
          agents = _;
          pending = w.pending;
          c = _;
          tr = _;
          reached = ProcessRun.further w.reached step;
          related = (kept_rep_copy laws) sig start w.agents w.pending w.c w.tr s full w.related st.thread ks path st.env p rest stands takes' step;
        })

    pub law_out : (m : Tree) (p : Proc) → scoped_place_at (root start) path ≡ Some (place path v (act (action.out m) p)) → Takes s.facts ks (state_fact path (map σ v) ∷ []) rest → After (out_fact ((nf laws) (equations sig) (instance σ m)) ∷ state_fact (first_of path) (map σ v) ∷ []) []
    law_out m p e takes =
        let y = seat sig start w.agents w.pending w.c w.tr s full w.related path v (act (action.out m) p) σ e (head_of takes) in
        let takes' = subst (λ ts. Takes s.facts ks (state_fact path ts ∷ []) rest) y.bound takes in
        let agrees : map σ (names y.env) ≡ values y.env = ap (λ z. map σ z) y.scope ∙ y.bound in
        let n : Tree = (nf laws) (equations sig) (instance σ m) in
        let sent = put_same σ y.env agrees m (subst (λ z. Within z m) (sym y.scope) (fine path (place path v (act (action.out m) p)) e)) in
        let form : IsNormalForm (equations sig) (instance (chosen y.env) m) n = subst (λ t. IsNormalForm (equations sig) t n) sent ((has_normal_form laws) (equations sig) (instance σ m)) in
        let step : ProcessStep sig w.c [] (sends_out (becomes w.c y.thread (Some (process_instance (chosen y.env) p))) n) = ProcessStep.outputs y.thread (runs_as w.related y.thread (running path y.env (act (action.out m) p)) y.stands) form in
        subst (λ ts. After (out_fact n ∷ state_fact (first_of path) ts ∷ []) []) (sym y.bound)
        (record {
          agents = _;
          pending = w.pending;
          c = _;
          tr = _;
          reached = ProcessRun.further w.reached step;
          related = (kept_out laws) sig start w.agents w.pending w.c w.tr s full w.related y.thread ks path y.env m n p rest y.stands takes' step;
        })

    pub law_then : (m n : Tree) (p q : Proc) → scoped_place_at (root start) path ≡ Some (place path v (whole.test m n p q)) → (x z : Tree) → (nf laws) (equations sig) (instance σ m) ≡ x → (nf laws) (equations sig) (instance σ n) ≡ z → MeetsSix (equations sig) (full ++ (eq_fact x z ∷ []) ∷ []) → Takes s.facts ks (state_fact path (map σ v) ∷ []) rest → After (state_fact (first_of path) (map σ v) ∷ []) (eq_fact x z ∷ [])
    law_then m n p q e x z x_is z_is demands takes =
        let y = seat sig start w.agents w.pending w.c w.tr s full w.related path v (whole.test m n p q) σ e (head_of takes) in
        let takes' = subst (λ ts. Takes s.facts ks (state_fact path ts ∷ []) rest) y.bound takes in
        let agrees : map σ (names y.env) ≡ values y.env = ap (λ z. map σ z) y.scope ∙ y.bound in
        let sound = fine path (place path v (whole.test m n p q)) e in
        let m_is = put_same σ y.env agrees m (subst (λ u. Within u m) (sym y.scope) sound.0) in
        let n_is = put_same σ y.env agrees n (subst (λ u. Within u n) (sym y.scope) sound.1) in
        let shown : IsTheoryEqual (equations sig) x z = demands.equal x z (length full) (has_last full (eq_fact x z ∷ []) (eq_fact x z) Member.here) in
        let equal : IsTheoryEqual (equations sig) (instance (chosen y.env) m) (instance (chosen y.env) n) = (equal-from_nf laws) (equations sig) (instance (chosen y.env) m) (instance (chosen y.env) n) (ap ((nf laws) (equations sig)) (sym m_is) ∙ x_is ∙ (same_forms laws) (equations sig) (instance σ m) (instance σ n) x z x_is z_is shown ∙ sym z_is ∙ ap ((nf laws) (equations sig)) n_is) in
        let step : ProcessStep sig w.c [] (becomes w.c y.thread (Some (process_instance (chosen y.env) p))) = ProcessStep.agrees y.thread (runs_as w.related y.thread (running path y.env (whole.test m n p q)) y.stands) equal in
        subst (λ ts. After (state_fact (first_of path) ts ∷ []) (eq_fact x z ∷ [])) (sym y.bound)
        (record {
          agents = _;
          pending = w.pending;
          c = _;
          tr = _;
          reached = ProcessRun.further w.reached step;
          related = (kept_branch laws) sig start w.agents w.pending w.c w.tr s full w.related y.thread ks path 1 y.env (whole.test m n p q) p rest (eq_fact x z ∷ []) (no_lock_one (eq_fact x z) refl) (λ o h. h.0) refl refl refl (λ i k. other (k_fact i) (eq_fact x z) refl k) demands (no_write_one (eq_fact x z) refl) y.stands takes' step;
        })

    pub law_else : (m n : Tree) (p q : Proc) → scoped_place_at (root start) path ≡ Some (place path v (whole.test m n p q)) → (x z : Tree) → (nf laws) (equations sig) (instance σ m) ≡ x → (nf laws) (equations sig) (instance σ n) ≡ z → MeetsSix (equations sig) (full ++ (not_eq_fact x z ∷ []) ∷ []) → Takes s.facts ks (state_fact path (map σ v) ∷ []) rest → After (state_fact (second_of path) (map σ v) ∷ []) (not_eq_fact x z ∷ [])
    law_else m n p q e x z x_is z_is demands takes =
        let y = seat sig start w.agents w.pending w.c w.tr s full w.related path v (whole.test m n p q) σ e (head_of takes) in
        let takes' = subst (λ ts. Takes s.facts ks (state_fact path ts ∷ []) rest) y.bound takes in
        let agrees : map σ (names y.env) ≡ values y.env = ap (λ z. map σ z) y.scope ∙ y.bound in
        let sound = fine path (place path v (whole.test m n p q)) e in
        let m_is = put_same σ y.env agrees m (subst (λ u. Within u m) (sym y.scope) sound.0) in
        let n_is = put_same σ y.env agrees n (subst (λ u. Within u n) (sym y.scope) sound.1) in
        let shown : IsTheoryEqual (equations sig) x z → ⊥ = demands.unequal x z (length full) (has_last full (not_eq_fact x z ∷ []) (not_eq_fact x z) Member.here) in
        let unequal : IsTheoryEqual (equations sig) (instance (chosen y.env) m) (instance (chosen y.env) n) → ⊥ = λ h. shown (subst (λ u. IsTheoryEqual (equations sig) u z) (ap ((nf laws) (equations sig)) (sym m_is) ∙ x_is) (subst (λ u. IsTheoryEqual (equations sig) ((nf laws) (equations sig) (instance (chosen y.env) m)) u) (ap ((nf laws) (equations sig)) (sym n_is) ∙ z_is) ((chain laws) ((back laws) ((nf-reached laws) (equations sig) (instance (chosen y.env) m))) ((chain laws) h ((nf-reached laws) (equations sig) (instance (chosen y.env) n)))))) in
        let step : ProcessStep sig w.c [] (becomes w.c y.thread (Some (process_instance (chosen y.env) q))) = ProcessStep.differs y.thread (runs_as w.related y.thread (running path y.env (whole.test m n p q)) y.stands) unequal in
        subst (λ ts. After (state_fact (second_of path) ts ∷ []) (not_eq_fact x z ∷ [])) (sym y.bound)
        (record {
          agents = _;
          pending = w.pending;
          c = _;
          tr = _;
          reached = ProcessRun.further w.reached step;
          related = (kept_branch laws) sig start w.agents w.pending w.c w.tr s full w.related y.thread ks path 2 y.env (whole.test m n p q) q rest (not_eq_fact x z ∷ []) (no_lock_one (not_eq_fact x z) refl) (λ o h. h.1) refl refl refl (λ i k. other (k_fact i) (not_eq_fact x z) refl k) demands (no_write_one (not_eq_fact x z) refl) y.stands takes' step;
        })
