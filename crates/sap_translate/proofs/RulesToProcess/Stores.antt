-- The process follows the rules of the store and of locks.
use Rattle.sap_translate.proofs.Premises.LowerLaws.{Laws, nf-fresh, has_normal_form, nf-fixed, nf}
use Rattle.sap_restrict.specs.ReservedFacts.{insert_fact, delete_fact, is_in_fact, is_not_set_fact, lock_fact, unlock_fact}
use Rattle.sap_translate.specs.Members.{Member}
use Rattle.sap_translate.specs.relation.Shown.{MeetsSix}
use Rattle.sap_translate.proofs.Terms.Choices.{agree_of, put_same, one_more}
use Rattle.sap_translate.proofs.Traces.Demands.{other}
use Rattle.sap_translate.proofs.Terms.Forms.{fresh_fits}
use Rattle.sap_translate.proofs.Terms.Grounds.{put_message}
use Rattle.sap_translate.proofs.Parts.Kept.{kept_branch, kept_store, kept_found}
use Rattle.sap_translate.proofs.Parts.KeptLocks.{kept_lock, kept_unlock}
use Rattle.sap_translate.proofs.Traces.LockTraces.{no_lock_one, lock_now}
use Rattle.sap_translate.proofs.Traces.Store.{no_write_one, store_insert, store_delete, store_quiet, found_now, missed_now, found_is, missed_is}
use Rattle.sap_translate.proofs.Terms.Steps.{step_finds}
use Rattle.sap_translate.proofs.Parts.Tidy.{Tidy}
use Rattle.sap_translate.specs.relation.Envs.{Env, names, chosen, values, just, join}
use Rattle.sap_translate.specs.Scoped.{Within, IsFree}
use Rattle.sap_templates.specs.ChannelFacts.{fresh_fact}
use Rattle.sap_translate.specs.relation.Agents.{running}
use Rattle.sap_place.specs.StateFacts.{state_fact}
use Rattle.sap_templates.specs.Places.{scoped_place_at, root}
use Rattle.sap_process.specs.Places.{place}
use Rattle.sap_templates.specs.Templates.{first_of, second_of}
use Rattle.sap_process.specs.Scopes.{lock_var}
use Rattle.sap_translate.specs.Sound.{SoundPlaces}
use Rattle.sap_process.specs.Configuration.{becomes, stores, stored, holding}
use Rattle.sap_process.specs.Instance.{process_instance, without}
use Rattle.sap_process.specs.Proc.{Proc, act}
use Rattle.sap_process.specs.ProcessSteps.{ProcessStep, ProcessRun}
use Rattle.sap_rule.specs.RuleSteps.{RuleState}
use Rattle.sap_terms.specs.AdversaryFacts.{k_fact}
use Rattle.sap_terms.specs.Choice.{instance, Choice}
use Rattle.sap_terms.specs.Message.{IsMessageChoice}
use Rattle.sap_terms.specs.Normal.{IsNormalForm}
use Rattle.sap_terms.specs.Piles.{Takes}
use Rattle.sap_terms.specs.Signature.{Sig, HoldsBuiltins}
use Rattle.sap_terms.specs.Equations.{equations}
use Rattle.sap_terms.specs.Trace.{Trace}
use Rattle.sap_terms.specs.Tree.{Tree, fresh}
use Rattle.sap_terms.specs.declared.fact.Fact.{Fact}
use Rattle.sap_terms.specs.declared.var.Var.{Var}
use Rattle.std.proofs.Common.{◌≡◌, ℕ, List, [], ◌∷◌, ◌++◌, Option, Some, None, refl, sym, ap, ◌∙◌, true, slice_set, subst, map, false}
use Rattle.sap_process.specs.Action as action
use Rattle.sap_process.specs.Proc as whole
use Rattle.sap_process.specs.Sites.{message_var}
use Rattle.sap_translate.proofs.Related.Common.{runs_as}
use Rattle.sap_translate.proofs.RulesToProcess.Followed.{head_of, seat, Followed, not_held}
use Rattle.sap_translate.proofs.RulesToProcess.Control.{After}

module _ (laws : Laws) (sig : Sig) (start : Proc) (hold : HoldsBuiltins sig) (fine : SoundPlaces sig start) (s : RuleState) (full : Trace) (w : Followed sig start s full) (clean : Tidy (equations sig) s) where
  module _ (ks : List ℕ) (rest : List (Option Fact)) (σ : Choice) (good : IsMessageChoice sig σ) (path : List ℕ) (v : List Var) where
    pub law_insert : (m n : Tree) (p : Proc) → scoped_place_at (root start) path ≡ Some (place path v (act (action.insert m n) p)) → (x z : Tree) → (nf laws) (equations sig) (instance σ m) ≡ x → (nf laws) (equations sig) (instance σ n) ≡ z → MeetsSix (equations sig) (full ++ (insert_fact x z ∷ []) ∷ []) → Takes s.facts ks (state_fact path (map σ v) ∷ []) rest → (After laws sig start hold fine s full w clean ks rest σ good path v) (state_fact (first_of path) (map σ v) ∷ []) (insert_fact x z ∷ [])
    law_insert m n p e x z x_is z_is demands takes =
        let y = seat sig start w.agents w.pending w.c w.tr s full w.related path v (act (action.insert m n) p) σ e (head_of takes) in
        let at = w.related.placed y.thread (running path y.env (act (action.insert m n) p)) y.stands in
        let takes' = subst (λ ts. Takes s.facts ks (state_fact path ts ∷ []) rest) y.bound takes in
        let agrees : map σ (names y.env) ≡ values y.env = ap (λ z. map σ z) y.scope ∙ y.bound in
        let sound = fine path (place path v (act (action.insert m n) p)) e in
        let run = runs_as w.related y.thread (running path y.env (act (action.insert m n) p)) y.stands in
        let m_is = put_same σ y.env agrees m (subst (λ u. Within u m) (sym y.scope) sound.0) in
        let m_form : IsNormalForm (equations sig) (instance (chosen y.env) m) x = subst (λ t. IsNormalForm (equations sig) t x) m_is (subst (λ u. IsNormalForm (equations sig) (instance σ m) u) x_is ((has_normal_form laws) (equations sig) (instance σ m))) in
        let n_is = put_same σ y.env agrees n (subst (λ u. Within u n) (sym y.scope) sound.1) in
        let n_form : IsNormalForm (equations sig) (instance (chosen y.env) n) z = subst (λ t. IsNormalForm (equations sig) t z) n_is (subst (λ u. IsNormalForm (equations sig) (instance σ n) u) z_is ((has_normal_form laws) (equations sig) (instance σ n))) in
        let message = (put_message laws) sig y.env n z hold at.1 (subst (λ u. Within u n) (sym y.scope) sound.1) sound.2 n_form in
        let later : Tree → Option Tree = stored w.c.store x (Some z) in
        let step : ProcessStep sig w.c [] (stores (becomes w.c y.thread (Some (process_instance (chosen y.env) p))) x (Some z)) = ProcessStep.inserts y.thread run m_form n_form in
        subst (λ ts. (After laws sig start hold fine s full w clean ks rest σ good path v) (state_fact (first_of path) ts ∷ []) (insert_fact x z ∷ [])) (sym y.bound)
        (record {
          agents = slice_set w.agents y.thread (Some (running (first_of path) y.env p));
          pending = w.pending;
          c = stores (becomes w.c y.thread (Some (process_instance (chosen y.env) p))) x (Some z);
          tr = w.tr ++ [];
          reached = ProcessRun.further w.reached step;
          related = (kept_store laws) sig start w.agents w.pending w.c w.tr s full w.related y.thread ks path y.env (act (action.insert m n) p) p rest (insert_fact x z ∷ []) later (no_lock_one (insert_fact x z) refl) (λ o h. h) refl refl refl (λ i k. other (k_fact i) (insert_fact x z) refl k) demands (store_insert sig w.c.store full x z w.related.traces.store message) y.stands takes' step;
        })

    pub law_delete : (m : Tree) (p : Proc) → scoped_place_at (root start) path ≡ Some (place path v (act (action.delete m) p)) → (x : Tree) → (nf laws) (equations sig) (instance σ m) ≡ x → MeetsSix (equations sig) (full ++ (delete_fact x ∷ []) ∷ []) → Takes s.facts ks (state_fact path (map σ v) ∷ []) rest → (After laws sig start hold fine s full w clean ks rest σ good path v) (state_fact (first_of path) (map σ v) ∷ []) (delete_fact x ∷ [])
    law_delete m p e x x_is demands takes =
        let y = seat sig start w.agents w.pending w.c w.tr s full w.related path v (act (action.delete m) p) σ e (head_of takes) in
        let at = w.related.placed y.thread (running path y.env (act (action.delete m) p)) y.stands in
        let takes' = subst (λ ts. Takes s.facts ks (state_fact path ts ∷ []) rest) y.bound takes in
        let agrees : map σ (names y.env) ≡ values y.env = ap (λ z. map σ z) y.scope ∙ y.bound in
        let sound = fine path (place path v (act (action.delete m) p)) e in
        let run = runs_as w.related y.thread (running path y.env (act (action.delete m) p)) y.stands in
        let m_is = put_same σ y.env agrees m (subst (λ u. Within u m) (sym y.scope) sound) in
        let m_form : IsNormalForm (equations sig) (instance (chosen y.env) m) x = subst (λ t. IsNormalForm (equations sig) t x) m_is (subst (λ u. IsNormalForm (equations sig) (instance σ m) u) x_is ((has_normal_form laws) (equations sig) (instance σ m))) in
        let later : Tree → Option Tree = stored w.c.store x None in
        let step : ProcessStep sig w.c [] (stores (becomes w.c y.thread (Some (process_instance (chosen y.env) p))) x None) = ProcessStep.deletes y.thread run m_form in
        subst (λ ts. (After laws sig start hold fine s full w clean ks rest σ good path v) (state_fact (first_of path) ts ∷ []) (delete_fact x ∷ [])) (sym y.bound)
        (record {
          agents = slice_set w.agents y.thread (Some (running (first_of path) y.env p));
          pending = w.pending;
          c = stores (becomes w.c y.thread (Some (process_instance (chosen y.env) p))) x None;
          tr = w.tr ++ [];
          reached = ProcessRun.further w.reached step;
          related = (kept_store laws) sig start w.agents w.pending w.c w.tr s full w.related y.thread ks path y.env (act (action.delete m) p) p rest (delete_fact x ∷ []) later (no_lock_one (delete_fact x) refl) (λ o h. h) refl refl refl (λ i k. other (k_fact i) (delete_fact x) refl k) demands (store_delete sig w.c.store full x w.related.traces.store) y.stands takes' step;
        })

    pub law_lock : (m : Tree) (l : ℕ) (p : Proc) → scoped_place_at (root start) path ≡ Some (place path v (act (action.lock m l) p)) → (x : Tree) → (nf laws) (equations sig) (instance σ m) ≡ x → MeetsSix (equations sig) (full ++ (lock_fact ((nf laws) (equations sig) (σ (lock_var l))) x ∷ []) ∷ []) → Takes s.facts ks (state_fact path (map σ v) ∷ fresh_fact ((nf laws) (equations sig) (σ (lock_var l))) ∷ []) rest → (After laws sig start hold fine s full w clean ks rest σ good path v) (state_fact (first_of path) (map σ (v ++ lock_var l ∷ [])) ∷ []) (lock_fact ((nf laws) (equations sig) (σ (lock_var l))) x ∷ [])
    law_lock m l p e x x_is demands takes =
        let y = seat sig start w.agents w.pending w.c w.tr s full w.related path v (act (action.lock m l) p) σ e (head_of takes) in
        let at = w.related.placed y.thread (running path y.env (act (action.lock m l) p)) y.stands in
        let agrees : map σ (names y.env) ≡ values y.env = ap (λ u. map σ u) y.scope ∙ y.bound in
        let sound = fine path (place path v (act (action.lock m l) p)) e in
        let within : Within (names y.env) m = subst (λ u. Within u m) (sym y.scope) sound.0 in
        let drawn = fresh_fits (σ (lock_var l)) (good (lock_var l)).sorted in
        let n : ℕ = drawn.number in
        let given : (nf laws) (equations sig) (σ (lock_var l)) ≡ fresh n = ap ((nf laws) (equations sig)) drawn.is ∙ (nf-fresh laws) (equations sig) n in
        let takes' = subst (λ t. Takes s.facts ks (state_fact path (values y.env) ∷ fresh_fact t ∷ []) rest) given (subst (λ ts. Takes s.facts ks (state_fact path ts ∷ fresh_fact ((nf laws) (equations sig) (σ (lock_var l))) ∷ []) rest) y.bound takes) in
        let absent : IsFree (lock_var l) (names y.env) = subst (λ u. IsFree (lock_var l) u) (sym y.scope) sound.1 in
        let τ : Env = just (lock_var l) (fresh n) in
        let run = runs_as w.related y.thread (running path y.env (act (action.lock m l) p)) y.stands in
        let m_is = put_same σ y.env agrees m within in
        let m_form : IsNormalForm (equations sig) (instance (chosen y.env) m) x = subst (λ t. IsNormalForm (equations sig) t x) m_is (subst (λ u. IsNormalForm (equations sig) (instance σ m) u) x_is ((has_normal_form laws) (equations sig) (instance σ m))) in
        let free : w.c.held x ≡ false = not_held w.related x (w.c.held x) refl (lock_now full ((nf laws) (equations sig) (σ (lock_var l))) x demands.lock) in
        let step : ProcessStep sig w.c [] (holding (becomes w.c y.thread (Some (process_instance (chosen y.env) p))) x true) = ProcessStep.locks y.thread run m_form free in
        let args : map σ (v ++ lock_var l ∷ []) ≡ values (join y.env τ) = ap (λ u. map σ (u ++ lock_var l ∷ [])) (sym y.scope) ∙ one_more σ y.env agrees (lock_var l) (fresh n) absent drawn.is in
        subst (λ ts. (After laws sig start hold fine s full w clean ks rest σ good path v) (state_fact (first_of path) ts ∷ []) (lock_fact ((nf laws) (equations sig) (σ (lock_var l))) x ∷ [])) (sym args)
        (subst (λ z. (After laws sig start hold fine s full w clean ks rest σ good path v) (state_fact (first_of path) (values (join y.env τ)) ∷ []) (lock_fact z x ∷ [])) (sym given)
        (record {
          agents = slice_set w.agents y.thread (Some (running (first_of path) (join y.env τ) p));
          pending = w.pending;
          c = holding (becomes w.c y.thread (Some (process_instance (chosen y.env) p))) x true;
          tr = w.tr ++ [];
          reached = ProcessRun.further w.reached step;
          related = (kept_lock laws) sig start w.agents w.pending w.c w.tr s full w.related y.thread n ks path y.env m l p x rest absent sound.2 within m_form free y.stands takes' step;
        }))

    pub law_unlock : (m : Tree) (l : ℕ) (p : Proc) → scoped_place_at (root start) path ≡ Some (place path v (act (action.unlock m l) p)) → (x : Tree) → (nf laws) (equations sig) (instance σ m) ≡ x → Takes s.facts ks (state_fact path (map σ v) ∷ []) rest → (After laws sig start hold fine s full w clean ks rest σ good path v) (state_fact (first_of path) (map σ v) ∷ []) (unlock_fact ((nf laws) (equations sig) (σ (lock_var l))) x ∷ [])
    law_unlock m l p e x x_is takes =
        let y = seat sig start w.agents w.pending w.c w.tr s full w.related path v (act (action.unlock m l) p) σ e (head_of takes) in
        let takes' = subst (λ ts. Takes s.facts ks (state_fact path ts ∷ []) rest) y.bound takes in
        let agrees : map σ (names y.env) ≡ values y.env = ap (λ z. map σ z) y.scope ∙ y.bound in
        let sound = fine path (place path v (act (action.unlock m l) p)) e in
        let run = runs_as w.related y.thread (running path y.env (act (action.unlock m l) p)) y.stands in
        let m_is = put_same σ y.env agrees m (subst (λ u. Within u m) (sym y.scope) sound.0) in
        let m_form : IsNormalForm (equations sig) (instance (chosen y.env) m) x = subst (λ t. IsNormalForm (equations sig) t x) m_is (subst (λ u. IsNormalForm (equations sig) (instance σ m) u) x_is ((has_normal_form laws) (equations sig) (instance σ m))) in
        let given : y.env.choice (lock_var l) ≡ (nf laws) (equations sig) (σ (lock_var l)) = sym (agree_of σ y.env.choice (names y.env) agrees (lock_var l) (subst (λ u. Member (lock_var l) u) (sym y.scope) sound.1)) ∙ sym ((nf-fixed laws) (equations sig) (σ (lock_var l)) (good (lock_var l)).normal) in
        let step : ProcessStep sig w.c [] (holding (becomes w.c y.thread (Some (process_instance (chosen y.env) p))) x false) = ProcessStep.unlocks y.thread run m_form in
        subst (λ ts. (After laws sig start hold fine s full w clean ks rest σ good path v) (state_fact (first_of path) ts ∷ []) (unlock_fact ((nf laws) (equations sig) (σ (lock_var l))) x ∷ [])) (sym y.bound)
        (record {
          agents = slice_set w.agents y.thread (Some (running (first_of path) y.env p));
          pending = w.pending;
          c = holding (becomes w.c y.thread (Some (process_instance (chosen y.env) p))) x false;
          tr = w.tr ++ [];
          reached = ProcessRun.further w.reached step;
          related = (kept_unlock laws) sig start w.agents w.pending w.c w.tr s full w.related y.thread ks path y.env m l p x ((nf laws) (equations sig) (σ (lock_var l))) rest given m_form y.stands takes' step;
        })

    pub law_missing : (m : Tree) (a : Var) (p q : Proc) → scoped_place_at (root start) path ≡ Some (place path v (whole.lookup m a p q)) → (x : Tree) → (nf laws) (equations sig) (instance σ m) ≡ x → MeetsSix (equations sig) (full ++ (is_not_set_fact x ∷ []) ∷ []) → Takes s.facts ks (state_fact path (map σ v) ∷ []) rest → (After laws sig start hold fine s full w clean ks rest σ good path v) (state_fact (second_of path) (map σ v) ∷ []) (is_not_set_fact x ∷ [])
    law_missing m a p q e x x_is demands takes =
        let y = seat sig start w.agents w.pending w.c w.tr s full w.related path v (whole.lookup m a p q) σ e (head_of takes) in
        let at = w.related.placed y.thread (running path y.env (whole.lookup m a p q)) y.stands in
        let takes' = subst (λ ts. Takes s.facts ks (state_fact path ts ∷ []) rest) y.bound takes in
        let agrees : map σ (names y.env) ≡ values y.env = ap (λ z. map σ z) y.scope ∙ y.bound in
        let sound = fine path (place path v (whole.lookup m a p q)) e in
        let run = runs_as w.related y.thread (running path y.env (whole.lookup m a p q)) y.stands in
        let m_is = put_same σ y.env agrees m (subst (λ u. Within u m) (sym y.scope) sound.0) in
        let m_form : IsNormalForm (equations sig) (instance (chosen y.env) m) x = subst (λ t. IsNormalForm (equations sig) t x) m_is (subst (λ u. IsNormalForm (equations sig) (instance σ m) u) x_is ((has_normal_form laws) (equations sig) (instance σ m))) in
        let absent = missed_is sig w.c.store full x w.related.traces.store (missed_now full x demands.missed) in
        let step : ProcessStep sig w.c [] (becomes w.c y.thread (Some (process_instance (chosen y.env) q))) = ProcessStep.misses y.thread run m_form absent in
        subst (λ ts. (After laws sig start hold fine s full w clean ks rest σ good path v) (state_fact (second_of path) ts ∷ []) (is_not_set_fact x ∷ [])) (sym y.bound)
        (record {
          agents = slice_set w.agents y.thread (Some (running (second_of path) y.env q));
          pending = w.pending;
          c = becomes w.c y.thread (Some (process_instance (chosen y.env) q));
          tr = w.tr ++ [];
          reached = ProcessRun.further w.reached step;
          related = (kept_branch laws) sig start w.agents w.pending w.c w.tr s full w.related y.thread ks path 2 y.env (whole.lookup m a p q) q rest (is_not_set_fact x ∷ []) (no_lock_one (is_not_set_fact x) refl) (λ o h. h.1) refl refl refl (λ i k. other (k_fact i) (is_not_set_fact x) refl k) demands (no_write_one (is_not_set_fact x) refl) y.stands takes' step;
        })

    pub law_found : (m : Tree) (a : Var) (p q : Proc) → scoped_place_at (root start) path ≡ Some (place path v (whole.lookup m a p q)) → (x : Tree) → (nf laws) (equations sig) (instance σ m) ≡ x → MeetsSix (equations sig) (full ++ (is_in_fact x (σ (message_var a)) ∷ []) ∷ []) → Takes s.facts ks (state_fact path (map σ v) ∷ []) rest → (After laws sig start hold fine s full w clean ks rest σ good path v) (state_fact (first_of path) (map σ (v ++ message_var a ∷ [])) ∷ []) (is_in_fact x (σ (message_var a)) ∷ [])
    law_found m a p q e x x_is demands takes =
        let y = seat sig start w.agents w.pending w.c w.tr s full w.related path v (whole.lookup m a p q) σ e (head_of takes) in
        let at = w.related.placed y.thread (running path y.env (whole.lookup m a p q)) y.stands in
        let takes' = subst (λ ts. Takes s.facts ks (state_fact path ts ∷ []) rest) y.bound takes in
        let agrees : map σ (names y.env) ≡ values y.env = ap (λ z. map σ z) y.scope ∙ y.bound in
        let sound = fine path (place path v (whole.lookup m a p q)) e in
        let run = runs_as w.related y.thread (running path y.env (whole.lookup m a p q)) y.stands in
        let m_is = put_same σ y.env agrees m (subst (λ u. Within u m) (sym y.scope) sound.0) in
        let m_form : IsNormalForm (equations sig) (instance (chosen y.env) m) x = subst (λ t. IsNormalForm (equations sig) t x) m_is (subst (λ u. IsNormalForm (equations sig) (instance σ m) u) x_is ((has_normal_form laws) (equations sig) (instance σ m))) in
        let held = found_is sig w.c.store full x (σ (message_var a)) w.related.traces.store (found_now full x (σ (message_var a)) demands.found) in
        let absent : IsFree a (names y.env) = subst (λ u. IsFree a u) (sym y.scope) sound.1 in
        let τ : Env = just (message_var a) (σ (message_var a)) in
        let inner : Proc = process_instance (chosen τ) (process_instance (without (chosen y.env) a) p) in
        let step : ProcessStep sig w.c [] (becomes w.c y.thread (Some inner)) = step_finds y.thread run m_form held in
        let args : map σ (v ++ message_var a ∷ []) ≡ values (join y.env τ) = ap (λ u. map σ (u ++ message_var a ∷ [])) (sym y.scope) ∙ one_more σ y.env agrees (message_var a) (σ (message_var a)) absent refl in
        subst (λ ts. (After laws sig start hold fine s full w clean ks rest σ good path v) (state_fact (first_of path) ts ∷ []) (is_in_fact x (σ (message_var a)) ∷ [])) (sym args)
        (record {
          agents = slice_set w.agents y.thread (Some (running (first_of path) (join y.env τ) p));
          pending = w.pending;
          c = becomes w.c y.thread (Some inner);
          tr = w.tr ++ [];
          reached = ProcessRun.further w.reached step;
          related = (kept_found laws) sig start w.agents w.pending w.c w.tr s full w.related y.thread ks path y.env m a (σ (message_var a)) p q rest (is_in_fact x (σ (message_var a)) ∷ []) (no_lock_one (is_in_fact x (σ (message_var a))) refl) absent (good (message_var a)) refl refl (λ i k. other (k_fact i) (is_in_fact x (σ (message_var a))) refl k) demands (store_quiet sig w.c.store full (is_in_fact x (σ (message_var a)) ∷ []) w.related.traces.store (no_write_one (is_in_fact x (σ (message_var a))) refl)) y.stands takes' step;
        })
