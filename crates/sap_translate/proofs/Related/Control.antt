-- What answers the steps that end, branch, copy, put out and show.
use Rattle.sap_translate.proofs.Premises.LowerLaws.{Laws, one_normal_form, nf, chain, back}
use Rattle.sap_restrict.specs.ReservedFacts.{event_fact, eq_fact, not_eq_fact}
use Rattle.sap_translate.specs.Members.{Member}
use Rattle.sap_translate.proofs.Shared.Lookups.{get-set_same, get_last}
use Rattle.sap_translate.proofs.Lists.Numbers.{length-slice_set}
use Rattle.sap_translate.proofs.Parts.Kept.{kept_nil, kept_par, kept_branch, kept_rep_start, kept_rep_copy, kept_out, kept_event}
use Rattle.sap_translate.proofs.Terms.Choices.{choice_good, put_choice, put_fact_choice}
use Rattle.sap_translate.proofs.Terms.Forms.{settled, nf_fact, form_is}
use Rattle.sap_translate.proofs.Traces.Demands.{other, demands_equal, demands_unequal}
use Rattle.sap_translate.proofs.Traces.LockTraces.{no_lock_one}
use Rattle.sap_translate.proofs.Traces.Store.{no_write_one}
use Rattle.sap_translate.specs.Sound.{SoundPlaces}
use Rattle.sap_templates.specs.Templates.{first_of, second_of, rules_of, own_rules, nil_rule, parallel_rule, rep_start_rule, rep_copy_rule, out_rule, event_rule, then_rule, else_rule}
use Rattle.sap_translate.specs.relation.Answered.{Ends, Splits, CopiesFirst, CopiesMore, Outputs, Agrees, Differs, Shows}
use Rattle.sap_translate.specs.relation.Answers.{AtRest, StandsBefore, term_under, under, at_first, at_second, trades, gets}
use Rattle.sap_translate.specs.relation.Envs.{Env, names, chosen, filled, values}
use Rattle.sap_translate.specs.relation.Names.{vars}
use Rattle.sap_translate.specs.relation.Agents.{Agent, running, copying, is_semi, is_unborn}
use Rattle.sap_translate.specs.relation.Related.{Related}
use Rattle.sap_translate.specs.relation.RuleMoves.{IsRuleMove}
use Rattle.sap_translate.specs.relation.RuleMoves as rules
use Rattle.sap_place.specs.StateFacts.{state_fact, copies_fact}
use Rattle.sap_process.specs.Configuration.{Config, becomes, spawns, sends_out}
use Rattle.sap_process.specs.Places.{place}
use Rattle.sap_process.specs.Proc.{Proc, act}
use Rattle.sap_process.specs.ProcessSteps.{ProcessStep}
use Rattle.sap_rule.specs.RuleSteps.{RuleState}
use Rattle.sap_rule.specs.declared.rule.Rule.{Rule}
use Rattle.sap_terms.specs.AdversaryFacts.{k_fact, out_fact}
use Rattle.sap_terms.specs.Choice.{instance}
use Rattle.sap_terms.specs.Equal.{IsTheoryEqual}
use Rattle.sap_terms.specs.Equations.{equations}
use Rattle.sap_terms.specs.Modulo.{instance_fact}
use Rattle.sap_terms.specs.Piles.{Takes, nothing, one}
use Rattle.sap_terms.specs.Reserved.{is_reserved}
use Rattle.sap_terms.specs.Signature.{Sig}
use Rattle.sap_terms.specs.Trace.{Trace}
use Rattle.sap_terms.specs.declared.fact.Fact.{Fact}
use Rattle.std.proofs.Common.{◌≡◌, ℕ, List, [], ◌∷◌, ◌++◌, Option, Some, None, refl, sym, ap, ◌∙◌, false, slice_get, slice_set, subst, length, append_assoc}
use Rattle.sap_process.specs.Action as action
use Rattle.sap_process.specs.Proc as whole
use Rattle.sap_translate.proofs.Related.Common.{zero_push, one_move, two_moves, runs_as, place_rule, use_of, own_args, answers, answers_set, answers_push}

module _ (laws : Laws) (g : Sig) (start : Proc) (fine : SoundPlaces g start) (agents : List (Option Agent)) (c : Config) (tr : Trace) (s : RuleState) (full : Trace) (h : AtRest g start agents c tr s full) where
  -- the rule of a place is used, where it takes the state fact alone
  pub plain_use : (t k : ℕ) (path : List ℕ) (env : Env) (b : Proc) → StandsBefore agents s t k path env b → (r : Rule) → Member r (own_rules path (names env) b) → r.left ≡ state_fact path (vars (names env)) ∷ []
      → (acts right : List Fact) → (settled laws) (equations g) (filled env) r.acts ≡ acts → (settled laws) (equations g) (filled env) r.right ≡ right
      → IsRuleMove g (rules_of start) s (rules.uses r (k ∷ []) (filled env)) acts (trades s (k ∷ []) right)
  plain_use t k path env b w r m l acts right a t' =
      let at = h.related.placed t (running path env b) w.thread in
      (use_of laws) g start s r (filled env) (state_fact path (values env) ∷ []) acts right (place_rule start path (names env) b r at.0 m) ((choice_good laws) g env at.1)
      (ap ((settled laws) (equations g) (filled env)) l ∙ ap (λ ts. state_fact path ts ∷ []) ((own_args laws) g env at.1)) a t' (one w.fact nothing)

  pub ends : Ends g start agents c tr s full
  ends t k path env w =
      let step : ProcessStep g c [] (becomes c t None) = ProcessStep.ends t (runs_as h.related t (running path env whole.nil) w.thread) in
      (answers_set g start agents c tr s full h) t (Some (running path env whole.nil)) None w.thread refl refl (record { step = step; chooses = refl })
      (one_move (plain_use t k path env whole.nil w (nil_rule path (names env)) Member.here refl [] [] refl refl))
      ((kept_nil laws) g start agents None c tr s full h.related t (k ∷ []) path env (slice_set s.facts k None) w.thread (one w.fact nothing) step)

  pub splits : Splits g start agents c tr s full
  splits t k path env p q w =
      let at = h.related.placed t (running path env (whole.parallel p q)) w.thread in
      let step : ProcessStep g c [] (spawns (becomes c t (Some (under env p))) (under env q)) = ProcessStep.splits t (runs_as h.related t (running path env (whole.parallel p q)) w.thread) in
      (answers_push g start agents c tr s full h) t (Some (running path env (whole.parallel p q))) (Some (running (first_of path) env p)) (Some (running (second_of path) env q)) w.thread refl refl refl refl (record { step = step; chooses = refl })
      (one_move (plain_use t k path env (whole.parallel p q) w (parallel_rule path (names env)) Member.here refl [] (at_first path env ∷ at_second path env ∷ []) refl (ap (λ ts. state_fact (first_of path) ts ∷ state_fact (second_of path) ts ∷ []) ((own_args laws) g env at.1))))
      ((kept_par laws) g start agents None c tr s full h.related t (k ∷ []) path env p q (slice_set s.facts k None) w.thread (one w.fact nothing) step)

  pub copies_more : CopiesMore g start agents c tr s full
  copies_more t k path env p w =
      let at = h.related.placed t (copying path env p) w.thread in
      let args = (own_args laws) g env at.1 in
      let step : ProcessStep g c [] (spawns c (under env p)) = ProcessStep.copies t (runs_as h.related t (copying path env p) w.thread) in
      let takes : Takes s.facts (k ∷ []) (copies_fact path (values env) ∷ []) s.facts = one w.fact nothing in
      (answers g start agents c tr s full h) (record { step = step; chooses = refl })
      (one_move ((use_of laws) g start s (rep_copy_rule path (names env)) (filled env) (copies_fact path (values env) ∷ []) [] (at_first path env ∷ []) (place_rule start path (names env) (whole.replicated p) (rep_copy_rule path (names env)) at.0 (Member.later Member.here)) ((choice_good laws) g env at.1)
      (ap (λ ts. copies_fact path ts ∷ []) args) refl (ap (λ ts. state_fact (first_of path) ts ∷ []) args) takes))
      ((kept_rep_copy laws) g start agents None c tr s full h.related t (k ∷ []) path env p s.facts w.thread takes step)
      (zero_push is_unborn agents (Some (running (first_of path) env p)) refl h.started) (zero_push is_semi agents (Some (running (first_of path) env p)) refl h.calm)

  pub copies_first : CopiesFirst g start agents c tr s full
  copies_first t k path env p w =
      let b : Proc = whole.replicated p in
      let at = h.related.placed t (running path env b) w.thread in
      let args = (own_args laws) g env at.1 in
      let f : Fact = copies_fact path (values env) in
      let new : Option Agent = Some (copying path env p) in
      let y : RuleState = trades s (k ∷ []) (f ∷ []) in
      let step : ProcessStep g c [] (spawns c (under env p)) = ProcessStep.copies t (runs_as h.related t (running path env b) w.thread) in
      let there : slice_get y.facts (length s.facts) ≡ Some (Some f) = ap (λ n. slice_get y.facts n) (sym (length-slice_set s.facts k None)) ∙ get_last (slice_set s.facts k None) (Some f) in
      let takes : Takes y.facts (length s.facts ∷ []) (f ∷ []) y.facts = one there nothing in
      let first = (kept_rep_start laws) g start agents None c tr s full h.related t (k ∷ []) path env p (slice_set s.facts k None) w.thread (one w.fact nothing) in
      let stands = get-set_same agents t (Some (running path env b)) new w.thread in
      (answers_push g start agents c tr s full h) t (Some (running path env b)) new (Some (running (first_of path) env p)) w.thread refl refl refl refl (record { step = step; chooses = refl })
      (two_moves (plain_use t k path env b w (rep_start_rule path (names env)) Member.here refl [] (f ∷ []) refl (ap (λ ts. copies_fact path ts ∷ []) args))
      ((use_of laws) g start y (rep_copy_rule path (names env)) (filled env) (f ∷ []) [] (at_first path env ∷ []) (place_rule start path (names env) b (rep_copy_rule path (names env)) at.0 (Member.later Member.here)) ((choice_good laws) g env at.1)
      (ap (λ ts. copies_fact path ts ∷ []) args) refl (ap (λ ts. state_fact (first_of path) ts ∷ []) args) takes))
      (subst (λ f. Related g start (slice_set agents t new ++ Some (running (first_of path) env p) ∷ []) None (spawns c (under env p)) (tr ++ []) (gets y (at_first path env ∷ [])) f) (append_assoc full ([] ∷ []) ([] ∷ []))
      ((kept_rep_copy laws) g start (slice_set agents t new) None c tr y (full ++ [] ∷ []) first t (length s.facts ∷ []) path env p y.facts stands takes step))

  pub outputs : Outputs g start agents c tr s full
  outputs t k path env m n p w form =
      let b : Proc = act (action.out m) p in
      let at = h.related.placed t (running path env b) w.thread in
      let sent : (nf laws) (equations g) (instance (filled env) m) ≡ n = ap ((nf laws) (equations g)) (put_choice env m (fine path (place path (names env) b) at.0)) ∙ sym ((one_normal_form laws) (equations g) (term_under env m) n form) in
      let args = (own_args laws) g env at.1 in
      let step : ProcessStep g c [] (sends_out (becomes c t (Some (under env p))) n) = ProcessStep.outputs t (runs_as h.related t (running path env b) w.thread) form in
      (answers_set g start agents c tr s full h) t (Some (running path env b)) (Some (running (first_of path) env p)) w.thread refl refl (record { step = step; chooses = refl })
      (one_move (plain_use t k path env b w (out_rule path (names env) m) Member.here refl [] (out_fact n ∷ at_first path env ∷ []) refl (λ i. out_fact (sent i) ∷ state_fact (first_of path) (args i) ∷ [])))
      ((kept_out laws) g start agents None c tr s full h.related t (k ∷ []) path env m n p (slice_set s.facts k None) w.thread (one w.fact nothing) step)

  pub agrees : Agrees g start agents c tr s full
  agrees t k path env m n x y p q w equal x_form y_form =
      let b : Proc = whole.test m n p q in
      let at = h.related.placed t (running path env b) w.thread in
      let sound = fine path (place path (names env) b) at.0 in
      let x_is : (nf laws) (equations g) (instance (filled env) m) ≡ x = ap ((nf laws) (equations g)) (put_choice env m sound.0) ∙ sym ((one_normal_form laws) (equations g) (term_under env m) x x_form) in
      let y_is : (nf laws) (equations g) (instance (filled env) n) ≡ y = ap ((nf laws) (equations g)) (put_choice env n sound.1) ∙ sym ((one_normal_form laws) (equations g) (term_under env n) y y_form) in
      let same : IsTheoryEqual (equations g) x y = (chain laws) ((back laws) x_form.equal) ((chain laws) equal y_form.equal) in
      let acts : List Fact = eq_fact x y ∷ [] in
      let step : ProcessStep g c [] (becomes c t (Some (under env p))) = ProcessStep.agrees t (runs_as h.related t (running path env b) w.thread) equal in
      (answers_set g start agents c tr s full h) t (Some (running path env b)) (Some (running (first_of path) env p)) w.thread refl refl (record { step = step; chooses = refl })
      (one_move (plain_use t k path env b w (then_rule path (names env) m n) Member.here refl acts (at_first path env ∷ []) (λ i. eq_fact (x_is i) (y_is i) ∷ []) (ap (λ ts. state_fact (first_of path) ts ∷ []) ((own_args laws) g env at.1))))
      ((kept_branch laws) g start agents None c tr s full h.related t (k ∷ []) path 1 env b p (slice_set s.facts k None) acts (no_lock_one (eq_fact x y) refl) (λ o z. z.0) refl refl refl (λ i j. other (k_fact i) (eq_fact x y) refl j) (demands_equal (equations g) full x y h.related.traces.demands same) (no_write_one (eq_fact x y) refl) w.thread (one w.fact nothing) step)

  pub differs : Differs g start agents c tr s full
  differs t k path env m n x y p q w unequal x_form y_form =
      let b : Proc = whole.test m n p q in
      let at = h.related.placed t (running path env b) w.thread in
      let sound = fine path (place path (names env) b) at.0 in
      let x_is : (nf laws) (equations g) (instance (filled env) m) ≡ x = ap ((nf laws) (equations g)) (put_choice env m sound.0) ∙ sym ((one_normal_form laws) (equations g) (term_under env m) x x_form) in
      let y_is : (nf laws) (equations g) (instance (filled env) n) ≡ y = ap ((nf laws) (equations g)) (put_choice env n sound.1) ∙ sym ((one_normal_form laws) (equations g) (term_under env n) y y_form) in
      let apart : IsTheoryEqual (equations g) x y → ⊥ = λ e. unequal ((chain laws) x_form.equal ((chain laws) e ((back laws) y_form.equal))) in
      let acts : List Fact = not_eq_fact x y ∷ [] in
      let step : ProcessStep g c [] (becomes c t (Some (under env q))) = ProcessStep.differs t (runs_as h.related t (running path env b) w.thread) unequal in
      (answers_set g start agents c tr s full h) t (Some (running path env b)) (Some (running (second_of path) env q)) w.thread refl refl (record { step = step; chooses = refl })
      (one_move (plain_use t k path env b w (else_rule path (names env) m n) (Member.later Member.here) refl acts (at_second path env ∷ []) (λ i. not_eq_fact (x_is i) (y_is i) ∷ []) (ap (λ ts. state_fact (second_of path) ts ∷ []) ((own_args laws) g env at.1))))
      ((kept_branch laws) g start agents None c tr s full h.related t (k ∷ []) path 2 env b q (slice_set s.facts k None) acts (no_lock_one (not_eq_fact x y) refl) (λ o z. z.1) refl refl refl (λ i j. other (k_fact i) (not_eq_fact x y) refl j) (demands_unequal (equations g) full x y h.related.traces.demands apart) (no_write_one (not_eq_fact x y) refl) w.thread (one w.fact nothing) step)

  pub shows : Shows g start agents c tr s full
  shows t k path env f u p w form =
      let b : Proc = act (action.event f) p in
      let at = h.related.placed t (running path env b) w.thread in
      let sound = fine path (place path (names env) b) at.0 in
      let seen : (nf_fact laws) (equations g) (instance_fact (filled env) f) ≡ u = ap ((nf_fact laws) (equations g)) (put_fact_choice env f sound.1) ∙ sym ((form_is laws) (equations g) (instance_fact (chosen env) f) u form) in
      let free : is_reserved u.name ≡ false = subst (λ z. is_reserved z ≡ false) (sym form.name) sound.0 in
      let step : ProcessStep g c (u ∷ []) (becomes c t (Some (under env p))) = ProcessStep.shows t (runs_as h.related t (running path env b) w.thread) form in
      (answers_set g start agents c tr s full h) t (Some (running path env b)) (Some (running (first_of path) env p)) w.thread refl refl (record { step = step; chooses = refl })
      (one_move (plain_use t k path env b w (event_rule path (names env) f) Member.here refl (event_fact ∷ u ∷ []) (at_first path env ∷ []) (ap (λ z. event_fact ∷ z ∷ []) seen) (ap (λ ts. state_fact (first_of path) ts ∷ []) ((own_args laws) g env at.1))))
      (kept_event g start agents c tr s full h.related t (k ∷ []) path env f u p (slice_set s.facts k None) free w.thread (one w.fact nothing))
