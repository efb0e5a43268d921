-- What answers the steps that give the adversary a message, or take one of it, at a place that shows K.
use Rattle.sap_translate.specs.Members.{Member}
use Rattle.sap_translate.specs.Sound.{SoundPlaces}
use Rattle.sap_translate.specs.relation.Names.{vars}
use Rattle.sap_process.specs.Places.{place}
use Rattle.sap_process.specs.Proc.{Proc, act}
use Rattle.sap_process.specs.ProcessSteps.{ProcessStep}
use Rattle.sap_rule.specs.declared.rule.Rule.{Rule}
use Rattle.sap_terms.specs.Equations.{equations, app2, pair_name}
use Rattle.sap_terms.specs.Signature.{Sig}
use Rattle.sap_terms.specs.Trace.{Trace, shown}
use Rattle.sap_terms.specs.declared.fact.Fact.{Fact}
use Rattle.sap_terms.specs.declared.var.Var.{Var}
use Rattle.sap_process.specs.Action as action
use Rattle.sap_translate.proofs.Premises.LowerLaws.{Laws, one_normal_form, nf}
use Rattle.sap_restrict.specs.ReservedFacts.{input_fact}
use Rattle.sap_translate.proofs.Terms.Choices.{choice_good, put_choice, put_longer, good_bind, good-append, pattern_is}
use Rattle.sap_translate.proofs.Terms.Derive.{member}
use Rattle.sap_translate.proofs.Terms.Forms.{form_of_equal}
use Rattle.sap_translate.proofs.Terms.Substitution.{new_first, new_free}
use Rattle.sap_translate.proofs.Parts.Kept.{kept_know, kept_in, kept_out_adv}
use Rattle.sap_translate.proofs.Shared.Inputs.{know_free}
use Rattle.sap_translate.specs.OpenLocks.{UnlocksAreOpen}
use Rattle.sap_templates.specs.Places.{child}
use Rattle.sap_templates.specs.Templates.{first_of, own_rules, rule, out_adv_rule}
use Rattle.sap_translate.specs.relation.Answered.{OutputsOn, Inputs, InputsOn}
use Rattle.sap_translate.specs.relation.Answers.{AtRest, Answers, StandsBefore, term_under, under, widened, at_first, goes_on, trades, gets}
use Rattle.sap_translate.specs.relation.Envs.{Env, names, filled, values, bind, join, GoodEnv}
use Rattle.sap_translate.specs.relation.ProcessMoves.{ProcessMove, IsProcessMove}
use Rattle.sap_translate.specs.relation.ProcessMoves as process
use Rattle.sap_translate.specs.relation.Agents.{Agent, running}
use Rattle.sap_translate.specs.relation.Related.{Related}
use Rattle.sap_translate.specs.relation.RuleMoves.{RuleMoves}
use Rattle.sap_translate.specs.relation.RuleMoves as rules
use Rattle.sap_process.specs.Scopes.{with_new}
use Rattle.sap_place.specs.StateFacts.{state_fact}
use Rattle.sap_process.specs.Configuration.{Config, becomes, sends_out, CanGive}
use Rattle.sap_process.specs.Sites.{var_names}
use Rattle.sap_rule.specs.RuleSteps.{RuleState, RuleStep}
use Rattle.sap_terms.specs.AdversaryFacts.{k_fact, in_fact, out_fact}
use Rattle.sap_terms.specs.Choice.{instance}
use Rattle.sap_terms.specs.Equal.{IsTheoryEqual}
use Rattle.sap_terms.specs.Tree.{Tree}
use Rattle.sap_terms.specs.Variables.{tree_vars, new_vars}
use Rattle.std.proofs.Common.{◌≡◌, ℕ, List, [], ◌∷◌, ◌++◌, Option, Some, None, refl, sym, ap, ◌∙◌, subst, length, append_assoc, map}
use Rattle.std.specs.Prelude.{Contains, codes}
use Rattle.sap_translate.specs.Scoped.{IsFree}
use Rattle.sap_translate.proofs.Related.Common.{two_moves, runs_as, place_rule, use_of, own_args, old_args, takes_newest, answers_set, bound_pattern}

module _ (laws : Laws) (g : Sig) (start : Proc) (fine : SoundPlaces g start) (agents : List (Option Agent)) (c : Config) (tr : Trace) (s : RuleState) (full : Trace) (h : AtRest g start agents c tr s full) where
  pub outputs_on : OutputsOn g start agents c tr s full
  outputs_on t k path env m u x n p w m_form give u_form known =
      let b : Proc = act (action.send m u) p in
      let at = h.related.placed t (running path env b) w.thread in
      let sound = fine path (place path (names env) b) at.0 in
      let y : RuleState = gets s (in_fact x ∷ []) in
      let f : Fact = state_fact path (values env) in
      let takes = takes_newest s.facts k f (in_fact x) w.fact refl refl in
      let r : Rule = out_adv_rule path (names env) m u in
      let x_is : (nf laws) (equations g) (instance (filled env) m) ≡ x = ap ((nf laws) (equations g)) (put_choice env m sound.0) ∙ sym ((one_normal_form laws) (equations g) (term_under env m) x m_form) in
      let n_is : (nf laws) (equations g) (instance (filled env) u) ≡ n = ap ((nf laws) (equations g)) (put_choice env u sound.1) ∙ sym ((one_normal_form laws) (equations g) (term_under env u) n u_form) in
      let args = (own_args laws) g env at.1 in
      let first = kept_know g start agents c tr s full h.related x give.normal (member x s.known known) in
      (answers_set g start agents c tr s full h) t (Some (running path env b)) (Some (running (first_of path) env p)) w.thread refl refl (record { step = ProcessStep.outputs_on t (runs_as h.related t (running path env b) w.thread) m_form give u_form; chooses = refl })
      (two_moves (record { step = RuleStep.gives x known; chooses = refl })
      ((use_of laws) g start y r (filled env) (f ∷ in_fact x ∷ []) (input_fact x ∷ []) (out_fact n ∷ at_first path env ∷ []) (place_rule start path (names env) b r at.0 Member.here) ((choice_good laws) g env at.1)
      (λ i. state_fact path (args i) ∷ in_fact (x_is i) ∷ []) (λ i. input_fact (x_is i) ∷ []) (λ i. out_fact (n_is i) ∷ state_fact (first_of path) (args i) ∷ []) takes))
      (subst (λ v. Related g start (goes_on agents t path env p) None (sends_out (becomes c t (Some (under env p))) n) (tr ++ shown (k_fact x ∷ [])) (trades y (k ∷ length s.facts ∷ []) (out_fact n ∷ at_first path env ∷ [])) v) (append_assoc full ((k_fact x ∷ []) ∷ []) ((input_fact x ∷ []) ∷ []))
      (kept_out_adv g start agents x c tr y (full ++ (k_fact x ∷ []) ∷ []) first t (k ∷ length s.facts ∷ []) path env m u n p _ (know_free full x) w.thread takes))

  -- a thread takes what K shows, by a rule with the pattern m
  takes_in : (t k : ℕ) (path : List ℕ) (env τ : Env) (b p : Proc) (v : List Var) (m x : Tree) (word : List ℕ) → StandsBefore agents s t k path env b → CanGive g c x → Contains s.known x → ((o : List (ℕ × Tree)) → UnlocksAreOpen o b → UnlocksAreOpen o p) → child (place path (names env) b) 1 ≡ Some (place (first_of path) v p) → v ≡ names (join env τ) → GoodEnv g τ → ((y : Var) → Member y (names τ) → IsFree y (names env)) → IsTheoryEqual (equations g) (instance (filled (join env τ)) m) x
      → Member (rule word path (state_fact path (vars (names env)) ∷ in_fact m ∷ []) (input_fact m ∷ []) (state_fact (first_of path) (vars v) ∷ [])) (own_rules path (names env) b) → {move : ProcessMove} → IsProcessMove g c move (k_fact x ∷ []) (becomes c t (Some (under (join env τ) p)))
      → Answers g start c tr s full move (k_fact x ∷ []) (becomes c t (Some (under (join env τ) p))) (rules.gives x ∷ rules.uses (rule word path (state_fact path (vars (names env)) ∷ in_fact m ∷ []) (input_fact m ∷ []) (state_fact (first_of path) (vars v) ∷ [])) (k ∷ length s.facts ∷ []) (filled (join env τ)) ∷ []) ((k_fact x ∷ []) ∷ (input_fact x ∷ []) ∷ [])
      (trades (gets s (in_fact x ∷ [])) (k ∷ length s.facts ∷ []) (at_first path (join env τ) ∷ [])) (goes_on agents t path (join env τ) p)
  takes_in t k path env τ b p v m x word w give known ok below scope ground new_free matches listed move =
      let at = h.related.placed t (running path env b) w.thread in
      let wider : Env = join env τ in
      let good_wider : GoodEnv g wider = good-append g env τ at.1 ground new_free in
      let y : RuleState = gets s (in_fact x ∷ []) in
      let f : Fact = state_fact path (values env) in
      let takes = takes_newest s.facts k f (in_fact x) w.fact refl refl in
      let r : Rule = rule word path (state_fact path (vars (names env)) ∷ in_fact m ∷ []) (input_fact m ∷ []) (state_fact (first_of path) (vars v) ∷ []) in
      let x_is : (nf laws) (equations g) (instance (filled wider) m) ≡ x = sym ((form_of_equal laws) (equations g) (instance (filled wider) m) x matches give.normal) in
      let old = (old_args laws) g env τ good_wider in
      let all = ap (λ u. map ((nf laws) (equations g)) (map (instance (filled wider)) (vars u))) scope ∙ (own_args laws) g wider good_wider in
      let first = kept_know g start agents c tr s full h.related x give.normal (member x s.known known) in
      (answers_set g start agents c tr s full h) t (Some (running path env b)) (Some (running (first_of path) wider p)) w.thread refl refl move
      (two_moves (record { step = RuleStep.gives x known; chooses = refl })
      ((use_of laws) g start y r (filled wider) (f ∷ in_fact x ∷ []) (input_fact x ∷ []) (at_first path wider ∷ []) (place_rule start path (names env) b r at.0 listed) ((choice_good laws) g wider good_wider)
      (λ i. state_fact path (old i) ∷ in_fact (x_is i) ∷ []) (λ i. input_fact (x_is i) ∷ []) (λ i. state_fact (first_of path) (all i) ∷ []) takes))
      (subst (λ z. Related g start (goes_on agents t path wider p) None (becomes c t (Some (under wider p))) (tr ++ shown (k_fact x ∷ [])) (trades y (k ∷ length s.facts ∷ []) (at_first path wider ∷ [])) z) (append_assoc full ((k_fact x ∷ []) ∷ []) ((input_fact x ∷ []) ∷ []))
      (kept_in g start agents x c tr y (full ++ (k_fact x ∷ []) ∷ []) first t (k ∷ length s.facts ∷ []) path env τ b p v _ ok below scope ground new_free (know_free full x) w.thread takes))

  pub inputs : Inputs g start agents c tr s full
  inputs t k path env m x p σ w give fits known =
      let b : Proc = act (action.input m) p in
      let at = h.related.placed t (running path env b) w.thread in
      let sound = fine path (place path (names env) b) at.0 in
      let ns = new_vars (var_names (names env)) (tree_vars m) in
      let free = new_free (var_names (names env)) (tree_vars m) in
      let own = new_first σ (var_names (names env)) (tree_vars m) in
      let wider : Env = widened env σ (tree_vars m) in
      let same = pattern_is env σ ns at.1.ground free own m sound in
      let thread = (bound_pattern laws) σ env at.1.ground m p in
      let move : IsProcessMove g c (process.inputs t σ) (k_fact x ∷ []) (becomes c t (Some (under wider p))) = subst (λ q. IsProcessMove g c (process.inputs t σ) (k_fact x ∷ []) (becomes c t (Some q))) thread (record { step = ProcessStep.inputs t σ (runs_as h.related t (running path env b) w.thread) give fits; chooses = refl }) in
      takes_in t k path env (bind σ ns) b p (with_new (names env) (tree_vars m)) m x (codes "In_") w give known (λ o z. z) refl refl (good_bind g σ ns own fits.messages) free (subst (λ z. IsTheoryEqual (equations g) z x) same fits.equal) Member.here move

  pub inputs_on : InputsOn g start agents c tr s full
  inputs_on t k path env m u x p σ w give messages matches known =
      let b : Proc = act (action.receive m u) p in
      let at = h.related.placed t (running path env b) w.thread in
      let sound = fine path (place path (names env) b) at.0 in
      let ns = new_vars (var_names (names env)) (tree_vars u) in
      let free = new_free (var_names (names env)) (tree_vars u) in
      let own = new_first σ (var_names (names env)) (tree_vars u) in
      let wider : Env = widened env σ (tree_vars u) in
      let channel : term_under env m ≡ instance (filled wider) m = sym (put_longer env (bind σ ns) m sound.0) in
      let same = pattern_is env σ ns at.1.ground free own u sound.2 in
      let thread = (bound_pattern laws) σ env at.1.ground u p in
      let move : IsProcessMove g c (process.inputs_on t σ) (k_fact x ∷ []) (becomes c t (Some (under wider p))) = subst (λ q. IsProcessMove g c (process.inputs_on t σ) (k_fact x ∷ []) (becomes c t (Some q))) thread (record { step = ProcessStep.inputs_on t σ (runs_as h.related t (running path env b) w.thread) give messages matches; chooses = refl }) in
      takes_in t k path env (bind σ ns) b p (with_new (names env) (tree_vars u)) (app2 pair_name m u) x (codes "InAdv_") w give known (λ o z. z) refl refl (good_bind g σ ns own messages) free (subst (λ z. IsTheoryEqual (equations g) z x) (λ i. app2 pair_name (channel i) (same i)) matches) Member.here move
