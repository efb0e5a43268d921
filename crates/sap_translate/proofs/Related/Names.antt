-- What answers the steps that make names and that know, and how what can be given comes to be known.
use Rattle.sap_translate.specs.Members.{Member}
use Rattle.sap_translate.specs.Sound.{SoundPlaces}
use Rattle.sap_process.specs.Places.{place}
use Rattle.sap_process.specs.Proc.{Proc, act}
use Rattle.sap_process.specs.ProcessSteps.{ProcessStep}
use Rattle.sap_rule.specs.RuleSteps as state
use Rattle.sap_rule.specs.declared.rule.Rule.{Rule}
use Rattle.sap_terms.specs.Equations.{equations}
use Rattle.sap_terms.specs.Signature.{Sig}
use Rattle.sap_terms.specs.Trace.{Trace}
use Rattle.sap_terms.specs.declared.fact.Fact.{Fact}
use Rattle.sap_process.specs.Action as action
use Rattle.sap_translate.proofs.Premises.LowerLaws.{Laws, nf-fresh, nf}
use Rattle.sap_translate.proofs.Terms.Choices.{choice_new, choice_good, good_just, just_free, good-append}
use Rattle.sap_translate.proofs.Terms.Derive.{contains, member}
use Rattle.sap_translate.proofs.Terms.Forms.{fresh_message}
use Rattle.sap_translate.proofs.Terms.Substitution.{with_term_is}
use Rattle.sap_translate.proofs.Parts.Kept.{kept_new, kept_know, kept_flush, kept_own, kept_fresh}
use Rattle.sap_translate.proofs.Shared.Lookups.{get_last}
use Rattle.sap_templates.specs.ChannelFacts.{fresh_fact}
use Rattle.sap_translate.specs.Scoped.{IsFree}
use Rattle.sap_templates.specs.Templates.{first_of, rules_of, new_rule}
use Rattle.sap_translate.specs.relation.Answered.{MakesName, AdversaryMakes, Knows}
use Rattle.sap_translate.specs.relation.Answers.{AtRest, Answers, under, at_first, goes_on, trades, gets, without_facts}
use Rattle.sap_translate.specs.relation.Envs.{Env, names, chosen, filled, values, just, join, GoodEnv}
use Rattle.sap_translate.specs.relation.ProcessMoves.{IsProcessMove}
use Rattle.sap_translate.specs.relation.ProcessMoves as process
use Rattle.sap_translate.specs.relation.Agents.{Agent, running}
use Rattle.sap_translate.specs.relation.Related.{Related}
use Rattle.sap_translate.specs.relation.RuleMoves.{RuleMoves}
use Rattle.sap_translate.specs.relation.RuleMoves as rules
use Rattle.sap_place.specs.StateFacts.{state_fact}
use Rattle.sap_process.specs.Configuration as config
use Rattle.sap_process.specs.Configuration.{Config, becomes}
use Rattle.sap_process.specs.Instance.{process_instance, without}
use Rattle.sap_process.specs.Sites.{fresh_var}
use Rattle.sap_rule.specs.RuleSteps.{RuleState, RuleStep, leaves, gains}
use Rattle.sap_terms.specs.AdversaryFacts.{k_fact, in_fact, fr_fact}
use Rattle.sap_terms.specs.Piles.{Takes, nothing, one}
use Rattle.sap_terms.specs.Tree.{fresh}
use Rattle.std.proofs.Common.{◌≡◌, List, [], ◌∷◌, ◌++◌, Option, Some, None, refl, sym, ap, ◌∙◌, subst, length, append_assoc}
use Rattle.sap_translate.proofs.Related.Common.{one_move, two_moves, runs_as, place_rule, use_of, own_args, old_args, takes_newest, answers, answers_set, bound_term}
use Rattle.sap_terms.specs.declared.var.Sort.TheVariants.{Fresh}

module _ (laws : Laws) (g : Sig) (start : Proc) (fine : SoundPlaces g start) (agents : List (Option Agent)) (c : Config) (tr : Trace) (s : RuleState) (full : Trace) (h : AtRest g start agents c tr s full) where
  pub makes_name : MakesName g start agents c tr s full
  makes_name t k n path env x p w unused clear =
      let b : Proc = act (action.new x) p in
      let at = h.related.placed t (running path env b) w.thread in
      let absent : IsFree x (names env) = fine path (place path (names env) b) at.0 in
      let τ : Env = just (fresh_var x) (fresh n) in
      let wider : Env = join env τ in
      let good_wider : GoodEnv g wider = good-append g env τ at.1 (good_just g (fresh_var x) (fresh n) ((fresh_message laws) g n)) (just_free env (fresh_var x) (fresh n) absent) in
      let good = (choice_good laws) g wider good_wider in
      let n_is : (nf laws) (equations g) (filled wider (fresh_var x)) ≡ fresh n = ap ((nf laws) (equations g)) (choice_new env (fresh_var x) (fresh n) absent) ∙ (nf-fresh laws) (equations g) n in
      let y : RuleState = state.makes s n in
      let f : Fact = state_fact path (values env) in
      let takes = takes_newest s.facts k f (fr_fact n) w.fact refl refl in
      let r : Rule = new_rule path (names env) x in
      let inside : Proc = process_instance (without (chosen env) x) p in
      let inner : Proc = process_instance (chosen τ) inside in
      let same : inner ≡ under wider p = sym (with_term_is x (fresh n) inside) ∙ (bound_term laws) env x Fresh (fresh n) p at.1.ground absent in
      let d : Proc → Config = λ q. config.makes (becomes c t (Some q)) n in
      let move : IsProcessMove g c (process.makes_name t n) [] (d inner) = subst (λ q. IsProcessMove g c (process.makes_name t n) [] (d q)) (with_term_is x (fresh n) inside) (record { step = ProcessStep.makes_name t n (runs_as h.related t (running path env b) w.thread) unused; chooses = refl }) in
      let z : RuleState = trades y (k ∷ length s.facts ∷ []) (at_first path wider ∷ []) in
      let first = (kept_fresh laws) g start agents None c tr s full h.related n (λ i. clear (contains i)) in
      let moves : RuleMoves g (rules_of start) s (rules.makes_name n ∷ rules.uses r (k ∷ length s.facts ∷ []) (filled wider) ∷ []) ([] ∷ [] ∷ []) z = two_moves (record { step = RuleStep.makes_name n clear; chooses = refl })
      ((use_of laws) g start y r (filled wider) (f ∷ fr_fact n ∷ []) [] (at_first path wider ∷ []) (place_rule start path (names env) b r at.0 Member.here) good
      (λ i. state_fact path ((old_args laws) g env τ good_wider i) ∷ fresh_fact (n_is i) ∷ []) refl (ap (λ ts. state_fact (first_of path) ts ∷ []) ((own_args laws) g wider good_wider)) takes) in
      subst (λ q. Answers g start c tr s full (process.makes_name t n) [] (d q) (rules.makes_name n ∷ rules.uses r (k ∷ length s.facts ∷ []) (filled wider) ∷ []) ([] ∷ [] ∷ []) z (goes_on agents t path wider p)) same
      ((answers_set g start agents c tr s full h) t (Some (running path env b)) (Some (running (first_of path) wider p)) w.thread refl refl move moves
      (subst (λ v. Related g start (goes_on agents t path wider p) None (d inner) (tr ++ []) z v) (append_assoc full ([] ∷ []) ([] ∷ []))
      ((kept_new laws) g start agents None c tr y (full ++ [] ∷ []) first t n (k ∷ length s.facts ∷ []) path env x p _ absent w.thread takes move.step)))

  pub adversary_makes : AdversaryMakes g start agents c tr s full
  adversary_makes n unused clear =
      let y : RuleState = state.makes s n in
      let takes : Takes y.facts (length s.facts ∷ []) (fr_fact n ∷ []) _ = one (get_last s.facts (Some (fr_fact n))) nothing in
      let first = (kept_fresh laws) g start agents None c tr s full h.related n (λ i. clear (contains i)) in
      let step : ProcessStep g c [] (config.owns c n) = ProcessStep.adversary_makes n unused in
      (answers g start agents c tr s full h) (record { step = step; chooses = refl })
      (two_moves (record { step = RuleStep.makes_name n clear; chooses = refl }) (record { step = RuleStep.owns (length s.facts) n takes; chooses = refl }))
      (subst (λ v. Related g start agents None (config.owns c n) (tr ++ []) (gains (leaves y (without_facts y.facts (length s.facts ∷ []))) (fresh n)) v) (append_assoc full ([] ∷ []) ([] ∷ []))
      ((kept_own laws) g start agents None c tr y (full ++ [] ∷ []) first (length s.facts) n _ takes step))
      h.started h.calm

  pub knows : Knows g start agents c tr s full
  knows x give known =
      (answers g start agents c tr s full h) (record { step = ProcessStep.knows x give; chooses = refl }) (one_move (record { step = RuleStep.gives x known; chooses = refl }))
      (kept_flush g start agents x c tr (gets s (in_fact x ∷ [])) (full ++ (k_fact x ∷ []) ∷ []) (kept_know g start agents c tr s full h.related x give.normal (member x s.known known)) h.reached)
      h.started h.calm
