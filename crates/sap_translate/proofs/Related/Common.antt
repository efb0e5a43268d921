-- What the laws of the cases share: rules are used, runs go on, and both sides rest again.
use Rattle.sap_translate.proofs.Premises.LowerLaws.{Laws, nf}
use Rattle.sap_translate.specs.Members.{Member}
use Rattle.sap_translate.proofs.Terms.Choices.{filled_values, choice_good, settled_vars, values_append}
use Rattle.sap_translate.proofs.Terms.Derive.{contains}
use Rattle.sap_translate.proofs.Terms.Forms.{settled, equal_facts, forms_of_facts}
use Rattle.sap_translate.proofs.Shared.Lookups.{map_get, get-set_other, get-append_left, get_last}
use Rattle.sap_translate.proofs.Lists.Numbers.{apart_next}
use Rattle.sap_translate.proofs.Shared.Totals.{total-append, total-set}
use Rattle.sap_translate.proofs.Terms.Substitution.{GroundEnv, after_pattern, after_facts, instance_append, with_choice_is, with_term_is}
use Rattle.sap_translate.proofs.Lists.FactLists.{map_joined}
use Rattle.sap_translate.proofs.Parts.Parts.{without_absent}
use Rattle.sap_translate.proofs.Parts.Places.{own_in}
use Rattle.sap_templates.specs.Places.{scoped_place_at, root}
use Rattle.sap_translate.specs.Scoped.{IsFree}
use Rattle.sap_templates.specs.Templates.{rules_of, own_rules}
use Rattle.sap_translate.specs.relation.Answers.{AtRest, Answers, term_under, under, widened, without_facts}
use Rattle.sap_translate.specs.relation.Envs.{Env, names, chosen, filled, values, GoodEnv, bind, just, join}
use Rattle.sap_translate.specs.relation.Names.{vars}
use Rattle.sap_translate.specs.relation.ProcessMoves.{ProcessMove, IsProcessMove}
use Rattle.sap_translate.specs.relation.Agents.{Agent, process_of, is_semi, is_unborn}
use Rattle.sap_translate.specs.relation.Related.{Related}
use Rattle.sap_translate.specs.relation.RuleMoves.{RuleMove, RuleMoves, IsRuleMove, stays, further, uses}
use Rattle.sap_translate.specs.relation.Totals.{total}
use Rattle.sap_process.specs.Configuration.{Config, Runs}
use Rattle.sap_process.specs.Places.{place}
use Rattle.sap_process.specs.Proc.{Proc}
use Rattle.sap_process.specs.ProcessSteps.{ProcessRun, with_choice, with_term}
use Rattle.sap_process.specs.Instance.{process_instance, without}
use Rattle.sap_terms.specs.Variables.{tree_vars, facts_vars}
use Rattle.sap_terms.specs.declared.var.Sort.{Sort}
use Rattle.sap_rule.specs.RuleSteps.{RuleState, RuleStep, RuleRun, leaves}
use Rattle.sap_rule.specs.declared.rule.Rule.{Rule}
use Rattle.sap_terms.specs.Choice.{instance, Choice}
use Rattle.sap_terms.specs.Equations.{equations}
use Rattle.sap_terms.specs.Message.{IsMessageChoice}
use Rattle.sap_terms.specs.Modulo.{instance_fact, instance_facts, AreEqualFacts, AreFormsOfFacts}
use Rattle.sap_terms.specs.Piles.{Pile, Takes, nothing, one, adds}
use Rattle.sap_terms.specs.Signature.{Sig}
use Rattle.sap_terms.specs.Trace.{Trace, shown}
use Rattle.sap_terms.specs.Tree.{Tree}
use Rattle.sap_terms.specs.declared.fact.Fact.{Fact}
use Rattle.sap_terms.specs.declared.var.Var.{Var}
use Rattle.std.proofs.Common.{◌≡◌, ℕ, List, [], ◌∷◌, ◌++◌, Option, Some, None, refl, sym, ap, ◌∙◌, arith, slice_get, slice_set, subst, map, append-nil, append_assoc, length, false, ◌+◌}
use Rattle.std.specs.Prelude.{if◌then◌else◌}
use Rattle.std.specs.Option.{option_map}

-- a linear fact is taken
pub one_linear : {facts rest : Pile} {k : ℕ} {ks : List ℕ} {f : Fact} {fs : List Fact} → slice_get facts k ≡ Some (Some f) → f.persistent ≡ false → Takes (slice_set facts k None) ks fs rest → Takes facts (k ∷ ks) (f ∷ fs) rest
one_linear {facts} {rest} {k} {ks} {f} {fs} e linear h = one e (subst (λ b. Takes (if b then facts else slice_set facts k None) ks fs rest) (sym linear) h)

zero_more : (n : ℕ) → n ≡ n + 0
zero_more n = omega arith

-- counts that stay nothing
pub zero_set : (w : Option Agent → ℕ) (agents : List (Option Agent)) (t : ℕ) (old new : Option Agent) → slice_get agents t ≡ Some old → w new ≡ 0 → total w agents ≡ 0 → total w (slice_set agents t new) ≡ 0
zero_set w agents t old new e b z = let k = total-set w agents t old new e in omega arith

pub zero_push : (w : Option Agent → ℕ) (agents : List (Option Agent)) (new : Option Agent) → w new ≡ 0 → total w agents ≡ 0 → total w (agents ++ new ∷ []) ≡ 0
zero_push w agents new b z = let k = total-append w agents (new ∷ []) in omega arith

-- a run goes on by moves
pub run_on : {g : Sig} {rules : List Rule} {s z : RuleState} {full more : Trace} {moves : List RuleMove} → RuleRun g rules s full → RuleMoves g rules s moves more z → RuleRun g rules z (full ++ more)
run_on {g} {rules} {s} {full = full} run stays = subst (λ f. RuleRun g rules s f) (sym (append-nil full)) run
run_on {g} {rules} {z = z} {full = full} run (further {acts = acts} {full = more} m ms) = subst (λ f. RuleRun g rules z f) (append_assoc full (acts ∷ []) more) (run_on (RuleRun.further run m.step) ms)

pub one_move : {g : Sig} {rules : List Rule} {s z : RuleState} {acts : List Fact} {move : RuleMove} → IsRuleMove g rules s move acts z → RuleMoves g rules s (move ∷ []) (acts ∷ []) z
one_move m = further m stays

pub two_moves : {g : Sig} {rules : List Rule} {s y z : RuleState} {a b : List Fact} {m n : RuleMove} → IsRuleMove g rules s m a y → IsRuleMove g rules y n b z → RuleMoves g rules s (m ∷ n ∷ []) (a ∷ b ∷ []) z
two_moves h k = further h (further k stays)

-- the thread of an agent
pub runs_as : {g : Sig} {start : Proc} {agents : List (Option Agent)} {c : Config} {tr : Trace} {s : RuleState} {full : Trace} {pending : Option Tree} → Related g start agents pending c tr s full → (t : ℕ) (a : Agent) → slice_get agents t ≡ Some (Some a) → Runs c t (process_of a)
runs_as {agents = agents} r t a e = ap (λ ts. slice_get ts t) r.threads ∙ map_get (option_map process_of) agents t (Some a) e

-- a rule of a place
pub place_rule : (start : Proc) (path : List ℕ) (v : List Var) (b : Proc) (r : Rule) → scoped_place_at (root start) path ≡ Some (place path v b) → Member r (own_rules path v b) → Member r (rules_of start)
place_rule start path v b r e m = Member.later (own_in (place [] [] start) path (place path v b) r e m)

-- a rule is used, its parts said as they come out
pub use_of : (laws : Laws) → (g : Sig) (start : Proc) (s : RuleState) {ks : List ℕ} {rest : List (Option Fact)} (r : Rule) (σ : Choice) (left acts right : List Fact) → Member r (rules_of start) → IsMessageChoice g σ → (settled laws) (equations g) σ r.left ≡ left → (settled laws) (equations g) σ r.acts ≡ acts → (settled laws) (equations g) σ r.right ≡ right → Takes s.facts ks left rest → IsRuleMove g (rules_of start) s (uses r ks σ) acts (leaves s (adds rest right))
use_of laws g start s {ks} r σ left acts right m good l a t takes =
    record {
      step = RuleStep.uses r ks σ left acts right (contains m) takes (record {
        messages = good;
        takes = subst (λ fs. AreEqualFacts (equations g) (instance_facts σ r.left) fs) l ((equal_facts laws) (equations g) (instance_facts σ r.left));
        shows = subst (λ fs. AreFormsOfFacts (equations g) (instance_facts σ r.acts) fs) a ((forms_of_facts laws) (equations g) (instance_facts σ r.acts));
        adds = subst (λ fs. AreFormsOfFacts (equations g) (instance_facts σ r.right) fs) t ((forms_of_facts laws) (equations g) (instance_facts σ r.right));
      });
      chooses = refl;
    }

-- two linear facts are taken, the second of which came last
pub takes_newest : (facts : Pile) (k : ℕ) (f u : Fact) → slice_get facts k ≡ Some (Some f) → f.persistent ≡ false → u.persistent ≡ false → Takes (adds facts (u ∷ [])) (k ∷ length facts ∷ []) (f ∷ u ∷ []) (without_facts (adds facts (u ∷ [])) (k ∷ length facts ∷ []))
takes_newest facts k f u e a b =
    let first : slice_get (adds facts (u ∷ [])) k ≡ Some (Some f) = get-append_left facts (Some u ∷ []) k (Some f) e in
    let second : slice_get (slice_set (adds facts (u ∷ [])) k None) (length facts) ≡ Some (Some u) = get-set_other (adds facts (u ∷ [])) k (length facts) None (λ same. apart_next facts k 0 (Some f) e (same ∙ zero_more (length facts))) ∙ get_last facts (Some u) in
    one_linear first a (one_linear second b nothing)

-- what the variables in scope come to
pub own_args : (laws : Laws) → (g : Sig) (env : Env) → GoodEnv g env → map ((nf laws) (equations g)) (map (instance (filled env)) (vars (names env))) ≡ values env
own_args laws g env good = (settled_vars laws) g (filled env) ((choice_good laws) g env good) (names env) ∙ filled_values env

-- the same of those that were in scope before
pub old_args : (laws : Laws) → (g : Sig) (env τ : Env) → GoodEnv g (join env τ) → map ((nf laws) (equations g)) (map (instance (filled (join env τ))) (vars (names env))) ≡ values env
old_args laws g env τ good = (settled_vars laws) g (filled (join env τ)) ((choice_good laws) g (join env τ) good) (names env) ∙ values_append env τ

-- what a step binds is in scope behind it
pub bound_term : (laws : Laws) → (env : Env) (y : Var) (sort : Sort) (v : Tree) (p : Proc) → GroundEnv env → IsFree y (names env) → with_term y v (process_instance (without (chosen env) y) p) ≡ under (join env (just (record { name = y.name; sort = sort }) v)) p
bound_term laws env y sort v p ground free =
    let τ : Env = just (record { name = y.name; sort = sort }) v in
    with_term_is y v (process_instance (without (chosen env) y) p) ∙ ap (λ σ. process_instance (chosen τ) (process_instance σ p)) (without_absent env y free) ∙ (instance_append laws) env τ ground p

pub bound_pattern : (laws : Laws) → (σ : Choice) (env : Env) → GroundEnv env → (m : Tree) (p : Proc) → with_choice σ (tree_vars (term_under env m)) (under env p) ≡ under (widened env σ (tree_vars m)) p
bound_pattern laws σ env ground m p = with_choice_is σ (tree_vars (term_under env m)) (under env p) ∙ (after_pattern laws) σ env ground m p

pub bound_facts : (laws : Laws) → (σ : Choice) (env : Env) → GroundEnv env → (l a o : List Fact) (p : Proc) → with_choice σ (facts_vars (instance_facts (chosen env) l ++ (instance_facts (chosen env) a ++ instance_facts (chosen env) o))) (under env p) ≡ under (widened env σ (facts_vars (l ++ (a ++ o)))) p
bound_facts laws σ env ground l a o p =
    let joined : instance_facts (chosen env) (l ++ (a ++ o)) ≡ instance_facts (chosen env) l ++ (instance_facts (chosen env) a ++ instance_facts (chosen env) o) = map_joined (instance_fact (chosen env)) l (a ++ o) ∙ ap (λ z. map (instance_fact (chosen env)) l ++ z) (map_joined (instance_fact (chosen env)) a o) in
    with_choice_is σ (facts_vars (instance_facts (chosen env) l ++ (instance_facts (chosen env) a ++ instance_facts (chosen env) o))) (under env p) ∙ ap (λ z. process_instance (chosen (bind σ (facts_vars z))) (under env p)) (sym joined) ∙ (after_facts laws) σ env ground (l ++ (a ++ o)) p

module _ (g : Sig) (start : Proc) (agents : List (Option Agent)) (c : Config) (tr : Trace) (s : RuleState) (full : Trace) (h : AtRest g start agents c tr s full) where
  -- both sides move, and rest again
  pub answers : {move : ProcessMove} {label : List Fact} {d : Config} {moves : List RuleMove} {more : Trace} {z : RuleState} {agents' : List (Option Agent)} → IsProcessMove g c move label d → RuleMoves g (rules_of start) s moves more z → Related g start agents' None d (tr ++ shown label) z (full ++ more) → total is_unborn agents' ≡ 0 → total is_semi agents' ≡ 0 → Answers g start c tr s full move label d moves more z agents'
  answers m moves r started calm = record { process = m; rules = moves; rest = record { reached = ProcessRun.further h.reached m.step; ran = run_on h.ran moves; related = r; started = started; calm = calm } }

  -- where one thread becomes this
  pub answers_set : {move : ProcessMove} {label : List Fact} {d : Config} {moves : List RuleMove} {more : Trace} {z : RuleState} (t : ℕ) (old new : Option Agent) → slice_get agents t ≡ Some old → is_unborn new ≡ 0 → is_semi new ≡ 0 → IsProcessMove g c move label d → RuleMoves g (rules_of start) s moves more z → Related g start (slice_set agents t new) None d (tr ++ shown label) z (full ++ more) → Answers g start c tr s full move label d moves more z (slice_set agents t new)
  answers_set t old new e a b m moves r = answers m moves r (zero_set is_unborn agents t old new e a h.started) (zero_set is_semi agents t old new e b h.calm)

  -- and one comes
  pub answers_push : {move : ProcessMove} {label : List Fact} {d : Config} {moves : List RuleMove} {more : Trace} {z : RuleState} (t : ℕ) (old new last : Option Agent) → slice_get agents t ≡ Some old → is_unborn new ≡ 0 → is_semi new ≡ 0 → is_unborn last ≡ 0 → is_semi last ≡ 0 → IsProcessMove g c move label d → RuleMoves g (rules_of start) s moves more z → Related g start (slice_set agents t new ++ last ∷ []) None d (tr ++ shown label) z (full ++ more) → Answers g start c tr s full move label d moves more z (slice_set agents t new ++ last ∷ [])
  answers_push t old new last e a b i j m moves r = answers m moves r (zero_push is_unborn (slice_set agents t new) last i (zero_set is_unborn agents t old new e a h.started)) (zero_push is_semi (slice_set agents t new) last j (zero_set is_semi agents t old new e b h.calm))
