-- What bindings and cited facts say of a choice, they say of each.
use Rattle.std.proofs.Common.{◌≡◌, true, false, List, [], ◌∷◌, ◌++◌, map, ◌⊎◌, inl, inr, refl, sym, ap, subst, ◌∙◌}
use Rattle.std.specs.Prelude.{All, Contains, if◌then◌else◌}
use Rattle.std.specs.List.{AllZip}
use Rattle.std.proofs.lemmas.List.Elements.{All-head, All-tail, Contains-append_left, Contains-append_right, Contains-append_cases}
use Rattle.sap_terms.specs.Choice.{Choice, instance, instances}
use Rattle.sap_terms.specs.Equal.{IsTheoryEqual}
use Rattle.sap_terms.specs.Equations.{equations}
use Rattle.sap_terms.specs.Message.{IsMessage, IsMessageChoice, IsMessageFact, AreMessageFacts}
use Rattle.sap_terms.specs.Modulo.{instance_facts, AreEqualFacts}
use Rattle.sap_terms.specs.Signature.{Sig, is_destructor_of}
use Rattle.sap_terms.specs.Tree.{Tree, variable, public, fresh, apply, Trees, none, more, trees_of}
use Rattle.sap_terms.specs.Variables.{facts_vars, tree_vars, trees_vars}
use Rattle.sap_terms.specs.declared.binding.Binding.{Binding}
use Rattle.sap_terms.specs.declared.fact.Fact.{Fact}
use Rattle.sap_terms.specs.declared.var.Sort.TheVariants.{Msg}
use Rattle.sap_terms.specs.declared.var.Var.{Var}
use Rattle.sap_rewrite.specs.Around.{outer_vars, all_outer_vars, FitsAround, FitAll, HoldAll, MatchingAroundIsModulo}
use Rattle.sap_rewrite.specs.Match.{Agrees, HaveOneSort, bound_vars}
use Rattle.sap_rule.specs.Variables.{facts_outer_vars, rule_vars, open_variables}
use Rattle.sap_rule.specs.declared.rule.Rule.{Rule}
use Rattle.sap_steps.specs.Faults.{FactFits, FactHolds}
use Rattle.sap_steps.specs.Lines.{rule_terms}
use Rattle.sap_sides.specs.Forms.{args_of}
use Rattle.sap_steps.proofs.Fired.{facts_vars_append}
use Rattle.sap_steps.proofs.Uses.{facts_same, terms_instance, instances-list}
use Rattle.sap_steps.proofs.Vars.{nothing_in, first_item, item_cases, covered}

-- two choices that turn a pattern into one tree around destructors are the same outside these
mutual
  fits_same : (g : Sig) (σ τ : Choice) (p t : Tree) (v : Var) → FitsAround g σ p t → FitsAround g τ p t → Contains (outer_vars g p) v → σ v ≡ τ v
  fits_same g σ τ (variable w) t v a b m = elim (item_cases w v [] m) as (λ _. σ v ≡ τ v) [
    | inl is ↦ subst (λ u. σ u ≡ τ u) is (a ∙ sym b)
    | inr never ↦ absurd (nothing_in v never)
  ]
  fits_same g σ τ (public n) t v a b m = absurd (nothing_in v m)
  fits_same g σ τ (fresh k) t v a b m = absurd (nothing_in v m)
  fits_same g σ τ (apply f ps) t v a b m = elim (is_destructor_of g f) as (λ r. (r ≡ true) ⊎ ((ts : Trees) × (t ≡ apply f ts) × FitAll g σ ps ts) → (r ≡ true) ⊎ ((ts : Trees) × (t ≡ apply f ts) × FitAll g τ ps ts) → Contains (if r then [] else all_outer_vars g ps) v → σ v ≡ τ v) [
    | true ↦ λ x y m. absurd (nothing_in v m)
    | false ↦ λ x y m. elim x [
      | inl never ↦ absurd (cc)
      | inr u ↦ elim y [
        | inl never ↦ absurd (cc)
        | inr w ↦
            let same : w.0 ≡ u.0 = cc (u.1, w.1) in
            all_fit_same g σ τ ps u.0 v u.2 (subst (FitAll g τ ps) same w.2) m
      ]
    ]
  ] a b m

  all_fit_same : (g : Sig) (σ τ : Choice) (ps ts : Trees) (v : Var) → FitAll g σ ps ts → FitAll g τ ps ts → Contains (all_outer_vars g ps) v → σ v ≡ τ v
  all_fit_same g σ τ none ts v a b m = absurd (nothing_in v m)
  all_fit_same g σ τ (more p ps) none v a b m = absurd a
  all_fit_same g σ τ (more p ps) (more t ts) v a b m =
      elim (Contains-append_cases (outer_vars g p) (all_outer_vars g ps) v m) as (λ _. σ v ≡ τ v) [
        | inl x ↦ fits_same g σ τ p t v a.0 b.0 x
        | inr y ↦ all_fit_same g σ τ ps ts v a.1 b.1 y
      ]

facts_fit_same : (g : Sig) (σ τ : Choice) (fs hs : List Fact) (v : Var) → AllZip (FactFits g σ) fs hs → AllZip (FactFits g τ) fs hs → Contains (facts_outer_vars g fs) v → σ v ≡ τ v
facts_fit_same g σ τ [] hs v a b m = absurd (nothing_in v m)
facts_fit_same g σ τ (f ∷ fs) [] v a b m = absurd a
facts_fit_same g σ τ (f ∷ fs) (h ∷ hs) v a b m =
    elim (Contains-append_cases (all_outer_vars g (trees_of f.args)) (facts_outer_vars g fs) v m) as (λ _. σ v ≡ τ v) [
      | inl x ↦ all_fit_same g σ τ (trees_of f.args) (trees_of h.args) v a.0.args b.0.args x
      | inr y ↦ facts_fit_same g σ τ fs hs v a.1 b.1 y
    ]

-- two that agree with one list of bindings are the same on its variables
bound_same : (b : List Binding) (σ τ : Choice) (v : Var) → Agrees b σ → Agrees b τ → Contains (bound_vars b) v → σ v ≡ τ v
bound_same [] σ τ v a c m = absurd (nothing_in v m)
bound_same (x ∷ xs) σ τ v a c m = elim (item_cases x.var v (bound_vars xs) m) as (λ _. σ v ≡ τ v) [
  | inl is ↦ subst (λ u. σ u ≡ τ u) is (a.0 ∙ sym c.0)
  | inr later ↦ bound_same xs σ τ v a.1 c.1 later
]

mutual
  instance_same : (σ τ : Choice) (t : Tree) → ((v : Var) → Contains (tree_vars t) v → σ v ≡ τ v) → instance σ t ≡ instance τ t
  instance_same σ τ (variable v) h = h v (first_item v [])
  instance_same σ τ (public n) h = refl
  instance_same σ τ (fresh k) h = refl
  instance_same σ τ (apply f ts) h = ap (apply f) (instances_same σ τ ts h)

  instances_same : (σ τ : Choice) (ts : Trees) → ((v : Var) → Contains (trees_vars ts) v → σ v ≡ τ v) → instances σ ts ≡ instances τ ts
  instances_same σ τ none h = refl
  instances_same σ τ (more t ts) h = λ i.
      more (instance_same σ τ t (λ v m. h v (Contains-append_left (tree_vars t) (trees_vars ts) v m)) i) (instances_same σ τ ts (λ v m. h v (Contains-append_right (tree_vars t) (trees_vars ts) v m)) i)

-- theory-equal facts fit around destructors, and what these head holds
args_fit : MatchingAroundIsModulo → (g : Sig) (σ : Choice) (ps ts : List Tree) → IsMessageChoice g σ → All (IsMessage g Msg) ts → AllZip (IsTheoryEqual (equations g)) (map (instance σ) ps) ts → FitAll g σ (trees_of ps) (trees_of ts) × HoldAll g σ (trees_of ps) (trees_of ts)
args_fit modulo g σ [] [] m h a = (tt, tt)
args_fit modulo g σ (p ∷ ps) (t ∷ ts) m h a =
    let one = (modulo g σ p t (λ v. (m v).normal) (All-head (IsMessage g Msg) t ts h).normal).0 a.0 in
    let rest = args_fit modulo g σ ps ts m (All-tail (IsMessage g Msg) t ts h) a.1 in
    ((one.0, rest.0), (one.1, rest.1))
args_fit modulo g σ [] (t ∷ ts) m h a = absurd a
args_fit modulo g σ (p ∷ ps) [] m h a = absurd a

pub facts_fit : MatchingAroundIsModulo → (g : Sig) (σ : Choice) (fs hs : List Fact) → IsMessageChoice g σ → AreMessageFacts g hs → AreEqualFacts (equations g) (instance_facts σ fs) hs → AllZip (FactFits g σ) fs hs × AllZip (FactHolds g σ) fs hs
facts_fit modulo g σ [] [] m h a = (tt, tt)
facts_fit modulo g σ (f ∷ fs) (x ∷ xs) m h a =
    let one = args_fit modulo g σ f.args x.args m (All-head (IsMessageFact g) x xs h) a.0.args in
    let rest = facts_fit modulo g σ fs xs m (All-tail (IsMessageFact g) x xs h) a.1 in
    ((record { name = a.0.name; persistent = a.0.persistent; args = one.0 }, rest.0), (one.1, rest.1))
facts_fit modulo g σ [] (x ∷ xs) m h a = absurd a
facts_fit modulo g σ (f ∷ fs) [] m h a = absurd a

module _ (g : Sig) (r : Rule) (b : List Binding) (cited : List Fact) (sorts : HaveOneSort (rule_vars r)) (open_ : bound_vars b ≡ open_variables g r) (σ τ : Choice) (agree_σ : Agrees b σ) (agree_τ : Agrees b τ) (fs : AllZip (FactFits g σ) r.left cited) (ft : AllZip (FactFits g τ) r.left cited) where
  same_on : (v : Var) → Contains (rule_vars r) v → σ v ≡ τ v
  same_on v m = elim (Contains-append_cases (bound_vars b) (facts_outer_vars g r.left) v (covered g r b sorts open_ v m)) as (λ _. σ v ≡ τ v) [
    | inl x ↦ bound_same b σ τ v agree_σ agree_τ x
    | inr y ↦ facts_fit_same g σ τ r.left cited v fs ft y
  ]

  -- the rule's left side is the same under both
  pub left_same : instance_facts σ r.left ≡ instance_facts τ r.left
  left_same = facts_same σ τ r.left (λ t k. instance_same σ τ t (λ v m. same_on v (Contains-append_left (facts_vars r.left) (facts_vars r.acts ++ facts_vars r.right) v (k v m))))

  -- so are what it shows and its right side
  pub acts_same : instance_facts σ r.acts ≡ instance_facts τ r.acts
  acts_same = facts_same σ τ r.acts (λ t k. instance_same σ τ t (λ v m. same_on v (Contains-append_right (facts_vars r.left) (facts_vars r.acts ++ facts_vars r.right) v (Contains-append_left (facts_vars r.acts) (facts_vars r.right) v (k v m)))))

  pub right_same : instance_facts σ r.right ≡ instance_facts τ r.right
  right_same = facts_same σ τ r.right (λ t k. instance_same σ τ t (λ v m. same_on v (Contains-append_right (facts_vars r.left) (facts_vars r.acts ++ facts_vars r.right) v (Contains-append_right (facts_vars r.acts) (facts_vars r.right) v (k v m)))))

  -- and all its terms are
  pub terms_same : instances σ (trees_of (rule_terms r)) ≡ instances τ (trees_of (rule_terms r))
  terms_same =
      let all = r.left ++ (r.acts ++ r.right) in
      let vars : facts_vars all ≡ rule_vars r = facts_vars_append r.left (r.acts ++ r.right) ∙ ap (λ vs. facts_vars r.left ++ vs) (facts_vars_append r.acts r.right) in
      let facts : instance_facts σ all ≡ instance_facts τ all = facts_same σ τ all (λ t k. instance_same σ τ t (λ v m. same_on v (subst (λ vs. Contains vs v) vars (k v m)))) in
      let terms : map (instance σ) (rule_terms r) ≡ map (instance τ) (rule_terms r) = terms_instance σ all ∙ ap args_of facts ∙ sym (terms_instance τ all) in
      instances-list σ (rule_terms r) ∙ ap trees_of terms ∙ sym (instances-list τ (rule_terms r))
