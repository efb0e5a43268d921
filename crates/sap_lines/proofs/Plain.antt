-- Processes whose patterns are patterns, and whose embedded rules have no name with two sorts.
use Rattle.std.proofs.Common.{◌≡◌, Bool, true, false, List, [], ◌∷◌, ◌++◌, map, if◌then◌else◌, refl, sym, ap, subst, ◌∙◌, ◌⊎◌, inl, inr, arith}
use Rattle.std.specs.Prelude.{All, Contains}
use Rattle.std.specs.Str.{bytes_eq}
use Rattle.std.proofs.lemmas.List.{map-append}
use Rattle.std.proofs.lemmas.List.Elements.{All-nil, All-cons, All-head, All-tail, Contains-append_left, Contains-append_right, Contains-append_cases}
use Rattle.sap_terms.specs.Choice.{Choice, instance, instances}
use Rattle.sap_terms.specs.Equations.{equations}
use Rattle.sap_terms.specs.Ground.{IsGround, AreGround}
use Rattle.sap_terms.specs.Modulo.{instance_fact, instance_facts}
use Rattle.sap_terms.specs.Normal.{IsNormal, AreNormal, EachSubtermWithin}
use Rattle.sap_terms.specs.Signature.{Sig}
use Rattle.sap_terms.specs.Tree.{Tree, variable, public, fresh, apply, Trees, none, more, trees_of}
use Rattle.sap_terms.specs.Variables.{tree_vars, trees_vars, facts_vars}
use Rattle.sap_terms.specs.declared.fact.Fact.{Fact}
use Rattle.sap_terms.specs.declared.var.Var.{Var}
use Rattle.sap_rewrite.specs.Match.{HaveOneSort}
use Rattle.sap_rewrite.specs.Pattern.{IsPattern, HeadsDestructor}
use Rattle.sap_process.specs.Action as action
use Rattle.sap_process.specs.Action.{Action}
use Rattle.sap_process.specs.Heads.{facts_terms, action_patterns}
use Rattle.sap_process.specs.Instance.{action_instance, without, behind, process_instance}
use Rattle.sap_process.specs.Proc as whole
use Rattle.sap_process.specs.Proc.{Proc, act}

-- no name of an embedded rule has two sorts
abbrev pub HasOneSort : Action → Type 0
HasOneSort (action.embedded l e r) = HaveOneSort (facts_vars (l ++ (e ++ r)))
HasOneSort _ = Unit {0}

-- so it is with each action, and its patterns are patterns
abbrev pub IsPlain : Sig → Proc → Type 0
IsPlain g whole.nil = Unit {0}
IsPlain g (whole.parallel p q) = IsPlain g p × IsPlain g q
IsPlain g (whole.replicated p) = IsPlain g p
IsPlain g (act a p) = All (IsPattern (equations g)) (action_patterns a) × HasOneSort a × IsPlain g p
IsPlain g (whole.test t u p q) = IsPlain g p × IsPlain g q
IsPlain g (whole.lookup t x p q) = IsPlain g p × IsPlain g q

-- a variable is left as it is, or stands for a ground normal term
abbrev pub Keeps : Sig → Choice → Type 0
Keeps g σ = (v : Var) → (σ v ≡ variable v) ⊎ (IsGround (σ v) × IsNormal (equations g) (σ v))

module _ (g : Sig) where
  mutual
    ground_pattern : (t : Tree) → IsGround t → IsNormal (equations g) t → IsPattern (equations g) t
    ground_pattern (variable v) h n = absurd h
    ground_pattern (public a) h n = λ never. absurd never
    ground_pattern (fresh k) h n = λ never. absurd never
    ground_pattern (apply f ts) h n = ((λ d. (h, n)), ground_patterns ts h n.1)

    ground_patterns : (ts : Trees) → AreGround ts → AreNormal (equations g) ts → EachSubtermWithin (λ t. HeadsDestructor (equations g) t → IsGround t × IsNormal (equations g) t) ts
    ground_patterns none h n = tt
    ground_patterns (more t ts) h n = (ground_pattern t h.0 n.0, ground_patterns ts h.1 n.1)

  mutual
    ground_same : (σ : Choice) (t : Tree) → IsGround t → instance σ t ≡ t
    ground_same σ (variable v) h = absurd h
    ground_same σ (public a) h = refl
    ground_same σ (fresh k) h = refl
    ground_same σ (apply f ts) h = ap (apply f) (grounds_same σ ts h)

    grounds_same : (σ : Choice) (ts : Trees) → AreGround ts → instances σ ts ≡ ts
    grounds_same σ none h = refl
    grounds_same σ (more t ts) h = λ i. more (ground_same σ t h.0 i) (grounds_same σ ts h.1 i)

  mutual
    pattern_instance : (σ : Choice) → Keeps g σ → (t : Tree) → IsPattern (equations g) t → IsPattern (equations g) (instance σ t)
    pattern_instance σ keeps (variable v) h = elim (keeps v) [
      | inl is ↦ subst (IsPattern (equations g)) (sym is) h
      | inr k ↦ ground_pattern (σ v) k.0 k.1
    ]
    pattern_instance σ keeps (public a) h = h
    pattern_instance σ keeps (fresh k) h = h
    pattern_instance σ keeps (apply f ts) h =
        ((λ d. (let r = h.0 d in subst (λ t. IsGround t × IsNormal (equations g) t) (sym (ground_same σ (apply f ts) r.0)) r)), patterns_instance σ keeps ts h.1)

    patterns_instance : (σ : Choice) → Keeps g σ → (ts : Trees) → EachSubtermWithin (λ t. HeadsDestructor (equations g) t → IsGround t × IsNormal (equations g) t) ts → EachSubtermWithin (λ t. HeadsDestructor (equations g) t → IsGround t × IsNormal (equations g) t) (instances σ ts)
    patterns_instance σ keeps none h = tt
    patterns_instance σ keeps (more t ts) h = (pattern_instance σ keeps t h.0, patterns_instance σ keeps ts h.1)

  list_instance : (σ : Choice) → Keeps g σ → (ts : List Tree) → All (IsPattern (equations g)) ts → All (IsPattern (equations g)) (map (instance σ) ts)
  list_instance σ keeps [] h = All-nil (IsPattern (equations g))
  list_instance σ keeps (t ∷ ts) h =
      All-cons (IsPattern (equations g)) (instance σ t) (map (instance σ) ts) (pattern_instance σ keeps t (All-head (IsPattern (equations g)) t ts h)) (list_instance σ keeps ts (All-tail (IsPattern (equations g)) t ts h))

  terms_instance : (σ : Choice) (fs : List Fact) → facts_terms (instance_facts σ fs) ≡ map (instance σ) (facts_terms fs)
  terms_instance σ [] = refl
  terms_instance σ (f ∷ fs) = ap (λ ts. map (instance σ) f.args ++ ts) (terms_instance σ fs) ∙ sym (map-append (instance σ) f.args (facts_terms fs))

  -- a ground term has no variables
  mutual
    no_vars : (t : Tree) → IsGround t → (v : Var) → Contains (tree_vars t) v → ⊥
    no_vars (variable w) h v m = h
    no_vars (public a) h v m = omega (arith, m.1)
    no_vars (fresh k) h v m = omega (arith, m.1)
    no_vars (apply f ts) h v m = no_vars_within ts h v m

    no_vars_within : (ts : Trees) → AreGround ts → (v : Var) → Contains (trees_vars ts) v → ⊥
    no_vars_within none h v m = omega (arith, m.1)
    no_vars_within (more t ts) h v m = elim (Contains-append_cases (tree_vars t) (trees_vars ts) v m) [ inl k ↦ no_vars t h.0 v k | inr k ↦ no_vars_within ts h.1 v k ]

  -- what is replaced leaves no other variables
  mutual
    vars_left : (σ : Choice) → Keeps g σ → (t : Tree) (v : Var) → Contains (tree_vars (instance σ t)) v → Contains (tree_vars t) v
    vars_left σ keeps (variable w) v m = elim (keeps w) [
      | inl is ↦ subst (λ t. Contains (tree_vars t) v) is m
      | inr k ↦ absurd (no_vars (σ w) k.0 v m)
    ]
    vars_left σ keeps (public a) v m = m
    vars_left σ keeps (fresh k) v m = m
    vars_left σ keeps (apply f ts) v m = all_vars_left σ keeps ts v m

    all_vars_left : (σ : Choice) → Keeps g σ → (ts : Trees) (v : Var) → Contains (trees_vars (instances σ ts)) v → Contains (trees_vars ts) v
    all_vars_left σ keeps none v m = m
    all_vars_left σ keeps (more t ts) v m = elim (Contains-append_cases (tree_vars (instance σ t)) (trees_vars (instances σ ts)) v m) [
      | inl k ↦ Contains-append_left (tree_vars t) (trees_vars ts) v (vars_left σ keeps t v k)
      | inr k ↦ Contains-append_right (tree_vars t) (trees_vars ts) v (all_vars_left σ keeps ts v k)
    ]

  facts_vars_left : (σ : Choice) → Keeps g σ → (fs : List Fact) (v : Var) → Contains (facts_vars (instance_facts σ fs)) v → Contains (facts_vars fs) v
  facts_vars_left σ keeps [] v m = m
  facts_vars_left σ keeps (f ∷ fs) v m = elim (Contains-append_cases (trees_vars (trees_of (map (instance σ) f.args))) (facts_vars (instance_facts σ fs)) v m) [
    | inl k ↦ Contains-append_left (trees_vars (trees_of f.args)) (facts_vars fs) v (args_left f.args k)
    | inr k ↦ Contains-append_right (trees_vars (trees_of f.args)) (facts_vars fs) v (facts_vars_left σ keeps fs v k)
  ]
    where
      args_left : (ts : List Tree) → Contains (trees_vars (trees_of (map (instance σ) ts))) v → Contains (trees_vars (trees_of ts)) v
      args_left [] m = m
      args_left (t ∷ ts) m = elim (Contains-append_cases (tree_vars (instance σ t)) (trees_vars (trees_of (map (instance σ) ts))) v m) [
        | inl k ↦ Contains-append_left (tree_vars t) (trees_vars (trees_of ts)) v (vars_left σ keeps t v k)
        | inr k ↦ Contains-append_right (tree_vars t) (trees_vars (trees_of ts)) v (args_left ts k)
      ]

  one_sort_left : (σ : Choice) → Keeps g σ → (fs : List Fact) → HaveOneSort (facts_vars fs) → HaveOneSort (facts_vars (instance_facts σ fs))
  one_sort_left σ keeps fs h v w m k e = h v w (facts_vars_left σ keeps fs v m) (facts_vars_left σ keeps fs w k) e

  -- an instance of a plain action, and of a plain process
  sorts_instance : (σ : Choice) → Keeps g σ → (a : Action) → HasOneSort a → HasOneSort (action_instance σ a)
  sorts_instance σ keeps (action.embedded l e r) h =
      let joined : instance_facts σ (l ++ (e ++ r)) ≡ instance_facts σ l ++ (instance_facts σ e ++ instance_facts σ r) =
      map-append (instance_fact σ) l (e ++ r) ∙ ap (λ fs. instance_facts σ l ++ fs) (map-append (instance_fact σ) e r)
      in
      subst (λ fs. HaveOneSort (facts_vars fs)) joined (one_sort_left σ keeps (l ++ (e ++ r)) h)
  sorts_instance σ keeps (action.new x) h = tt
  sorts_instance σ keeps (action.out t) h = tt
  sorts_instance σ keeps (action.send t u) h = tt
  sorts_instance σ keeps (action.input t) h = tt
  sorts_instance σ keeps (action.receive t u) h = tt
  sorts_instance σ keeps (action.event f) h = tt
  sorts_instance σ keeps (action.insert t u) h = tt
  sorts_instance σ keeps (action.delete t) h = tt
  sorts_instance σ keeps (action.lock t n) h = tt
  sorts_instance σ keeps (action.unlock t n) h = tt

  pattern_terms : (σ : Choice) (a : Action) → action_patterns (action_instance σ a) ≡ map (instance σ) (action_patterns a)
  pattern_terms σ (action.embedded l e r) = terms_instance σ l
  pattern_terms σ (action.new x) = refl
  pattern_terms σ (action.out t) = refl
  pattern_terms σ (action.send t u) = refl
  pattern_terms σ (action.input t) = refl
  pattern_terms σ (action.receive t u) = refl
  pattern_terms σ (action.event f) = refl
  pattern_terms σ (action.insert t u) = refl
  pattern_terms σ (action.delete t) = refl
  pattern_terms σ (action.lock t n) = refl
  pattern_terms σ (action.unlock t n) = refl

  without_keeps : (σ : Choice) (x : Var) → Keeps g σ → Keeps g (without σ x)
  without_keeps σ x keeps v = at (bytes_eq x.name v.name) where
    at : (b : Bool) → ((if b then variable v else σ v) ≡ variable v) ⊎ (IsGround (if b then variable v else σ v) × IsNormal (equations g) (if b then variable v else σ v))
    at true = inl refl
    at false = keeps v

  behind_keeps : (σ : Choice) (a : Action) → Keeps g σ → Keeps g (behind σ a)
  behind_keeps σ (action.new x) keeps = without_keeps σ x keeps
  behind_keeps σ (action.out t) keeps = keeps
  behind_keeps σ (action.send t u) keeps = keeps
  behind_keeps σ (action.input t) keeps = keeps
  behind_keeps σ (action.receive t u) keeps = keeps
  behind_keeps σ (action.event f) keeps = keeps
  behind_keeps σ (action.insert t u) keeps = keeps
  behind_keeps σ (action.delete t) keeps = keeps
  behind_keeps σ (action.lock t n) keeps = keeps
  behind_keeps σ (action.unlock t n) keeps = keeps
  behind_keeps σ (action.embedded l e r) keeps = keeps

  pub plain_instance : (p : Proc) (σ : Choice) → Keeps g σ → IsPlain g p → IsPlain g (process_instance σ p)
  plain_instance whole.nil σ keeps h = tt
  plain_instance (whole.parallel p q) σ keeps h = (plain_instance p σ keeps h.0, plain_instance q σ keeps h.1)
  plain_instance (whole.replicated p) σ keeps h = plain_instance p σ keeps h
  plain_instance (act a p) σ keeps h = (
    subst (All (IsPattern (equations g))) (sym (pattern_terms σ a)) (list_instance σ keeps (action_patterns a) h.0),
    sorts_instance σ keeps a h.1,
    plain_instance p (behind σ a) (behind_keeps σ a keeps) h.2,
  )
  plain_instance (whole.test t u p q) σ keeps h = (plain_instance p σ keeps h.0, plain_instance q σ keeps h.1)
  plain_instance (whole.lookup t x p q) σ keeps h = (plain_instance p (without σ x) (without_keeps σ x keeps) h.0, plain_instance q σ keeps h.1)
