-- A silent rule takes a fact in one way: the fact's name tells its place, and its arguments what the variables stand for.
use Rattle.std.proofs.Common.{◌≡◌, ℕ, ◌+◌, List, [], ◌∷◌, ◌++◌, map, Some, inl, inr, refl, sym, ap, subst, ◌∙◌, arith}
use Rattle.std.specs.Prelude.{All, Contains}
use Rattle.std.specs.List.{AllZip}
use Rattle.std.proofs.lemmas.List.Elements.{Contains-append_cases, All-contains}
use Rattle.std.proofs.lemmas.Option.{same_Some}
use Rattle.sap_terms.specs.Choice.{Choice, instance}
use Rattle.sap_terms.specs.Equal.{same}
use Rattle.sap_terms.specs.Equations.{equations}
use Rattle.sap_terms.specs.Message.{IsMessageChoice}
use Rattle.sap_terms.specs.Modulo.{instance_facts, AreFormsOfFacts}
use Rattle.sap_terms.specs.Normal.{IsNormalForm}
use Rattle.sap_terms.specs.Signature.{Sig}
use Rattle.sap_terms.specs.Tree.{Tree, variable, trees_of}
use Rattle.sap_terms.specs.Variables.{facts_vars, tree_vars, trees_vars}
use Rattle.sap_terms.specs.declared.fact.Fact.{Fact}
use Rattle.sap_terms.specs.declared.var.Var.{Var}
use Rattle.sap_terms.proofs.PlainLaws.Choices.{Agree}
use Rattle.sap_terms.proofs.PlainLaws.Items.{none_contained, cons_cases, first_item, later_item}
use Rattle.sap_process.specs.Action.{out}
use Rattle.sap_process.specs.Places.{place}
use Rattle.sap_process.specs.Proc.{Proc, nil, parallel, replicated, act}
use Rattle.sap_terms.specs.AdversaryFacts.{out_fact}
use Rattle.sap_place.specs.StateFacts.{digits, copies_fact}
use Rattle.sap_rewrite.specs.Laws.{FormIsOne}
use Rattle.sap_rule.specs.Variables.{rule_vars}
use Rattle.sap_rule.specs.declared.rule.Rule.{Rule}
use Rattle.sap_templates.specs.Places.{ScopedPlace, root, scoped_place_at}
use Rattle.sap_templates.specs.Templates.{state, init_rule, nil_rule, out_rule, parallel_rule, rep_start_rule}
use Rattle.sap_attacks.specs.OneAnswer.{OutputsAreInScope}
use Rattle.sap_attacks.specs.Settling.{Use, IsReplacedInOneWay}
use Rattle.sap_attacks.specs.Silent.{silent_rule, IsSilentRule}
use Rattle.sap_attacks.specs.SilentUses.{IsInstance, IsSilentUse, use_of}
use Rattle.sap_attacks.proofs.Chosen.{agree_use, all_agree, instance_one}

digits_same : (p q : List ℕ) → digits p ≡ digits q → p ≡ q
digits_same [] [] e = refl
digits_same [] (y ∷ q) e = absurd (cc)
digits_same (x ∷ p) [] e = absurd (cc)
digits_same (x ∷ p) (y ∷ q) e =
    let head : 48 + x ≡ 48 + y = cc in
    let tail : digits p ≡ digits q = cc in
    let same : x ≡ y = omega arith in
    let rest : p ≡ q = digits_same p q tail in
    cc

-- state facts of one name are of one place
path_told : (p q : List ℕ) (v w : List Var) → (state p v).name ≡ (state q w).name → p ≡ q
path_told p q v w e = digits_same p q (cc)

-- a silent rule takes the state fact of its place alone
pub silent_left : (path : List ℕ) (v : List Var) (b : Proc) (r : Rule) → silent_rule path v b ≡ Some r → r.left ≡ state path v ∷ []
silent_left path v nil r e = ap (λ (q : Rule). q.left) (sym (same_Some (nil_rule path v) r e))
silent_left path v (parallel a b) r e = ap (λ (q : Rule). q.left) (sym (same_Some (parallel_rule path v) r e))
silent_left path v (replicated a) r e = ap (λ (q : Rule). q.left) (sym (same_Some (rep_start_rule path v) r e))
silent_left path v (act (out t) a) r e = ap (λ (q : Rule). q.left) (sym (same_Some (out_rule path v t) r e))
silent_left path v _ r e = cc

-- the rule that starts the run isn't silent
pub start_is_loud : (p : Proc) → IsSilentRule p init_rule → ⊥
start_is_loud p s =
    let e : [] ≡ state s.path s.scope ∷ [] = silent_left s.path s.scope s.body init_rule s.is in
    absurd (cc)

own_vars : (vs : List Var) (w : Var) → Contains (trees_vars (trees_of (map variable vs))) w → Contains vs w
own_vars [] w c = absurd (none_contained c)
own_vars (v ∷ vs) w c = elim (cons_cases v (trees_vars (trees_of (map variable vs))) w c) [
  | inl e ↦ subst (λ u. Contains (v ∷ vs) u) e (first_item v vs)
  | inr d ↦ later_item v vs w (own_vars vs w d)
]

-- the facts have no other variables than these
abbrev Have : List Var → List Fact → Type 0
Have vs fs = (w : Var) → Contains (facts_vars fs) w → Contains vs w

have_none : (vs : List Var) → Have vs []
have_none vs w c = absurd (none_contained c)

have_more : (vs : List Var) (f : Fact) (fs : List Fact) → ((w : Var) → Contains (trees_vars (trees_of f.args)) w → Contains vs w) → Have vs fs → Have vs (f ∷ fs)
have_more vs f fs h k w c = elim (Contains-append_cases (trees_vars (trees_of f.args)) (facts_vars fs) w c) [ inl d ↦ h w d | inr d ↦ k w d ]

have_sides : (vs : List Var) (left acts right : List Fact) → Have vs left → Have vs acts → Have vs right
    → (w : Var) → Contains (facts_vars left ++ (facts_vars acts ++ facts_vars right)) w → Contains vs w
have_sides vs left acts right a b c w m = elim (Contains-append_cases (facts_vars left) (facts_vars acts ++ facts_vars right) w m) [
  | inl d ↦ a w d
  | inr d ↦ elim (Contains-append_cases (facts_vars acts) (facts_vars right) w d) [ inl e ↦ b w e | inr e ↦ c w e ]
]

have_own : (vs : List Var) (f : Fact) (fs : List Fact) → f.args ≡ map variable vs → Have vs fs → Have vs (f ∷ fs)
have_own vs f fs e k = have_more vs f fs (λ w c. own_vars vs w (subst (λ ts. Contains (trees_vars (trees_of ts)) w) e c)) k

in_scope : (vs : List Var) (t : Tree) → All (Contains vs) (tree_vars t) → (w : Var) → Contains (tree_vars t ++ []) w → Contains vs w
in_scope vs t a w c = elim (Contains-append_cases (tree_vars t) [] w c) [ inl d ↦ All-contains (Contains vs) (tree_vars t) w a d | inr d ↦ absurd (none_contained d) ]

-- its variables are those in scope
silent_vars : (path : List ℕ) (v : List Var) (b : Proc) (r : Rule) → ((t : Tree) (q : Proc) → b ≡ act (out t) q → All (Contains v) (tree_vars t))
    → silent_rule path v b ≡ Some r → (w : Var) → Contains (rule_vars r) w → Contains v w
silent_vars path v nil r h e w c =
    let s = subst (λ (q : Rule). Contains (rule_vars q) w) (sym (same_Some (nil_rule path v) r e)) c in
    let k = nil_rule path v in
    have_sides v k.left k.acts k.right (have_own v (state path v) [] refl (have_none v)) (have_none v) (have_none v) w s
silent_vars path v (parallel a b) r h e w c =
    let s = subst (λ (q : Rule). Contains (rule_vars q) w) (sym (same_Some (parallel_rule path v) r e)) c in
    let k = parallel_rule path v in
    have_sides v k.left k.acts k.right (have_own v (state path v) [] refl (have_none v)) (have_none v)
    (have_own v (state (path ++ 1 ∷ []) v) (state (path ++ 2 ∷ []) v ∷ []) refl (have_own v (state (path ++ 2 ∷ []) v) [] refl (have_none v))) w s
silent_vars path v (replicated a) r h e w c =
    let s = subst (λ (q : Rule). Contains (rule_vars q) w) (sym (same_Some (rep_start_rule path v) r e)) c in
    let k = rep_start_rule path v in
    have_sides v k.left k.acts k.right (have_own v (state path v) [] refl (have_none v)) (have_none v) (have_own v (copies_fact path (map variable v)) [] refl (have_none v)) w s
silent_vars path v (act (out t) a) r h e w c =
    let s = subst (λ (q : Rule). Contains (rule_vars q) w) (sym (same_Some (out_rule path v t) r e)) c in
    let k = out_rule path v t in
    have_sides v k.left k.acts k.right (have_own v (state path v) [] refl (have_none v)) (have_none v)
    (have_more v (out_fact t) (state (path ++ 1 ∷ []) v ∷ []) (in_scope v t (h t a refl)) (have_own v (state (path ++ 1 ∷ []) v) [] refl (have_none v))) w s
silent_vars path v _ r h e w c = cc

module _ (one : FormIsOne) (g : Sig) where
  -- the arguments of a state fact tell what its variables stand for
  args_tell : (σ τ : Choice) (vs : List Var) (ts : List Tree) → IsMessageChoice g σ → IsMessageChoice g τ
      → AllZip (IsNormalForm (equations g)) (map (instance σ) (map variable vs)) ts → AllZip (IsNormalForm (equations g)) (map (instance τ) (map variable vs)) ts
      → Agree σ τ vs
  args_tell σ τ [] ts m n a b v c = absurd (none_contained c)
  args_tell σ τ (x ∷ vs) [] m n a b v c = absurd a
  args_tell σ τ (x ∷ vs) (t ∷ ts) m n a b v c =
      let here : σ x ≡ t = one (equations g) (σ x) (σ x) t (record { equal = same; normal = (m x).normal }) a.0 in
      let there : τ x ≡ t = one (equations g) (τ x) (τ x) t (record { equal = same; normal = (n x).normal }) b.0 in
      elim (cons_cases x vs v c) [
        | inl e ↦ subst (λ u. σ u ≡ τ u) e (here ∙ sym there)
        | inr d ↦ args_tell σ τ vs ts m n a.1 b.1 v d
      ]

  module _ (p : Proc) (scoped : OutputsAreInScope p) where
    -- two uses of one rule on one fact are one
    use_once : (path : List ℕ) (v : List Var) (b : Proc) (r : Rule) → scoped_place_at (root p) path ≡ Some (place path v b) → silent_rule path v b ≡ Some r
        → (f : Fact) (σ τ : Choice) (more others : List Fact) → IsInstance g r σ (f ∷ []) [] more → IsInstance g r τ (f ∷ []) [] others
        → (use_of r σ ≡ use_of r τ) × (more ≡ others)
    use_once path v b r at is f σ τ more others x y =
        let left = silent_left path v b r is in
        let forms : (χ : Choice) (zs : List Fact) → IsInstance g r χ (f ∷ []) [] zs → AreFormsOfFacts (equations g) (instance_facts χ (state path v ∷ [])) (f ∷ []) =
        λ χ zs i. subst (λ hs. AreFormsOfFacts (equations g) (instance_facts χ hs) (f ∷ [])) left i.takes in
        let a = forms σ more x in
        let c = forms τ others y in
        let agree = args_tell σ τ v f.args x.messages y.messages a.0.args c.0.args in
        let all : Agree σ τ (rule_vars r) = λ w m. agree w (silent_vars path v b r (λ t q e. scoped path v t q (at ∙ ap (λ z. Some (place path v z)) e)) is w m) in
        (agree_use r σ τ (all_agree r σ τ all), (instance_one one g r σ τ (f ∷ []) (f ∷ []) [] [] more others all x y).right_is)

    -- the rule that takes a fact is told by the fact's name
    rule_once : (W : Tree → Type 0) (f : Fact) (u v : Use) (more others : List Fact) (a : IsSilentUse g W p f u more) (b : IsSilentUse g W p f v others) → b.rule ≡ a.rule
    rule_once W f u v more others a b =
        let x = a.silent in
        let y = b.silent in
        let name : (q : Rule) (χ : Choice) (zs : List Fact) (s : IsSilentRule p q) → IsInstance g q χ (f ∷ []) [] zs → f.name ≡ (state s.path s.scope).name =
        λ q χ zs s i. (subst (λ hs. AreFormsOfFacts (equations g) (instance_facts χ hs) (f ∷ [])) (silent_left s.path s.scope s.body q s.is) i.takes).0.name in
        let paths : y.path ≡ x.path =
        path_told y.path x.path y.scope x.scope (sym (name b.rule b.choice others y b.is_instance) ∙ name a.rule a.choice more x a.is_instance) in
        let places : place y.path y.scope y.body ≡ place x.path x.scope x.body =
        same_Some (place y.path y.scope y.body) (place x.path x.scope x.body) (sym y.stands ∙ ap (λ z. scoped_place_at (root p) z) paths ∙ x.stands) in
        same_Some b.rule a.rule (sym y.is ∙ ap (λ (z : ScopedPlace). silent_rule z.path z.above z.body) places ∙ x.is)

    pub silent_once : (W : Tree → Type 0) → IsReplacedInOneWay (IsSilentUse g W p)
    silent_once W f u v more others a b =
        let x = a.silent in
        let rules = rule_once W f u v more others a b in
        let two : IsInstance g a.rule b.choice (f ∷ []) [] others = subst (λ q. IsInstance g q b.choice (f ∷ []) [] others) rules b.is_instance in
        let r = use_once x.path x.scope x.body a.rule x.stands x.is f a.choice b.choice more others a.is_instance two in
        (a.is ∙ r.0 ∙ sym (b.is ∙ ap (λ q. use_of q b.choice) rules), r.1)

-- the rule that takes a state fact is that of its place
pub taker_of : (g : Sig) (p : Proc) (path : List ℕ) (v : List Var) (b : Proc) (f : Fact) → f.name ≡ (state path v).name → scoped_place_at (root p) path ≡ Some (place path v b)
    → (W : Tree → Type 0) (u : Use) (more : List Fact) (s : IsSilentUse g W p f u more) → silent_rule path v b ≡ Some s.rule
taker_of g p path v b f name at W u more s =
    let x = s.silent in
    let told : f.name ≡ (state x.path x.scope).name =
    (subst (λ hs. AreFormsOfFacts (equations g) (instance_facts s.choice hs) (f ∷ [])) (silent_left x.path x.scope x.body s.rule x.is) s.is_instance.takes).0.name in
    let paths : path ≡ x.path = path_told path x.path v x.scope (sym name ∙ told) in
    let places : place path v b ≡ place x.path x.scope x.body =
    same_Some (place path v b) (place x.path x.scope x.body) (sym at ∙ ap (λ z. scoped_place_at (root p) z) paths ∙ x.stands) in
    ap (λ (z : ScopedPlace). silent_rule z.path z.above z.body) places ∙ x.is
