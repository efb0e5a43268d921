-- What is evaluated under the bindings found is a use of the rule.
use Rattle.std.proofs.Common.{◌≡◌, ℕ, ◌<◌, ◌≤◌, suc, List, [], ◌∷◌, ◌++◌, length, map, Some, inl, inr, refl, sym, ap, subst, ◌∙◌, true, IsTrue}
use Rattle.std.specs.Prelude.{All, Contains}
use Rattle.std.specs.List.{AllZip}
use Rattle.std.proofs.lemmas.Bool.{cases_lt}
use Rattle.std.proofs.lemmas.List.{append-nil, map-append}
use Rattle.std.proofs.lemmas.List.Elements.{All-head, All-tail, All-nil, All-cons, All-weaker, All-contains_itself, Contains-append_left, Contains-append_right, Contains-append_cases}
use Rattle.sap_terms.specs.Choice.{Choice, fits_sort, instance, instances}
use Rattle.sap_terms.specs.Equal.{IsTheoryEqual}
use Rattle.sap_terms.specs.Ground.{IsGround, AreGround}
use Rattle.sap_terms.specs.Message.{IsMessage, IsMessageChoice, IsOver, AreOver, IsFactOver}
use Rattle.sap_terms.specs.Modulo.{instance_fact, instance_facts, AreEqualFacts, AreFormsOfFacts}
use Rattle.sap_terms.specs.Normal.{IsNormalForm}
use Rattle.sap_terms.specs.Signature.{Sig, HoldsBuiltins}
use Rattle.sap_terms.specs.Equations.{Equations, equations}
use Rattle.sap_terms.specs.Tree.{Tree, variable, public, fresh, apply, Trees, none, more, trees_of, list_of, node_count}
use Rattle.sap_terms.specs.Variables.{facts_vars, tree_vars, trees_vars}
use Rattle.sap_terms.specs.View.{tree}
use Rattle.sap_terms.specs.declared.binding.Binding.{Binding}
use Rattle.sap_terms.specs.declared.fact.Fact.{Fact}
use Rattle.sap_terms.specs.declared.var.Var.{Var}
use Rattle.sap_terms.specs.declared.limits.TheConstants.{MOST_TERM_NODES}
use Rattle.sap_rewrite.specs.Around.{HoldAll, outer_vars, all_outer_vars, FittingGivesMessages}
use Rattle.sap_rewrite.specs.Large.{SomeSubterm, SomeSubtermWithin, itself, below, here, later, HasLargeForm}
use Rattle.sap_rewrite.specs.Match.{AllSorted, Agrees, bound_vars}
use Rattle.sap_rule.specs.Variables.{facts_outer_vars}
use Rattle.sap_rule.specs.declared.rule.Rule.{Rule}
use Rattle.sap_steps.specs.Faults.{FactHolds}
use Rattle.sap_sides.specs.Fitting.{ArgsFit, FactsFit}
use Rattle.sap_sides.specs.Forms.{SomeLarge, args_of, HaveArgs}
use Rattle.sap_sides.specs.Messages.{IsGroundFact}
use Rattle.sap_sides.specs.Messages.{IsSmallMessage, IsSmallMessageFact}
use Rattle.sap_steps.specs.Lines.{IsEvaluated, HasFewNodes, rule_terms}
use Rattle.sap_steps.specs.code.Firing.{Laws}
use Rattle.sap_steps.proofs.Vars.{nothing_in, item_cases, first_item, later_item}

-- each element is so
pub each_item : {X : Type 0} (P : X → Type 0) (xs : List X) → ((x : X) → Contains xs x → P x) → All P xs
each_item P xs h = All-weaker (Contains xs) P h xs (All-contains_itself xs)

pub agrees_at : (c : List Binding) (σ : Choice) (e : Binding) → Agrees c σ → Contains c e → σ e.var ≡ tree e.term
agrees_at [] σ e a m = absurd (nothing_in e m)
agrees_at (x ∷ xs) σ e a m = elim (item_cases x e xs m) as (λ _. σ e.var ≡ tree e.term) [
  | inl is ↦ subst (λ (y : Binding). σ y.var ≡ tree y.term) is a.0
  | inr further ↦ agrees_at xs σ e a.1 further
]

pub sorted_at : (c : List Binding) (e : Binding) → AllSorted c → Contains c e → fits_sort e.var.sort (tree e.term) ≡ true
sorted_at [] e s m = absurd (nothing_in e m)
sorted_at (x ∷ xs) e s m = elim (item_cases x e xs m) as (λ _. fits_sort e.var.sort (tree e.term) ≡ true) [
  | inl is ↦ subst (λ (y : Binding). fits_sort y.var.sort (tree y.term) ≡ true) is s.0
  | inr further ↦ sorted_at xs e s.1 further
]

pub var_at : (c : List Binding) (e : Binding) → Contains c e → Contains (bound_vars c) e.var
var_at [] e m = absurd (nothing_in e m)
var_at (x ∷ xs) e m = elim (item_cases x e xs m) as (λ _. Contains (bound_vars (x ∷ xs)) e.var) [
  | inl is ↦ subst (λ (y : Binding). Contains (bound_vars (x ∷ xs)) y.var) is (first_item x.var (bound_vars xs))
  | inr further ↦ later_item x.var e.var (bound_vars xs) (var_at xs e further)
]

-- what a fitting choice gives the outer variables are messages, where the facts' arguments are
args_message : FittingGivesMessages → (g : Sig) (σ : Choice) (ps ts : List Tree) → ArgsFit g ps ts σ → All (IsSmallMessage g) ts → (v : Var) → Contains (all_outer_vars g (trees_of ps)) v → IsTrue (fits_sort v.sort (σ v)) → IsMessage g v.sort (σ v)
args_message law g σ [] [] f h v m s = absurd (nothing_in v m)
args_message law g σ [] (t ∷ ts) f h v m s = absurd f
args_message law g σ (p ∷ ps) [] f h v m s = absurd f
args_message law g σ (p ∷ ps) (t ∷ ts) f h v m s =
    elim (Contains-append_cases (outer_vars g p) (all_outer_vars g (trees_of ps)) v m) as (λ _. IsMessage g v.sort (σ v)) [
      | inl a ↦ law g σ p t f.0 (All-head (IsSmallMessage g) t ts h).message v a s
      | inr o ↦ args_message law g σ ps ts f.1 (All-tail (IsSmallMessage g) t ts h) v o s
    ]

pub facts_message : FittingGivesMessages → (g : Sig) (σ : Choice) (fs hs : List Fact) → FactsFit g fs hs σ → All (IsSmallMessageFact g) hs → (v : Var) → Contains (facts_outer_vars g fs) v → IsTrue (fits_sort v.sort (σ v)) → IsMessage g v.sort (σ v)
facts_message law g σ [] [] q h v m s = absurd (nothing_in v m)
facts_message law g σ [] (x ∷ xs) q h v m s = absurd q
facts_message law g σ (f ∷ fs) [] q h v m s = absurd q
facts_message law g σ (f ∷ fs) (x ∷ xs) q h v m s =
    elim (Contains-append_cases (all_outer_vars g (trees_of f.args)) (facts_outer_vars g fs) v m) as (λ _. IsMessage g v.sort (σ v)) [
      | inl a ↦ args_message law g σ f.args x.args q.0.args (All-head (IsSmallMessageFact g) x xs h) v a s
      | inr o ↦ facts_message law g σ fs xs q.1 (All-tail (IsSmallMessageFact g) x xs h) v o s
    ]

-- normal forms under two choices that are the same for the variables
args_same : (τ σ : Choice) (ts : List Tree) → ((t : Tree) → ((v : Var) → Contains (tree_vars t) v → Contains (trees_vars (trees_of ts)) v) → instance τ t ≡ instance σ t) → map (instance τ) ts ≡ map (instance σ) ts
args_same τ σ [] h = refl
args_same τ σ (t ∷ ts) h = λ i.
    h t (λ v m. Contains-append_left (tree_vars t) (trees_vars (trees_of ts)) v m) i ∷ args_same τ σ ts (λ u k. h u (λ v m. Contains-append_right (tree_vars t) (trees_vars (trees_of ts)) v (k v m))) i

pub facts_same : (τ σ : Choice) (fs : List Fact) → ((t : Tree) → ((v : Var) → Contains (tree_vars t) v → Contains (facts_vars fs) v) → instance τ t ≡ instance σ t) → instance_facts τ fs ≡ instance_facts σ fs
facts_same τ σ [] h = refl
facts_same τ σ (f ∷ fs) h =
    let args = args_same τ σ f.args (λ t k. h t (λ v m. Contains-append_left (trees_vars (trees_of f.args)) (facts_vars fs) v (k v m))) in
    let rest = facts_same τ σ fs (λ t k. h t (λ v m. Contains-append_right (trees_vars (trees_of f.args)) (facts_vars fs) v (k v m))) in
    λ i. record { name = f.name; persistent = f.persistent; args = args i } ∷ rest i

pub terms_instance : (σ : Choice) (fs : List Fact) → map (instance σ) (args_of fs) ≡ args_of (instance_facts σ fs)
terms_instance σ [] = refl
terms_instance σ (f ∷ fs) = map-append (instance σ) f.args (args_of fs) ∙ ap (λ xs. map (instance σ) f.args ++ xs) (terms_instance σ fs)

pub instances-list : (σ : Choice) (ts : List Tree) → instances σ (trees_of ts) ≡ trees_of (map (instance σ) ts)
instances-list σ [] = refl
instances-list σ (t ∷ ts) = ap (more (instance σ t)) (instances-list σ ts)

mutual
  some_map : (P Q : Tree → Type 0) → ((t : Tree) → P t → Q t) → {t : Tree} → SomeSubterm P t → SomeSubterm Q t
  some_map P Q f (itself {t} h) = itself (f t h)
  some_map P Q f (below s) = below (some_map_within P Q f s)

  some_map_within : (P Q : Tree → Type 0) → ((t : Tree) → P t → Q t) → {ts : Trees} → SomeSubtermWithin P ts → SomeSubtermWithin Q ts
  some_map_within P Q f (here s) = here (some_map P Q f s)
  some_map_within P Q f (later s) = later (some_map_within P Q f s)

mutual
  -- some subterm that is so, named
  some_named : (P : Tree → Type 0) → {t : Tree} → SomeSubterm P t → (u : Tree) × P u × SomeSubterm (λ w. u ≡ w) t
  some_named P (itself {t} h) = (t, h, itself refl)
  some_named P (below s) = let q = some_named_within P s in (q.0, q.1, below q.2)

  some_named_within : (P : Tree → Type 0) → {ts : Trees} → SomeSubtermWithin P ts → (u : Tree) × P u × SomeSubtermWithin (λ w. u ≡ w) ts
  some_named_within P (here s) = let q = some_named P s in (q.0, q.1, here q.2)
  some_named_within P (later s) = let q = some_named_within P s in (q.0, q.1, later q.2)

-- a large form is one that is evaluated, and the other way round
large_form_within : (e : Equations) (most : ℕ) (ts : Trees) → SomeSubtermWithin (HasLargeForm e most) ts → (n : Tree) × SomeSubtermWithin (λ u. IsNormalForm e u n) ts × (most < node_count n)
large_form_within e most ts s =
    let q = some_named_within (HasLargeForm e most) s in
    (q.1.form, some_map_within (λ w. q.0 ≡ w) (λ u. IsNormalForm e u q.1.form) (λ t is. subst (λ u. IsNormalForm e u q.1.form) is q.1.is_form) q.2, q.1.large)

form_large_within : (e : Equations) (most : ℕ) (n : Tree) (ts : Trees) → most < node_count n → SomeSubtermWithin (λ u. IsNormalForm e u n) ts → SomeSubtermWithin (HasLargeForm e most) ts
form_large_within e most n ts l s = some_map_within (λ u. IsNormalForm e u n) (HasLargeForm e most) (λ t h. record { form = n; is_form = h; large = l }) s

pub large_evaluated : (g : Sig) (r : Rule) (σ : Choice) → SomeLarge g (map (instance σ) (rule_terms r)) → (n : Tree) × IsEvaluated g r σ n × (MOST_TERM_NODES < node_count n)
large_evaluated g r σ s = large_form_within (equations g) MOST_TERM_NODES _ (subst (SomeSubtermWithin (HasLargeForm (equations g) MOST_TERM_NODES)) (sym (instances-list σ (rule_terms r))) s)

pub evaluated_small : (g : Sig) (r : Rule) (σ : Choice) → (SomeLarge g (map (instance σ) (rule_terms r)) → ⊥) → (n : Tree) → IsEvaluated g r σ n → HasFewNodes n
evaluated_small g r σ h n s = elim (cases_lt MOST_TERM_NODES (node_count n)) as (λ _. node_count n ≤ MOST_TERM_NODES) [
  | inl l ↦ absurd (h (subst (SomeSubtermWithin (HasLargeForm (equations g) MOST_TERM_NODES)) (instances-list σ (rule_terms r)) (form_large_within (equations g) MOST_TERM_NODES n _ l s)))
  | inr k ↦ k
]

-- facts whose forms have the arguments of those that they fit are theory-equal to these
args_equal : (e : Equations) (us ns : List Tree) → AllZip (IsNormalForm e) us ns → AllZip (IsTheoryEqual e) us ns
args_equal e [] [] h = tt
args_equal e [] (n ∷ ns) h = absurd h
args_equal e (u ∷ us) [] h = absurd h
args_equal e (u ∷ us) (n ∷ ns) h = (h.0.equal, args_equal e us ns h.1)

pub facts_equal : (g : Sig) (σ : Choice) (fs ns hs : List Fact) → AreFormsOfFacts (equations g) (instance_facts σ fs) ns → HaveArgs ns hs → FactsFit g fs hs σ → AreEqualFacts (equations g) (instance_facts σ fs) hs
facts_equal g σ [] [] [] a b c = tt
facts_equal g σ (f ∷ fs) (n ∷ ns) (h ∷ hs) a b c = (
  record {
    name = c.0.name;
    persistent = c.0.persistent;
    args = subst (AllZip (IsTheoryEqual (equations g)) (map (instance σ) f.args)) b.0 (args_equal (equations g) (map (instance σ) f.args) n.args a.0.args);
  },
  facts_equal g σ fs ns hs a.1 b.1 c.1,
)
facts_equal g σ [] [] (h ∷ hs) a b c = absurd b
facts_equal g σ [] (n ∷ ns) hs a b c = absurd a
facts_equal g σ (f ∷ fs) [] hs a b c = absurd a
facts_equal g σ (f ∷ fs) (n ∷ ns) [] a b c = absurd b

-- where what destructors head holds, the forms have the arguments of the facts
args_hold : Laws → (g : Sig) (σ : Choice) (ps ns ts : List Tree) → IsMessageChoice g σ → All (IsSmallMessage g) ts → AllZip (IsNormalForm (equations g)) (map (instance σ) ps) ns → ArgsFit g ps ts σ → HoldAll g σ (trees_of ps) (trees_of ts) → ns ≡ ts
args_hold laws g σ [] [] [] m h a f q = refl
args_hold laws g σ (p ∷ ps) (n ∷ ns) (t ∷ ts) m h a f q =
    let held = (All-head (IsSmallMessage g) t ts h).message in
    let equal = (laws.modulo g σ p t (λ v. (m v).normal) held.normal).1 (f.0, q.0) in
    let one = laws.one_form (equations g) (instance σ p) n t a.0 (record { equal = equal; normal = held.normal }) in
    let rest = args_hold laws g σ ps ns ts m (All-tail (IsSmallMessage g) t ts h) a.1 f.1 q.1 in
    λ i. one i ∷ rest i
args_hold laws g σ [] [] (t ∷ ts) m h a f q = absurd f
args_hold laws g σ [] (n ∷ ns) ts m h a f q = absurd a
args_hold laws g σ (p ∷ ps) [] ts m h a f q = absurd a
args_hold laws g σ (p ∷ ps) (n ∷ ns) [] m h a f q = absurd f

pub facts_hold : Laws → (g : Sig) (σ : Choice) (fs ns hs : List Fact) → IsMessageChoice g σ → All (IsSmallMessageFact g) hs → AreFormsOfFacts (equations g) (instance_facts σ fs) ns → FactsFit g fs hs σ → AllZip (FactHolds g σ) fs hs → HaveArgs ns hs
facts_hold laws g σ [] [] [] m h a f q = tt
facts_hold laws g σ (x ∷ xs) (n ∷ ns) (y ∷ ys) m h a f q = (
  args_hold laws g σ x.args n.args y.args m (All-head (IsSmallMessageFact g) y ys h) a.0.args f.0.args q.0,
  facts_hold laws g σ xs ns ys m (All-tail (IsSmallMessageFact g) y ys h) a.1 f.1 q.1,
)
facts_hold laws g σ [] [] (y ∷ ys) m h a f q = absurd f
facts_hold laws g σ [] (n ∷ ns) hs m h a f q = absurd a
facts_hold laws g σ (x ∷ xs) [] hs m h a f q = absurd a
facts_hold laws g σ (x ∷ xs) (n ∷ ns) [] m h a f q = absurd f

-- the instance of a term over the signature is ground and over it
instances_length : (σ : Choice) (ts : Trees) → length (list_of (instances σ ts)) ≡ length (list_of ts)
instances_length σ none = refl
instances_length σ (more t ts) = ap suc (instances_length σ ts)

mutual
  instance_closed : (g : Sig) (σ : Choice) (t : Tree) → IsMessageChoice g σ → IsOver g t → IsGround (instance σ t) × IsOver g (instance σ t)
  instance_closed g σ (variable v) m o = ((m v).ground, (m v).over)
  instance_closed g σ (public n) m o = (tt, tt)
  instance_closed g σ (fresh k) m o = (tt, tt)
  instance_closed g σ (apply f ts) m o =
      let q = instances_closed g σ ts m o.1 in
      (q.0, (o.0 ∙ ap Some (sym (instances_length σ ts)), q.1))

  pub instances_closed : (g : Sig) (σ : Choice) (ts : Trees) → IsMessageChoice g σ → AreOver g ts → AreGround (instances σ ts) × AreOver g (instances σ ts)
  instances_closed g σ none m o = (tt, tt)
  instances_closed g σ (more t ts) m o =
      let x = instance_closed g σ t m o.0 in
      let y = instances_closed g σ ts m o.1 in
      ((x.0, y.0), (x.1, y.1))

-- so are the arguments of the instances of facts
pub facts_ground : (g : Sig) (σ : Choice) (fs : List Fact) → IsMessageChoice g σ → All (IsFactOver g) fs → All IsGroundFact (instance_facts σ fs)
facts_ground g σ [] m o = All-nil IsGroundFact
facts_ground g σ (f ∷ fs) m o =
    let first = subst AreGround (instances-list σ f.args) (instances_closed g σ (trees_of f.args) m (All-head (IsFactOver g) f fs o)).0 in
    All-cons IsGroundFact (instance_fact σ f) (instance_facts σ fs) first (facts_ground g σ fs m (All-tail (IsFactOver g) f fs o))

-- forms of terms over the signature are held, where none is large
small_form : (e : Equations) (t n : Tree) → IsNormalForm e t n → (SomeSubterm (HasLargeForm e MOST_TERM_NODES) t → ⊥) → node_count n ≤ MOST_TERM_NODES
small_form e t n h s = elim (cases_lt MOST_TERM_NODES (node_count n)) as (λ _. node_count n ≤ MOST_TERM_NODES) [
  | inl l ↦ absurd (s (whole t (record { form = n; is_form = h; large = l })))
  | inr k ↦ k
] where
  whole : (t : Tree) → HasLargeForm e MOST_TERM_NODES t → SomeSubterm (HasLargeForm e MOST_TERM_NODES) t
  whole t l = itself l

args_held : Laws → (g : Sig) (σ : Choice) (ts ns : List Tree) → HoldsBuiltins g → IsMessageChoice g σ → AreOver g (trees_of ts) → (SomeLarge g (map (instance σ) ts) → ⊥) → AllZip (IsNormalForm (equations g)) (map (instance σ) ts) ns → All (IsSmallMessage g) ns
args_held laws g σ [] [] k m o s a = All-nil (IsSmallMessage g)
args_held laws g σ (t ∷ ts) (n ∷ ns) k m o s a =
    let q = instance_closed g σ t m o.0 in
    All-cons (IsSmallMessage g) n ns (record { message = laws.forms g (instance σ t) n k q.0 q.1 a.0; small = small_form (equations g) (instance σ t) n a.0 (λ l. s (here l)) }) (args_held laws g σ ts ns k m o.1 (λ l. s (later l)) a.1)
args_held laws g σ [] (n ∷ ns) k m o s a = absurd a
args_held laws g σ (t ∷ ts) [] k m o s a = absurd a

pub facts_held : Laws → (g : Sig) (σ : Choice) (fs ns : List Fact) → HoldsBuiltins g → IsMessageChoice g σ → All (IsFactOver g) fs → (SomeLarge g (map (instance σ) (args_of fs)) → ⊥) → AreFormsOfFacts (equations g) (instance_facts σ fs) ns → All (IsSmallMessageFact g) ns
facts_held laws g σ [] [] k m o s a = All-nil (IsSmallMessageFact g)
facts_held laws g σ (f ∷ fs) (n ∷ ns) k m o s a =
    All-cons (IsSmallMessageFact g) n ns
    (args_held laws g σ f.args n.args k m (All-head (IsFactOver g) f fs o) (λ l. s (laws.parts.front g σ (f ∷ []) fs (subst (λ (xs : List Tree). SomeLarge g (map (instance σ) xs)) (sym (append-nil f.args)) l))) a.0.args)
    (facts_held laws g σ fs ns k m (All-tail (IsFactOver g) f fs o) (λ l. s (laws.parts.back g σ (f ∷ []) fs l)) a.1)
facts_held laws g σ [] (n ∷ ns) k m o s a = absurd a
facts_held laws g σ (f ∷ fs) [] k m o s a = absurd a
