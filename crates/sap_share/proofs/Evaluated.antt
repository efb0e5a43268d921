-- What stands for variables as numbers are added, and which normal forms are large.
use Rattle.std.proofs.Common.{◌≡◌, ◌<◌, ◌≤◌, ◌+◌, ◌-◌, ◌^◌, ℕ, zero, suc, List, [], ◌∷◌, ◌++◌, length, take, drop, map, min, Some, None, Bool, true, false, if◌then◌else◌, refl, sym, ap, subst, ◌∙◌, arith, length-append}
use Rattle.std.specs.Prelude.{All, slice_get}
use Rattle.std.specs.List.{AllZip}
use Rattle.std.specs.Str.{bytes_eq}
use Rattle.std.proofs.lemmas.List.{length-map}
use Rattle.std.proofs.lemmas.List.Elements.{All-head, All-tail, All-push, AllZip-push, length_all_zip}
use Rattle.sap_terms.proofs.PlainLaws.Lists.{map_got, drop_got}
use Rattle.sap_terms.specs.Choice.{Choice, instance, instances}
use Rattle.sap_terms.specs.Equations.{Equations, equations}
use Rattle.sap_terms.specs.Ground.{IsGround, AreGround}
use Rattle.sap_terms.specs.Message.{IsOver}
use Rattle.sap_terms.specs.Normal.{IsNormal, AreNormal, IsNormalForm}
use Rattle.sap_terms.specs.Signature.{arity_of}
use Rattle.sap_terms.specs.Subterms.{SomeSubtermWithin, itself, below, here, later}
use Rattle.sap_terms.specs.Tree.{Tree, variable, apply, Trees, none, more, trees_of, list_of-trees_of, node_count, trees_count}
use Rattle.sap_terms.specs.declared.var.Var.{Var}
use Rattle.sap_rewrite.specs.Large.{HasLargeForm, HasLargeSubterm}
use Rattle.sap_rewrite.specs.Laws.{EqualityIsKept, FormIsOne}
use Rattle.sap_share.specs.Shared.{Shared, tree_at, trees_at, node_tree, AreBelow, Keeps, Gives}
use Rattle.sap_share.specs.Env.{given, AreSmallForms, IsSmallForm}
use Rattle.sap_share.specs.code.Found.{number_of_name}
use Rattle.sap_share.specs.declared.env.Bound.{Bound}
use Rattle.sap_share.specs.declared.node.Node.TheVariants.{App}
use Rattle.sap_share.proofs.Grown.{tree_at-front, trees_at-push}
use Rattle.sap_share.proofs.Kept.{keeps-self, keeps-both, keeps-below, keeps-trees}
use Rattle.sap_share.proofs.Reduced.{form_through}

-- the normal form of a number that was given, and its size
pub given_form : (s t : Shared) (k j : ℕ) (u : Tree) → Gives s t k u → IsNormalForm (equations t.sig) (tree_at t.trees k) (tree_at t.trees j) → IsNormalForm (equations s.sig) u (tree_at t.trees j)
given_form s t k j u g form = subst (λ v. IsNormalForm (equations s.sig) v (tree_at t.trees j)) g.tree (subst (λ x. IsNormalForm (equations x) (tree_at t.trees k) (tree_at t.trees j)) g.keeps.sig form)

pub size_small : (n most size : ℕ) → size ≡ min n (2 ^ 64 - 1) → size ≤ most → most < 2 ^ 64 - 1 → n ≤ most
size_small n most size is le lt =
    let small : min n (2 ^ 64 - 1) ≤ most = rw is at le in
    omega (arith, small, lt)

pub size_large : (n most size : ℕ) → size ≡ min n (2 ^ 64 - 1) → most < size → most < n
size_large n most size is lt =
    let large : most < min n (2 ^ 64 - 1) = rw is at lt in
    omega (arith, large)

-- numbers that keep their meaning give the variables what they gave
given-kept : (s t : Shared) (env : List Bound) → Keeps s t → All (λ (b : Bound). b.id < length s.trees) env → given t.trees env ≡ given s.trees env
given-kept s t [] k h = refl
given-kept s t (e ∷ es) k h =
    let P : Bound → Type 0 = λ b. b.id < length s.trees in
    let head : tree_at t.trees e.id ≡ tree_at s.trees e.id = ap (λ us. tree_at us e.id) k.trees ∙ tree_at-front s.trees k.added e.id (All-head P e es h) in
    let tail = given-kept s t es k (All-tail P e es h) in
    λ i v. if bytes_eq e.var.name v.name then head i else tail i v

-- small forms stay small forms
small-kept : (e : Equations) (most : ℕ) (s t : Shared) (k : ℕ) → Keeps s t → IsSmallForm e most s.trees k → IsSmallForm e most t.trees k
small-kept e most s t k h f =
    let same : tree_at t.trees k ≡ tree_at s.trees k = ap (λ us. tree_at us k) h.trees ∙ tree_at-front s.trees h.added k f.below in
    let l : length t.trees ≡ length s.trees + length h.added = ap length h.trees ∙ length-append s.trees h.added in
    let b = f.below in
    record { below = omega (arith, l, b); normal = subst (λ u. IsNormal e u) (sym same) f.normal; within = subst (λ u. node_count u ≤ most) (sym same) f.within }

ids_below : (e : Equations) (most : ℕ) (ts : List Tree) (env : List Bound) → AreSmallForms e most ts env → All (λ (b : Bound). b.id < length ts) env
ids_below e most ts env h = λ k d lt. (h k d lt).below

-- what the first of a name gives
given-found : (ts : List Tree) (env : List Bound) (v : Var) (k : ℕ) → Some k ≡ number_of_name env v.name → given ts env v ≡ tree_at ts k
given-found ts [] v k h = cc
given-found ts (e ∷ es) v k h = by (bytes_eq e.var.name v.name) h (given-found ts es v k) where
  by : (b : Bool) → Some k ≡ (if b then Some e.id else number_of_name es v.name) → (Some k ≡ number_of_name es v.name → given ts es v ≡ tree_at ts k) → (if b then tree_at ts e.id else given ts es v) ≡ tree_at ts k
  by true h rest = let same : k ≡ e.id = cc in ap (tree_at ts) (sym same)
  by false h rest = rest h

given-none : (ts : List Tree) (env : List Bound) (v : Var) → None ≡ number_of_name env v.name → given ts env v ≡ variable v
given-none ts [] v h = refl
given-none ts (e ∷ es) v h = by (bytes_eq e.var.name v.name) h (given-none ts es v) where
  by : (b : Bool) → None ≡ (if b then Some e.id else number_of_name es v.name) → (None ≡ number_of_name es v.name → given ts es v ≡ variable v) → (if b then tree_at ts e.id else given ts es v) ≡ variable v
  by true h rest = cc
  by false h rest = rest h

-- and it is small, where all are
small-found : (e : Equations) (most : ℕ) (ts : List Tree) (env : List Bound) (n : List ℕ) (k : ℕ) → AreSmallForms e most ts env → Some k ≡ number_of_name env n → IsSmallForm e most ts k
small-found e most ts [] n k f h = cc
small-found e most ts (b ∷ bs) n k f h =
    let P : Bound → Type 0 = λ c. IsSmallForm e most ts c.id in
    by (bytes_eq b.var.name n) h (All-head P b bs f) (small-found e most ts bs n k (All-tail P b bs f)) where
      by : (c : Bool) → Some k ≡ (if c then Some b.id else number_of_name bs n) → IsSmallForm e most ts b.id → (Some k ≡ number_of_name bs n → IsSmallForm e most ts k) → IsSmallForm e most ts k
      by true h own rest = let same : k ≡ b.id = cc in subst (λ j. IsSmallForm e most ts j) (sym same) own
      by false h own rest = rest h

module _ (kept : EqualityIsKept) (one : FormIsOne) (e : Equations) (most : ℕ) where
  -- a tree with a small form has no large one
  not_large : (t n : Tree) → IsNormalForm e t n → node_count n ≤ most → HasLargeForm e most t → ⊥
  not_large t n form le l =
      let same = one e t l.form n l.is_form form in
      let lt : most < node_count n = subst (λ u. most < node_count u) same l.large in
      omega (arith, lt, le)

  mutual
    -- nor has any subterm of a small normal tree
    small_not_large : (t : Tree) → IsNormal e t → node_count t ≤ most → HasLargeSubterm e most t → ⊥
    small_not_large t n le (itself h) = not_large t t (record { equal = kept.itself e t; normal = n }) le h
    small_not_large (apply f ts) n le (below w) = small_within ts n.1 (omega (arith, le)) w

    small_within : (ts : Trees) → AreNormal e ts → trees_count ts ≤ most → SomeSubtermWithin (HasLargeForm e most) ts → ⊥
    small_within none n le w = elim w [ ]
    small_within (more t ts) n le (here h) = small_not_large t n.0 (omega (arith, le)) h
    small_within (more t ts) n le (later w) = small_within ts n.1 (omega (arith, le)) w

  -- a name has no subterm but itself
  pub leaf_fits : (t n : Tree) → ((f : List ℕ) (ts : Trees) → t ≡ apply f ts → ⊥) → IsNormalForm e t n → node_count n ≤ most → HasLargeSubterm e most t → ⊥
  leaf_fits t n leaf form le (itself h) = not_large t n form le h
  leaf_fits (apply f ts) n leaf form le (below w) = leaf f ts refl

  -- a symbol has itself and those of its arguments
  pub symbol_fits : (f : List ℕ) (ts : Trees) (n : Tree) → (SomeSubtermWithin (HasLargeForm e most) ts → ⊥) → IsNormalForm e (apply f ts) n → node_count n ≤ most → HasLargeSubterm e most (apply f ts) → ⊥
  symbol_fits f ts n args form le (itself h) = not_large (apply f ts) n form le h
  symbol_fits f ts n args form le (below w) = args w

  -- a variable
  pub variable_fits : (ts : List Tree) (env : List Bound) (v : Var) (k : ℕ) → AreSmallForms e most ts env → Some k ≡ number_of_name env v.name
      → record { below : k < length ts; form : IsNormalForm e (given ts env v) (tree_at ts k); within : HasLargeSubterm e most (given ts env v) → ⊥ }
  variable_fits ts env v k small found =
      let f = small-found e most ts env v.name k small found in
      rw (given-found ts env v k found) (record {
        below = f.below;
        form = record { equal = kept.itself e (tree_at ts k); normal = f.normal };
        within = small_not_large (tree_at ts k) f.normal f.within;
      })

pub no_variable : (ts : List Tree) (env : List Bound) (v : Var) → None ≡ number_of_name env v.name → IsGround (given ts env v) → ⊥
no_variable ts env v h g = subst IsGround (given-none ts env v h) g

-- instances of listed trees
pub instances-trees_of : (σ : Choice) (ts : List Tree) → instances σ (trees_of ts) ≡ trees_of (map (instance σ) ts)
instances-trees_of σ [] = refl
instances-trees_of σ (t ∷ ts) = λ i. more (instance σ t) (instances-trees_of σ ts i)

-- a symbol on numbers
module _ (s t : Shared) (f name : List ℕ) (is : name ≡ f) (ts : List Tree) (σ : Choice) (ks : List ℕ) (keeps : Keeps s t)
    (forms : AllZip (IsNormalForm (equations s.sig)) (map (instance σ) ts) (trees_at t.trees ks)) where
  pub symbol_held : IsOver s.sig (apply f (trees_of ts)) → arity_of t.sig name ≡ Some (length ks)
  symbol_held over =
      let trees = length_all_zip (IsNormalForm (equations s.sig)) (map (instance σ) ts) (trees_at t.trees ks) forms in
      let count : length ts ≡ length ks = sym (length-map ts (instance σ)) ∙ trees ∙ length-map ks (tree_at t.trees) in
      rw (keeps.sig, is) (over.0 ∙ ap (λ us. Some (length us)) (list_of-trees_of ts) ∙ ap Some count)

  pub symbol_form : EqualityIsKept → (r : Tree) → IsNormalForm (equations t.sig) (node_tree t.trees (App name ks)) r → IsNormalForm (equations s.sig) (apply f (instances σ (trees_of ts))) r
  symbol_form kept r form =
      let own : IsNormalForm (equations s.sig) (apply f (trees_of (trees_at t.trees ks))) r =
      subst (λ g. IsNormalForm (equations s.sig) (apply g (trees_of (trees_at t.trees ks))) r) is (subst (λ x. IsNormalForm (equations x) (node_tree t.trees (App name ks)) r) keeps.sig form) in
      subst (λ us. IsNormalForm (equations s.sig) (apply f us) r) (sym (instances-trees_of σ ts)) (form_through kept (equations s.sig) f (map (instance σ) ts) (trees_at t.trees ks) r forms own)

  pub symbol_large : EqualityIsKept → (most : ℕ) → HasLargeForm (equations t.sig) most (node_tree t.trees (App name ks)) → HasLargeSubterm (equations s.sig) most (apply f (instances σ (trees_of ts)))
  symbol_large kept most h = itself (record { form = h.form; is_form = symbol_form kept h.form h.is_form; large = h.large })

pub within_instances : (e : Equations) (most : ℕ) (σ : Choice) (ts : List Tree) → SomeSubtermWithin (HasLargeForm e most) (trees_of (map (instance σ) ts)) → SomeSubtermWithin (HasLargeForm e most) (instances σ (trees_of ts))
within_instances e most σ ts h = subst (SomeSubtermWithin (HasLargeForm e most)) (sym (instances-trees_of σ ts)) h

pub instances_within : (e : Equations) (most : ℕ) (σ : Choice) (ts : List Tree) → SomeSubtermWithin (HasLargeForm e most) (instances σ (trees_of ts)) → SomeSubtermWithin (HasLargeForm e most) (trees_of (map (instance σ) ts))
instances_within e most σ ts h = subst (SomeSubtermWithin (HasLargeForm e most)) (instances-trees_of σ ts) h

ground_got : (σ : Choice) (ts : List Tree) (i : ℕ) (x : Tree) → AreGround (trees_of (map (instance σ) ts)) → slice_get ts i ≡ Some x → IsGround (instance σ x)
ground_got σ [] i x h at = cc
ground_got σ (t ∷ ts) zero x h at = let e : t ≡ x = cc in subst (λ u. IsGround (instance σ u)) e h.0
ground_got σ (t ∷ ts) (suc i) x h at = ground_got σ ts i x h.1 at

large_got : (e : Equations) (most : ℕ) (σ : Choice) (ts : List Tree) (i : ℕ) (x : Tree) → slice_get ts i ≡ Some x → HasLargeSubterm e most (instance σ x) → SomeSubtermWithin (HasLargeForm e most) (trees_of (map (instance σ) ts))
large_got e most σ [] i x at h = cc
large_got e most σ (t ∷ ts) zero x at h = let is : t ≡ x = cc in here (subst (λ u. HasLargeSubterm e most (instance σ u)) (sym is) h)
large_got e most σ (t ∷ ts) (suc i) x at h = later (large_got e most σ ts i x at h)

-- one term more, whose evaluation began at t, where all began at s
module _ (s t : Shared) (env : List Bound) (most : ℕ) (small : AreSmallForms (equations s.sig) most s.trees env) (h : Keeps s t) (ts : List Tree) (i : ℕ) (x : Tree) (at : slice_get ts i ≡ Some x) where
  abbrev e : Equations
  e = equations s.sig

  abbrev σ : Choice
  σ = given s.trees env

  same_choice : given t.trees env ≡ σ
  same_choice = given-kept s t env h (ids_below e most s.trees env small)

  -- what is said under what is bound now is so under what was bound then
  moved : (P : Equations → Choice → Type 0) → P (equations t.sig) (given t.trees env) → P e σ
  moved P p = subst (λ τ. P e τ) same_choice (subst (λ g. P (equations g) (given t.trees env)) h.sig p)

  pub step_env : AreSmallForms (equations t.sig) most t.trees env
  step_env = subst (λ g. AreSmallForms (equations g) most t.trees env) (sym h.sig) (λ k d lt. small-kept e most s t _ h (small k d lt))

  pub step_ground : AreGround (trees_of (map (instance σ) ts)) → IsGround (instance (given t.trees env) x)
  step_ground g = subst (λ τ. IsGround (instance τ x)) (sym same_choice) (ground_got σ ts i x g at)

  pub step_forms : (u : Shared) (k : ℕ) (ks pushed : List ℕ) → Keeps t u → k < length u.trees → IsNormalForm (equations t.sig) (instance (given t.trees env) x) (tree_at u.trees k)
      → AllZip (IsNormalForm e) (map (instance σ) (take i ts)) (trees_at t.trees ks) → AreBelow (length t.trees) ks → pushed ≡ ks ++ k ∷ []
      → AllZip (IsNormalForm e) (map (instance σ) (take (i + 1) ts)) (trees_at u.trees pushed) × AreBelow (length u.trees) pushed
  step_forms u k ks pushed g lt form forms low is =
      let P : ℕ → Type 0 = λ j. j < length u.trees in
      let own = moved (λ x' τ. IsNormalForm x' (instance τ x) (tree_at u.trees k)) form in
      rw (is, map_got (instance σ) ts i x at, trees_at-push u.trees ks k, keeps-trees t u ks g low) (
        AllZip-push (IsNormalForm e) (map (instance σ) (take i ts)) (trees_at t.trees ks) (instance σ x) (tree_at u.trees k) forms own,
        All-push P ks k (keeps-below t u ks g low) lt,
      )

  pub step_rest : (SomeSubtermWithin (HasLargeForm e most) (trees_of (map (instance σ) ts)) → SomeSubtermWithin (HasLargeForm e most) (trees_of (map (instance σ) (drop i ts))))
      → (HasLargeSubterm (equations t.sig) most (instance (given t.trees env) x) → ⊥)
      → SomeSubtermWithin (HasLargeForm e most) (trees_of (map (instance σ) ts)) → SomeSubtermWithin (HasLargeForm e most) (trees_of (map (instance σ) (drop (i + 1) ts)))
  step_rest all own w =
      behind (moved (λ x' τ. HasLargeSubterm x' most (instance τ x) → ⊥) own) (subst (λ us. SomeSubtermWithin (HasLargeForm e most) (trees_of (map (instance σ) us))) (drop_got ts i x at) (all w)) where
        behind : {u : Tree} {us : Trees} → (HasLargeSubterm e most u → ⊥) → SomeSubtermWithin (HasLargeForm e most) (more u us) → SomeSubtermWithin (HasLargeForm e most) us
        behind not (here h) = absurd (not h)
        behind not (later h) = h

  pub step_large : HasLargeSubterm (equations t.sig) most (instance (given t.trees env) x) → SomeSubtermWithin (HasLargeForm e most) (trees_of (map (instance σ) ts))
  step_large h = large_got e most σ ts i x at (moved (λ x' τ. HasLargeSubterm x' most (instance τ x)) h)

-- there is no subterm within no trees
pub none_within : {P : Tree → Type 0} (ts : List Tree) (σ : Choice) (n : ℕ) → length ts ≤ n → SomeSubtermWithin P (trees_of (map (instance σ) (drop n ts))) → ⊥
none_within {P} [] σ zero le w = nothing w where
  nothing : SomeSubtermWithin P none → ⊥
  nothing w = elim w [ ]
none_within {P} [] σ (suc n) le w = nothing w where
  nothing : SomeSubtermWithin P none → ⊥
  nothing w = elim w [ ]
none_within (t ∷ ts) σ zero le w = absurd (omega (arith, le))
none_within (t ∷ ts) σ (suc n) le w = none_within ts σ n (omega (arith, le)) w

pub ruleset evaluate_laws = (keeps-self, keeps-both)
