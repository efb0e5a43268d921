-- Terms at sound places can be evaluated.
use Rattle.std.proofs.Common.{◌≡◌, ◌<◌, ℕ, zero, suc, List, [], ◌∷◌, ◌++◌, length, Option, Some, None, refl, ap, subst, arith, ◌||◌, Bool, true, false, if◌then◌else◌, not, nat_eq, filter}
use Rattle.std.specs.Prelude.{Contains, All}
use Rattle.std.specs.Cmp.{unsigned_Decides}
use Rattle.std.specs.Str.{bytes_eq}
use Rattle.std.proofs.lemmas.List.Elements.{All-head, All-tail}
use Rattle.sap_terms.specs.Choice.{instance, instances}
use Rattle.sap_terms.specs.Ground.{IsGround, AreGround}
use Rattle.sap_terms.specs.Message.{IsOver, AreOver}
use Rattle.sap_terms.specs.Signature.{Sig, arity_of}
use Rattle.sap_terms.specs.Tree.{Tree, variable, public, fresh, apply, Trees, none, more, list_of}
use Rattle.sap_terms.specs.Variables.{tree_vars, trees_vars, is_known}
use Rattle.sap_terms.specs.declared.var.Var.{Var}
use Rattle.sap_process.specs.Flaws.{AppliesBadly, unbound_in}
use Rattle.sap_process.specs.Heads.{head_terms, terms_vars}
use Rattle.sap_process.specs.Sites.{Site, var_names}
use Rattle.sap_share.specs.Env.{given}
use Rattle.sap_share.specs.Shared.{tree_at}
use Rattle.sap_share.specs.declared.env.Bound.{Bound}
use Rattle.sap_heads.specs.Bound.{names_of}

-- the variables are among these names
abbrev pub Knows : List (List ℕ) → List Var → Type 0
Knows ns [] = Unit {0}
Knows ns (v ∷ vs) = (is_known ns v.name ≡ true) × Knows ns vs

knows_none : (ns : List (List ℕ)) (vs : List Var) → filter (λ (v : Var). not (is_known ns v.name)) vs ≡ [] → Knows ns vs
knows_none ns [] h = tt
knows_none ns (v ∷ vs) h = by (is_known ns v.name) refl h (knows_none ns vs) where
  by : (b : Bool) → is_known ns v.name ≡ b → (if not b then v ∷ filter (λ (v : Var). not (is_known ns v.name)) vs else filter (λ (v : Var). not (is_known ns v.name)) vs) ≡ []
      → (filter (λ (v : Var). not (is_known ns v.name)) vs ≡ [] → Knows ns vs) → Knows ns (v ∷ vs)
  by true is e later = (is, later e)
  by false is e later = cc

knows_left : (ns : List (List ℕ)) (vs ws : List Var) → Knows ns (vs ++ ws) → Knows ns vs
knows_left ns [] ws h = tt
knows_left ns (v ∷ vs) ws h = (h.0, knows_left ns vs ws h.1)

knows_right : (ns : List (List ℕ)) (vs ws : List Var) → Knows ns (vs ++ ws) → Knows ns ws
knows_right ns [] ws h = h
knows_right ns (v ∷ vs) ws h = knows_right ns vs ws h.1

-- a variable that is bound stands for a ground tree
given_ground : (ts : List Tree) (env : List Bound) (v : Var) → ((k : ℕ) → k < length ts → IsGround (tree_at ts k)) → All (λ (b : Bound). b.id < length ts) env → is_known (names_of env) v.name ≡ true → IsGround (given ts env v)
given_ground ts [] v g below h = cc
given_ground ts (e ∷ es) v g below h =
    let P : Bound → Type 0 = λ b. b.id < length ts in
    by (bytes_eq e.var.name v.name) h (g e.id (All-head P e es below)) (given_ground ts es v g (All-tail P e es below)) where
      by : (b : Bool) → (b || is_known (names_of es) v.name) ≡ true → IsGround (tree_at ts e.id) → (is_known (names_of es) v.name ≡ true → IsGround (given ts es v)) → IsGround (if b then tree_at ts e.id else given ts es v)
      by true h here later = here
      by false h here later = later h

module _ (ts : List Tree) (env : List Bound) (g : (k : ℕ) → k < length ts → IsGround (tree_at ts k)) (below : All (λ (b : Bound). b.id < length ts) env) where
  mutual
    -- a term of bound variables stands for a ground one
    pub instance_ground : (t : Tree) → Knows (names_of env) (tree_vars t) → IsGround (instance (given ts env) t)
    instance_ground (variable v) h = given_ground ts env v g below h.0
    instance_ground (public n) h = tt
    instance_ground (fresh k) h = tt
    instance_ground (apply f us) h = instances_ground us h

    instances_ground : (us : Trees) → Knows (names_of env) (trees_vars us) → AreGround (instances (given ts env) us)
    instances_ground none h = tt
    instances_ground (more u us) h = (instance_ground u (knows_left (names_of env) (tree_vars u) (trees_vars us) h), instances_ground us (knows_right (names_of env) (tree_vars u) (trees_vars us) h))

  -- so do those that are used where their names are bound
  pub one_ground : (scope : List Var) (t : Tree) → names_of env ≡ var_names scope → unbound_in scope (t ∷ []) ≡ [] → IsGround (instance (given ts env) t)
  one_ground scope t names bound = instance_ground t (knows_left (names_of env) (tree_vars t) [] (rw names (knows_none (var_names scope) (tree_vars t ++ []) bound)))

  pub two_ground : (scope : List Var) (t u : Tree) → names_of env ≡ var_names scope → unbound_in scope (t ∷ u ∷ []) ≡ [] → IsGround (instance (given ts env) t) × IsGround (instance (given ts env) u)
  two_ground scope t u names bound =
      let all : Knows (names_of env) (tree_vars t ++ (tree_vars u ++ [])) = rw names (knows_none (var_names scope) (tree_vars t ++ (tree_vars u ++ [])) bound) in
      (instance_ground t (knows_left (names_of env) (tree_vars t) (tree_vars u ++ []) all), instance_ground u (knows_left (names_of env) (tree_vars u) [] (knows_right (names_of env) (tree_vars t) (tree_vars u ++ []) all)))

  pub each_ground : (scope : List Var) (us : List Tree) → names_of env ≡ var_names scope → unbound_in scope us ≡ [] → (u : Tree) → Contains us u → IsGround (instance (given ts env) u)
  each_ground scope us names bound = by us (rw names (knows_none (var_names scope) (terms_vars us) bound)) where
    by : (us : List Tree) → Knows (names_of env) (terms_vars us) → (u : Tree) → Contains us u → IsGround (instance (given ts env) u)
    by [] h u (k, lt, e) = absurd (omega arith)
    by (v ∷ vs) h u (zero, lt, e) = subst (λ w. IsGround (instance (given ts env) w)) e (instance_ground v (knows_left (names_of env) (tree_vars v) (terms_vars vs) h))
    by (v ∷ vs) h u (suc k, lt, e) = let less : k < length vs = omega arith in by vs (knows_right (names_of env) (tree_vars v) (terms_vars vs) h) u (k, less, e)

-- what isn't badly applied is over the signature
arity_stable : (o : Option ℕ) (n : ℕ) → (¬ ¬ (o ≡ Some n)) → o ≡ Some n
arity_stable None n h = absurd (h (λ e. cc))
arity_stable (Some m) n h = by (nat_eq m n) refl where
  by : (b : Bool) → nat_eq m n ≡ b → Some m ≡ Some n
  by true e = ap Some ((unsigned_Decides m n).0 e)
  by false e = absurd (h (λ p. let q : m ≡ n = cc in let r : nat_eq m n ≡ true = (unsigned_Decides m n).1 q in cc))

mutual
  over_stable : (g : Sig) (t : Tree) → (¬ ¬ IsOver g t) → IsOver g t
  over_stable g (variable v) h = tt
  over_stable g (public n) h = tt
  over_stable g (fresh k) h = tt
  over_stable g (apply f ts) h = (arity_stable (arity_of g f) (length (list_of ts)) (λ n. h (λ p. n p.0)), overs_stable g ts (λ n. h (λ p. n p.1)))

  overs_stable : (g : Sig) (ts : Trees) → (¬ ¬ AreOver g ts) → AreOver g ts
  overs_stable g none h = tt
  overs_stable g (more t ts) h = (over_stable g t (λ n. h (λ p. n p.0)), overs_stable g ts (λ n. h (λ p. n p.1)))

pub over_at : (g : Sig) (s : Site) (t : Tree) → (¬ AppliesBadly g s) → Contains (head_terms s.body) t → IsOver g t
over_at g s t fine stands = over_stable g t (λ bad. fine (record { term = t; stands = stands; bad = bad }))

pub first_of : {X : Type 0} (x : X) (xs : List X) → Contains (x ∷ xs) x
first_of x xs = (0, omega arith, refl)

pub second_of : {X : Type 0} (x y : X) (xs : List X) → Contains (x ∷ y ∷ xs) y
second_of x y xs = (1, omega arith, refl)
