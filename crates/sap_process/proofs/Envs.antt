-- What stands for the variables in scope, and the variables of instances by it.
use Rattle.std.proofs.Common.{◌≡◌, ℕ, List, [], ◌∷◌, ◌++◌, Bool, true, false, not, ◌||◌, ◌&&◌, cond, filter, Option, Some, None, refl, sym, ap, subst, ◌∙◌}
use Rattle.std.specs.Option.{option_map_or}
use Rattle.std.specs.Str.{bytes_eq}
use Rattle.sap_terms.specs.Choice.{Choice, instance, instances}
use Rattle.sap_terms.specs.Ground.{IsGround, AreGround}
use Rattle.sap_terms.specs.Modulo.{instance_facts}
use Rattle.sap_terms.specs.Tree.{Tree, variable, public, fresh, apply, Trees, none, more, trees_of}
use Rattle.sap_terms.specs.Variables.{tree_vars, trees_vars, facts_vars, is_known, new_vars}
use Rattle.sap_terms.specs.declared.fact.Fact.{Fact}
use Rattle.sap_terms.specs.declared.var.Var.{Var}
use Rattle.sap_process.specs.Flaws.{binder_of}
use Rattle.sap_process.specs.ProcessSteps.{chosen}
use Rattle.sap_process.specs.Sites.{var_names}
use Rattle.sap_process.proofs.Instances.{instances-trees_of}
use Rattle.sap_process.proofs.Names.{same_name_true, names-append}

pub record Env : Type 0 where
  -- the variables that are replaced
  pub scope : List Var
  -- what they stand for
  pub choice : Choice

-- the choice that puts in what is in scope, and leaves other variables as they are
abbrev pub put : Env → Choice
put env = λ v. cond (is_known (var_names env.scope) v.name) (env.choice v) (variable v)

-- nothing stands for a term with variables
abbrev pub GroundEnv : Env → Type 0
GroundEnv env = (v : Var) → IsGround (env.choice v)

-- these stand for what the choice says, by their names
abbrev pub by_name : Choice → List Var → Env
by_name σ vs = record { scope = vs; choice = λ v. option_map_or σ (binder_of vs v.name) (public []) }

pub by_name_is : (σ : Choice) (vs : List Var) (v : Var) → chosen σ vs v ≡ put (by_name σ vs) v
by_name_is σ [] v = refl
by_name_is σ (y ∷ vs) v = go (bytes_eq y.name v.name) (by_name_is σ vs v)
  where
    go : (c : Bool) → chosen σ vs v ≡ put (by_name σ vs) v
        → option_map_or σ (cond c (Some y) (binder_of vs v.name)) (variable v)
        ≡ cond (c || is_known (var_names vs) v.name) (option_map_or σ (cond c (Some y) (binder_of vs v.name)) (public [])) (variable v)
    go true h = refl
    go false h = h

pub by_name_ground : (σ : Choice) (vs : List Var) → ((v : Var) → IsGround (σ v)) → GroundEnv (by_name σ vs)
by_name_ground σ vs g v = go (binder_of vs v.name)
  where
    go : (o : Option Var) → IsGround (option_map_or σ o (public []))
    go None = tt
    go (Some b) = g b

-- the new variables of a pattern are those of its instance

abbrev pub new_of : List Var → List Var → List Var
new_of v ws = filter (λ (x : Var). not (is_known (var_names v) x.name)) ws

pub filter-append : (f : Var → Bool) (xs ys : List Var) → filter f (xs ++ ys) ≡ filter f xs ++ filter f ys
filter-append f [] ys = refl
filter-append f (x ∷ xs) ys = go (f x) (filter-append f xs ys)
  where
    go : (b : Bool) → filter f (xs ++ ys) ≡ filter f xs ++ filter f ys → cond b (x ∷ filter f (xs ++ ys)) (filter f (xs ++ ys)) ≡ cond b (x ∷ filter f xs) (filter f xs) ++ filter f ys
    go true h = ap (λ zs. x ∷ zs) h
    go false h = h

mutual
  vars_ground : (t : Tree) → IsGround t → tree_vars t ≡ []
  vars_ground (variable x) g = absurd g
  vars_ground (public a) g = refl
  vars_ground (fresh n) g = refl
  vars_ground (apply f ts) g = vars_each_ground ts g

  vars_each_ground : (ts : Trees) → AreGround ts → trees_vars ts ≡ []
  vars_each_ground none g = refl
  vars_each_ground (more t ts) g = ap (λ vs. vs ++ trees_vars ts) (vars_ground t g.0) ∙ vars_each_ground ts g.1

mutual
  pub vars_put : (env : Env) → GroundEnv env → (t : Tree) → tree_vars (instance (put env) t) ≡ new_of env.scope (tree_vars t)
  vars_put env g (variable x) = go (is_known (var_names env.scope) x.name)
    where
      go : (b : Bool) → tree_vars (cond b (env.choice x) (variable x)) ≡ cond (not b) (x ∷ []) []
      go true = vars_ground (env.choice x) (g x)
      go false = refl
  vars_put env g (public a) = refl
  vars_put env g (fresh n) = refl
  vars_put env g (apply f ts) = vars_put_each env g ts

  pub vars_put_each : (env : Env) → GroundEnv env → (ts : Trees) → trees_vars (instances (put env) ts) ≡ new_of env.scope (trees_vars ts)
  vars_put_each env g none = refl
  vars_put_each env g (more t ts) =
      (λ i. vars_put env g t i ++ vars_put_each env g ts i) ∙ sym (filter-append (λ (x : Var). not (is_known (var_names env.scope) x.name)) (tree_vars t) (trees_vars ts))

-- which names are new

and_false : (b : Bool) → (b && false) ≡ false
and_false true = refl
and_false false = refl

or_false : (b : Bool) → (b || (false || false)) ≡ b
or_false true = refl
or_false false = refl

spoilt : (k : Bool) → k ≡ true → (w : Bool) → (not k && w) ≡ (not k && true)
spoilt true e w = refl
spoilt false e w = cc

unspoilt : (k : Bool) → k ≡ false → true ≡ (not k && true)
unspoilt true e = cc
unspoilt false e = refl

pub known_new : (known : List (List ℕ)) (ws : List Var) (n : List ℕ) → is_known (var_names (new_vars known ws)) n ≡ (not (is_known known n) && is_known (var_names ws) n)
known_new known [] n = sym (and_false (not (is_known known n)))
known_new known (v ∷ vs) n = by (bytes_eq v.name n) refl (is_known known v.name) refl (known_new known vs n) (known_new (known ++ v.name ∷ []) vs n)
  where
    by : (c : Bool) → bytes_eq v.name n ≡ c → (b : Bool) → is_known known v.name ≡ b
        → is_known (var_names (new_vars known vs)) n ≡ (not (is_known known n) && is_known (var_names vs) n)
        → is_known (var_names (new_vars (known ++ v.name ∷ []) vs)) n ≡ (not (is_known (known ++ v.name ∷ []) n) && is_known (var_names vs) n)
        → is_known (var_names (cond b (new_vars known vs) (v ∷ new_vars (known ++ v.name ∷ []) vs))) n ≡ (not (is_known known n) && (c || is_known (var_names vs) n))
    by true ec true eb one two = one ∙ spoilt (is_known known n) (subst (λ m. is_known known m ≡ true) (same_name_true v.name n ec) eb) (is_known (var_names vs) n)
    by false ec true eb one two = one
    by true ec false eb one two = ap (λ c. c || is_known (var_names (new_vars (known ++ v.name ∷ []) vs)) n) ec ∙ unspoilt (is_known known n) (subst (λ m. is_known known m ≡ false) (same_name_true v.name n ec) eb)
    by false ec false eb one two =
        ap (λ c. c || is_known (var_names (new_vars (known ++ v.name ∷ []) vs)) n) ec ∙ two
        ∙ ap (λ k. not k && is_known (var_names vs) n) (names-append known (v.name ∷ []) n ∙ ap (λ c. is_known known n || (c || false)) ec ∙ or_false (is_known known n))

pub known_filter : (v ws : List Var) (n : List ℕ) → is_known (var_names (new_of v ws)) n ≡ (not (is_known (var_names v) n) && is_known (var_names ws) n)
known_filter v [] n = sym (and_false (not (is_known (var_names v) n)))
known_filter v (x ∷ ws) n = by (bytes_eq x.name n) refl (is_known (var_names v) x.name) refl (known_filter v ws n)
  where
    by : (c : Bool) → bytes_eq x.name n ≡ c → (b : Bool) → is_known (var_names v) x.name ≡ b
        → is_known (var_names (new_of v ws)) n ≡ (not (is_known (var_names v) n) && is_known (var_names ws) n)
        → is_known (var_names (cond (not b) (x ∷ new_of v ws) (new_of v ws))) n ≡ (not (is_known (var_names v) n) && (c || is_known (var_names ws) n))
    by true ec true eb h = h ∙ spoilt (is_known (var_names v) n) (subst (λ m. is_known (var_names v) m ≡ true) (same_name_true x.name n ec) eb) (is_known (var_names ws) n)
    by false ec true eb h = h
    by true ec false eb h = ap (λ c. c || is_known (var_names (new_of v ws)) n) ec ∙ unspoilt (is_known (var_names v) n) (subst (λ m. is_known (var_names v) m ≡ false) (same_name_true x.name n ec) eb)
    by false ec false eb h = ap (λ c. c || is_known (var_names (new_of v ws)) n) ec ∙ h

pub facts_vars_put : (env : Env) → GroundEnv env → (fs : List Fact) → facts_vars (instance_facts (put env) fs) ≡ new_of env.scope (facts_vars fs)
facts_vars_put env g [] = refl
facts_vars_put env g (f ∷ fs) =
    (λ i. (ap trees_vars (sym (instances-trees_of (put env) f.args)) ∙ vars_put_each env g (trees_of f.args)) i ++ facts_vars_put env g fs i)
    ∙ sym (filter-append (λ (x : Var). not (is_known (var_names env.scope) x.name)) (trees_vars (trees_of f.args)) (facts_vars fs))
