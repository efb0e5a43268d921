-- Instances of terms: of ground ones, one after another, and by variables in scope.
use Rattle.std.proofs.Math.Path.{fun_ext}
use Rattle.sap_translate.proofs.Premises.LowerLaws.{Laws, process_twice, process_unchanged}
use Rattle.sap_translate.specs.Members.{Member}
use Rattle.std.proofs.Common.{◌≡◌, ℕ, ◌⊎◌, inl, inr, List, [], ◌∷◌, ◌++◌, refl, sym, ap, ◌∙◌, Bool, true, false, ◌||◌, ◌&&◌, not, cond, map, subst, filter, None, Some, Option}
use Rattle.std.specs.Str.{bytes_eq}
use Rattle.sap_terms.specs.Choice.{Choice, instance, instances}
use Rattle.sap_terms.specs.Ground.{IsGround, AreGround}
use Rattle.sap_terms.specs.Modulo.{instance_facts}
use Rattle.sap_terms.specs.Tree.{Tree, variable, public, fresh, apply, Trees, none, more, trees_of}
use Rattle.sap_terms.specs.Variables.{tree_vars, trees_vars, facts_vars, is_known, new_vars}
use Rattle.sap_terms.specs.declared.fact.Fact.{Fact}
use Rattle.sap_terms.specs.declared.var.Var.{Var}
use Rattle.sap_process.specs.Instance.{process_instance}
use Rattle.sap_process.specs.Proc.{Proc}
use Rattle.sap_process.specs.Sites.{var_names}
use Rattle.std.specs.Option.{option_map_or}
use Rattle.sap_process.specs.Flaws.{binder_of}
use Rattle.sap_process.specs.ProcessSteps.{chosen as chosen_of, with_choice, with_term}
use Rattle.sap_translate.specs.relation.Envs.{Env, join, bind, chosen, just}
use Rattle.sap_translate.specs.Scoped.{Within, EachWithin}
use Rattle.sap_translate.proofs.Shared.Facts.{same_name_true, same_name_self}

-- nothing stands for a term with variables
abbrev pub GroundEnv : Env → Type 0
GroundEnv env = (v : Var) → IsGround (env.choice v)

mutual
  pub put_ground : (σ : Choice) (t : Tree) → IsGround t → instance σ t ≡ t
  put_ground σ (variable x) g = absurd g
  put_ground σ (public a) g = refl
  put_ground σ (fresh n) g = refl
  put_ground σ (apply f ts) g = ap (apply f) (put_each_ground σ ts g)

  pub put_each_ground : (σ : Choice) (ts : Trees) → AreGround ts → instances σ ts ≡ ts
  put_each_ground σ none g = refl
  put_each_ground σ (more t ts) g = λ i. more (put_ground σ t g.0 i) (put_each_ground σ ts g.1 i)

-- one choice after another
abbrev pub then : Choice → Choice → Choice
then σ τ v = instance τ (σ v)

mutual
  pub put_then : (σ τ : Choice) (t : Tree) → instance τ (instance σ t) ≡ instance (then σ τ) t
  put_then σ τ (variable x) = refl
  put_then σ τ (public a) = refl
  put_then σ τ (fresh n) = refl
  put_then σ τ (apply f ts) = ap (apply f) (put_each_then σ τ ts)

  pub put_each_then : (σ τ : Choice) (ts : Trees) → instances τ (instances σ ts) ≡ instances (then σ τ) ts
  put_each_then σ τ none = refl
  put_each_then σ τ (more t ts) = λ i. more (put_then σ τ t i) (put_each_then σ τ ts i)

-- two choices that agree on these variables
mutual
  pub put_agree : (σ τ : Choice) (v : List Var) (t : Tree) → ((x : Var) → Member x v → σ x ≡ τ x) → Within v t → instance σ t ≡ instance τ t
  put_agree σ τ v (variable x) h w = h x w
  put_agree σ τ v (public a) h w = refl
  put_agree σ τ v (fresh n) h w = refl
  put_agree σ τ v (apply f ts) h w = ap (apply f) (put_each_agree σ τ v ts h w)

  pub put_each_agree : (σ τ : Choice) (v : List Var) (ts : Trees) → ((x : Var) → Member x v → σ x ≡ τ x) → EachWithin v ts → instances σ ts ≡ instances τ ts
  put_each_agree σ τ v none h w = refl
  put_each_agree σ τ v (more t ts) h w = λ i. more (put_agree σ τ v t h w.0 i) (put_each_agree σ τ v ts h w.1 i)

-- what is in scope stays so where there is more
mutual
  pub within_more : (v w : List Var) → ((x : Var) → Member x v → Member x w) → (t : Tree) → Within v t → Within w t
  within_more v w h (variable x) m = h x m
  within_more v w h (public a) m = tt
  within_more v w h (fresh n) m = tt
  within_more v w h (apply f ts) m = each_within_more v w h ts m

  pub each_within_more : (v w : List Var) → ((x : Var) → Member x v → Member x w) → (ts : Trees) → EachWithin v ts → EachWithin w ts
  each_within_more v w h none m = tt
  each_within_more v w h (more t ts) m = (within_more v w h t m.0, each_within_more v w h ts m.1)

-- names that are known

pub known-append : (v w : List Var) (x : Var) → is_known (var_names (v ++ w)) x.name ≡ (is_known (var_names v) x.name || is_known (var_names w) x.name)
known-append [] w x = refl
known-append (y ∷ v) w x = go (bytes_eq y.name x.name) (known-append v w x)
  where
    go : (b : Bool) → is_known (var_names (v ++ w)) x.name ≡ (is_known (var_names v) x.name || is_known (var_names w) x.name) → (b || is_known (var_names (v ++ w)) x.name) ≡ ((b || is_known (var_names v) x.name) || is_known (var_names w) x.name)
    go true h = refl
    go false h = h

pub member_known : (v : List Var) (x : Var) → Member x v → is_known (var_names v) x.name ≡ true
member_known [] x m = elim m [ ]
member_known (y ∷ v) x Member.here = rw (same_name_self x.name) refl
member_known (y ∷ v) x (Member.later m) = go (bytes_eq y.name x.name) (member_known v x m)
  where
    go : (b : Bool) → is_known (var_names v) x.name ≡ true → (b || is_known (var_names v) x.name) ≡ true
    go true h = refl
    go false h = h

-- choices that agree
one_instance : (s t : Choice) → ((v : Var) → s v ≡ t v) → (p : Proc) → process_instance s p ≡ process_instance t p
one_instance s t h p = ap (λ c. process_instance c p) (fun_ext h)

-- environments

-- the choice of the joined ones is the one after the other
join_then : (env τ : Env) → GroundEnv env → (v : Var) → then (chosen env) (chosen τ) v ≡ chosen (join env τ) v
join_then env τ g v = go (is_known (var_names env.scope) v.name) refl
  where
    other : (b c : Bool) → c ≡ (b || is_known (var_names τ.scope) v.name) → instance (chosen τ) (cond b (env.choice v) (variable v)) ≡ cond c (cond b (env.choice v) (τ.choice v)) (variable v)
    other true c e = rw e (put_ground (chosen τ) (env.choice v) (g v))
    other false c e = rw e refl

    go : (b : Bool) → is_known (var_names env.scope) v.name ≡ b → instance (chosen τ) (cond b (env.choice v) (variable v)) ≡ cond (is_known (var_names (env.scope ++ τ.scope)) v.name) (cond b (env.choice v) (τ.choice v)) (variable v)
    go b e = other b (is_known (var_names (env.scope ++ τ.scope)) v.name) (known-append env.scope τ.scope v ∙ ap (λ c. c || is_known (var_names τ.scope) v.name) e)

chosen_partial : (env : Env) → GroundEnv env → (v : Var) → IsGround (chosen env v) ⊎ (chosen env v ≡ variable v)
chosen_partial env g v = go (is_known (var_names env.scope) v.name)
  where
    go : (b : Bool) → IsGround (cond b (env.choice v) (variable v)) ⊎ (cond b (env.choice v) (variable v) ≡ variable v)
    go true = inl (g v)
    go false = inr refl

-- an instance of an instance, by more that is in scope
pub instance_append : (laws : Laws) → (env τ : Env) → GroundEnv env → (p : Proc) → process_instance (chosen τ) (process_instance (chosen env) p) ≡ process_instance (chosen (join env τ)) p
instance_append laws env τ g p = (process_twice laws) p (chosen env) (chosen τ) (chosen_partial env g) ∙ one_instance (then (chosen env) (chosen τ)) (chosen (join env τ)) (join_then env τ g) p

-- nothing is in scope: the process itself
pub instance_none : (laws : Laws) → (σ : Choice) → ((x : Var) → σ x ≡ variable x) → (p : Proc) → process_instance σ p ≡ p
instance_none laws σ h p = one_instance σ (λ x. variable x) h p ∙ (process_unchanged laws) p

-- the new variables of a pattern are those of its instance

abbrev pub new_of : List Var → List Var → List Var
new_of v ws = filter (λ (x : Var). not (is_known (var_names v) x.name)) ws

pub filter-append : (f : Var → Bool) (xs ys : List Var) → filter f (xs ++ ys) ≡ filter f xs ++ filter f ys
filter-append f [] ys = refl
filter-append f (x ∷ xs) ys = go (f x) (filter-append f xs ys)
  where
    go : (b : Bool) → filter f (xs ++ ys) ≡ filter f xs ++ filter f ys → cond b (x ∷ filter f (xs ++ ys)) (filter f (xs ++ ys)) ≡ cond b (x ∷ filter f xs) (filter f xs) ++ filter f ys
    go true h = ap (λ zs. x ∷ zs) h
    go false h = h

mutual
  vars_ground : (t : Tree) → IsGround t → tree_vars t ≡ []
  vars_ground (variable x) g = absurd g
  vars_ground (public a) g = refl
  vars_ground (fresh n) g = refl
  vars_ground (apply f ts) g = vars_each_ground ts g

  vars_each_ground : (ts : Trees) → AreGround ts → trees_vars ts ≡ []
  vars_each_ground none g = refl
  vars_each_ground (more t ts) g = ap (λ vs. vs ++ trees_vars ts) (vars_ground t g.0) ∙ vars_each_ground ts g.1

mutual
  pub vars_put : (env : Env) → GroundEnv env → (t : Tree) → tree_vars (instance (chosen env) t) ≡ new_of env.scope (tree_vars t)
  vars_put env g (variable x) = go (is_known (var_names env.scope) x.name)
    where
      go : (b : Bool) → tree_vars (cond b (env.choice x) (variable x)) ≡ cond (not b) (x ∷ []) []
      go true = vars_ground (env.choice x) (g x)
      go false = refl
  vars_put env g (public a) = refl
  vars_put env g (fresh n) = refl
  vars_put env g (apply f ts) = vars_put_each env g ts

  pub vars_put_each : (env : Env) → GroundEnv env → (ts : Trees) → trees_vars (instances (chosen env) ts) ≡ new_of env.scope (trees_vars ts)
  vars_put_each env g none = refl
  vars_put_each env g (more t ts) =
      (λ i. vars_put env g t i ++ vars_put_each env g ts i) ∙ sym (filter-append (λ (x : Var). not (is_known (var_names env.scope) x.name)) (tree_vars t) (trees_vars ts))

-- which names are new

and_false : (b : Bool) → (b && false) ≡ false
and_false true = refl
and_false false = refl

or_false : (b : Bool) → (b || (false || false)) ≡ b
or_false true = refl
or_false false = refl

spoilt : (k : Bool) → k ≡ true → (w : Bool) → (not k && w) ≡ (not k && true)
spoilt true e w = refl
spoilt false e w = cc

unspoilt : (k : Bool) → k ≡ false → true ≡ (not k && true)
unspoilt true e = cc
unspoilt false e = refl

pub names-append : (known ns : List (List ℕ)) (n : List ℕ) → is_known (known ++ ns) n ≡ (is_known known n || is_known ns n)
names-append [] ns n = refl
names-append (m ∷ known) ns n = go (bytes_eq m n) (names-append known ns n)
  where
    go : (b : Bool) → is_known (known ++ ns) n ≡ (is_known known n || is_known ns n) → (b || is_known (known ++ ns) n) ≡ ((b || is_known known n) || is_known ns n)
    go true h = refl
    go false h = h

pub known_new : (known : List (List ℕ)) (ws : List Var) (n : List ℕ) → is_known (var_names (new_vars known ws)) n ≡ (not (is_known known n) && is_known (var_names ws) n)
known_new known [] n = sym (and_false (not (is_known known n)))
known_new known (v ∷ vs) n = by (bytes_eq v.name n) refl (is_known known v.name) refl (known_new known vs n) (known_new (known ++ v.name ∷ []) vs n)
  where
    by : (c : Bool) → bytes_eq v.name n ≡ c → (b : Bool) → is_known known v.name ≡ b
        → is_known (var_names (new_vars known vs)) n ≡ (not (is_known known n) && is_known (var_names vs) n)
        → is_known (var_names (new_vars (known ++ v.name ∷ []) vs)) n ≡ (not (is_known (known ++ v.name ∷ []) n) && is_known (var_names vs) n)
        → is_known (var_names (cond b (new_vars known vs) (v ∷ new_vars (known ++ v.name ∷ []) vs))) n ≡ (not (is_known known n) && (c || is_known (var_names vs) n))
    by true ec true eb one two = one ∙ spoilt (is_known known n) (subst (λ m. is_known known m ≡ true) (same_name_true v.name n ec) eb) (is_known (var_names vs) n)
    by false ec true eb one two = one
    by true ec false eb one two = ap (λ c. c || is_known (var_names (new_vars (known ++ v.name ∷ []) vs)) n) ec ∙ unspoilt (is_known known n) (subst (λ m. is_known known m ≡ false) (same_name_true v.name n ec) eb)
    by false ec false eb one two =
        ap (λ c. c || is_known (var_names (new_vars (known ++ v.name ∷ []) vs)) n) ec ∙ two
        ∙ ap (λ k. not k && is_known (var_names vs) n) (names-append known (v.name ∷ []) n ∙ ap (λ c. is_known known n || (c || false)) ec ∙ or_false (is_known known n))

pub known_filter : (v ws : List Var) (n : List ℕ) → is_known (var_names (new_of v ws)) n ≡ (not (is_known (var_names v) n) && is_known (var_names ws) n)
known_filter v [] n = sym (and_false (not (is_known (var_names v) n)))
known_filter v (x ∷ ws) n = by (bytes_eq x.name n) refl (is_known (var_names v) x.name) refl (known_filter v ws n)
  where
    by : (c : Bool) → bytes_eq x.name n ≡ c → (b : Bool) → is_known (var_names v) x.name ≡ b
        → is_known (var_names (new_of v ws)) n ≡ (not (is_known (var_names v) n) && is_known (var_names ws) n)
        → is_known (var_names (cond (not b) (x ∷ new_of v ws) (new_of v ws))) n ≡ (not (is_known (var_names v) n) && (c || is_known (var_names ws) n))
    by true ec true eb h = h ∙ spoilt (is_known (var_names v) n) (subst (λ m. is_known (var_names v) m ≡ true) (same_name_true x.name n ec) eb) (is_known (var_names ws) n)
    by false ec true eb h = h
    by true ec false eb h = ap (λ c. c || is_known (var_names (new_of v ws)) n) ec ∙ unspoilt (is_known (var_names v) n) (subst (λ m. is_known (var_names v) m ≡ false) (same_name_true x.name n ec) eb)
    by false ec false eb h = ap (λ c. c || is_known (var_names (new_of v ws)) n) ec ∙ h

or_left : (b c : Bool) → (b || c) ≡ false → b ≡ false
or_left true c e = e
or_left false c e = refl

first_free : (known : List (List ℕ)) (v : Var) (ws : List Var) (x : Var) → is_known known v.name ≡ false → Member x (v ∷ ws) → (Member x ws → is_known (known ++ v.name ∷ []) x.name ≡ false) → is_known known x.name ≡ false
first_free known v ws x e Member.here rest = e
first_free known v ws x e (Member.later k) rest = or_left (is_known known x.name) (is_known (v.name ∷ []) x.name) (sym (names-append known (v.name ∷ []) x.name) ∙ rest k)

-- what is new is free
pub new_free : (known : List (List ℕ)) (ws : List Var) (x : Var) → Member x (new_vars known ws) → is_known known x.name ≡ false
new_free known [] x m = elim m [ ]
new_free known (v ∷ vs) x m = by (is_known known v.name) refl m (λ k. new_free known vs x k) (λ k. new_free (known ++ v.name ∷ []) vs x k)
  where
    by : (b : Bool) → is_known known v.name ≡ b → Member x (cond b (new_vars known vs) (v ∷ new_vars (known ++ v.name ∷ []) vs)) → (Member x (new_vars known vs) → is_known known x.name ≡ false) → (Member x (new_vars (known ++ v.name ∷ []) vs) → is_known (known ++ v.name ∷ []) x.name ≡ false) → is_known known x.name ≡ false
    by true e k one two = one k
    by false e k one two = first_free known v (new_vars (known ++ v.name ∷ []) vs) x e k two

-- the first variables of the names

binder_new : (known : List (List ℕ)) (ws : List Var) (n : List ℕ) → binder_of (new_vars known ws) n ≡ cond (is_known known n) None (binder_of ws n)
binder_new known [] n = none (is_known known n)
  where
    none : (b : Bool) → (let o : Option Var = None in o) ≡ cond b None None
    none true = refl
    none false = refl
binder_new known (v ∷ vs) n = by (bytes_eq v.name n) refl (is_known known v.name) refl (binder_new known vs n) (binder_new (known ++ v.name ∷ []) vs n)
  where
    left : (k : Bool) → k ≡ true → (o p : Option Var) → cond k None o ≡ cond k None p
    left true e o p = refl
    left false e o p = cc

    right : (k : Bool) → k ≡ false → (o : Option Var) → o ≡ cond k None o
    right true e o = cc
    right false e o = refl

    by : (c : Bool) → bytes_eq v.name n ≡ c → (b : Bool) → is_known known v.name ≡ b
        → binder_of (new_vars known vs) n ≡ cond (is_known known n) None (binder_of vs n)
        → binder_of (new_vars (known ++ v.name ∷ []) vs) n ≡ cond (is_known (known ++ v.name ∷ []) n) None (binder_of vs n)
        → binder_of (cond b (new_vars known vs) (v ∷ new_vars (known ++ v.name ∷ []) vs)) n ≡ cond (is_known known n) None (cond c (Some v) (binder_of vs n))
    by true ec true eb one two = one ∙ left (is_known known n) (subst (λ m. is_known known m ≡ true) (same_name_true v.name n ec) eb) (binder_of vs n) (Some v)
    by false ec true eb one two = one
    by true ec false eb one two = ap (λ c. cond c (Some v) (binder_of (new_vars (known ++ v.name ∷ []) vs) n)) ec ∙ right (is_known known n) (subst (λ m. is_known known m ≡ false) (same_name_true v.name n ec) eb) (Some v)
    by false ec false eb one two =
        ap (λ c. cond c (Some v) (binder_of (new_vars (known ++ v.name ∷ []) vs) n)) ec ∙ two
        ∙ ap (λ k. cond k None (binder_of vs n)) (names-append known (v.name ∷ []) n ∙ ap (λ c. is_known known n || (c || false)) ec ∙ or_false (is_known known n))

binder_filter : (v ws : List Var) (n : List ℕ) → binder_of (new_of v ws) n ≡ cond (is_known (var_names v) n) None (binder_of ws n)
binder_filter v [] n = none (is_known (var_names v) n)
  where
    none : (b : Bool) → (let o : Option Var = None in o) ≡ cond b None None
    none true = refl
    none false = refl
binder_filter v (x ∷ ws) n = by (bytes_eq x.name n) refl (is_known (var_names v) x.name) refl (binder_filter v ws n)
  where
    left : (k : Bool) → k ≡ true → (o p : Option Var) → cond k None o ≡ cond k None p
    left true e o p = refl
    left false e o p = cc

    right : (k : Bool) → k ≡ false → (o : Option Var) → o ≡ cond k None o
    right true e o = cc
    right false e o = refl

    by : (c : Bool) → bytes_eq x.name n ≡ c → (b : Bool) → is_known (var_names v) x.name ≡ b
        → binder_of (new_of v ws) n ≡ cond (is_known (var_names v) n) None (binder_of ws n)
        → binder_of (cond (not b) (x ∷ new_of v ws) (new_of v ws)) n ≡ cond (is_known (var_names v) n) None (cond c (Some x) (binder_of ws n))
    by true ec true eb h = h ∙ left (is_known (var_names v) n) (subst (λ m. is_known (var_names v) m ≡ true) (same_name_true x.name n ec) eb) (binder_of ws n) (Some x)
    by false ec true eb h = h
    by true ec false eb h = ap (λ c. cond c (Some x) (binder_of (new_of v ws) n)) ec ∙ right (is_known (var_names v) n) (subst (λ m. is_known (var_names v) m ≡ false) (same_name_true x.name n ec) eb) (Some x)
    by false ec false eb h = ap (λ c. cond c (Some x) (binder_of (new_of v ws) n)) ec ∙ h

-- a new variable is the first of its name among the new ones
own_first : (known : List (List ℕ)) (ws : List Var) (x : Var) → Member x (new_vars known ws) → binder_of (new_vars known ws) x.name ≡ Some x
own_first known [] x m = elim m [ ]
own_first known (v ∷ vs) x m = by (is_known known v.name) m (λ k. own_first known vs x k) (λ k. own_first (known ++ v.name ∷ []) vs x k)
  where
    or_last : (b c : Bool) → (b || (c || false)) ≡ false → c ≡ false
    or_last true c e = cc
    or_last false true e = cc
    or_last false false e = refl

    head : (y : Var) (ys : List Var) → Member x (y ∷ ys) → (Member x ys → (bytes_eq y.name x.name ≡ false) × (binder_of ys x.name ≡ Some x)) → binder_of (y ∷ ys) x.name ≡ Some x
    head y ys Member.here rest = ap (λ c. cond c (Some x) (binder_of ys x.name)) (same_name_self x.name)
    head y ys (Member.later k) rest = ap (λ c. cond c (Some y) (binder_of ys x.name)) (rest k).0 ∙ (rest k).1

    first : Member x (v ∷ new_vars (known ++ v.name ∷ []) vs) → (Member x (new_vars (known ++ v.name ∷ []) vs) → binder_of (new_vars (known ++ v.name ∷ []) vs) x.name ≡ Some x) → binder_of (v ∷ new_vars (known ++ v.name ∷ []) vs) x.name ≡ Some x
    first k two = head v (new_vars (known ++ v.name ∷ []) vs) k (λ l. (or_last (is_known known x.name) (bytes_eq v.name x.name) (sym (names-append known (v.name ∷ []) x.name) ∙ new_free (known ++ v.name ∷ []) vs x l), two l))

    by : (b : Bool) → Member x (cond b (new_vars known vs) (v ∷ new_vars (known ++ v.name ∷ []) vs)) → (Member x (new_vars known vs) → binder_of (new_vars known vs) x.name ≡ Some x) → (Member x (new_vars (known ++ v.name ∷ []) vs) → binder_of (new_vars (known ++ v.name ∷ []) vs) x.name ≡ Some x) → binder_of (cond b (new_vars known vs) (v ∷ new_vars (known ++ v.name ∷ []) vs)) x.name ≡ Some x
    by true k one two = one k
    by false k one two = first k two

-- each of these is the first of its name, so that it stands for what the choice says of it
abbrev pub AreFirst : Choice → List Var → Type 0
AreFirst σ ns = (x : Var) → Member x ns → (bind σ ns).choice x ≡ σ x

pub new_first : (σ : Choice) (known : List (List ℕ)) (ws : List Var) → AreFirst σ (new_vars known ws)
new_first σ known ws x m = ap (λ o. option_map_or σ o (σ x)) (own_first known ws x m)

-- the choice of a step is that of the variables that it binds

chosen_bind : (σ : Choice) (vs : List Var) (x : Var) → chosen_of σ vs x ≡ chosen (bind σ vs) x
chosen_bind σ vs x = go vs
  where
    one : (b : Bool) (y : Var) (ys : List Var) → option_map_or σ (binder_of ys x.name) (variable x) ≡ cond (is_known (var_names ys) x.name) (option_map_or σ (binder_of ys x.name) (σ x)) (variable x) → option_map_or σ (cond b (Some y) (binder_of ys x.name)) (variable x) ≡ cond (b || is_known (var_names ys) x.name) (option_map_or σ (cond b (Some y) (binder_of ys x.name)) (σ x)) (variable x)
    one true y ys h = refl
    one false y ys h = h

    go : (ys : List Var) → option_map_or σ (binder_of ys x.name) (variable x) ≡ cond (is_known (var_names ys) x.name) (option_map_or σ (binder_of ys x.name) (σ x)) (variable x)
    go [] = refl
    go (y ∷ ys) = one (bytes_eq y.name x.name) y ys (go ys)

pub with_choice_is : (σ : Choice) (vs : List Var) (p : Proc) → with_choice σ vs p ≡ process_instance (chosen (bind σ vs)) p
with_choice_is σ vs p = one_instance (chosen_of σ vs) (chosen (bind σ vs)) (chosen_bind σ vs) p

chosen_just : (x : Var) (t : Tree) (v : Var) → chosen_of (λ y. t) (x ∷ []) v ≡ chosen (just x t) v
chosen_just x t v = go (bytes_eq x.name v.name)
  where
    go : (b : Bool) → option_map_or (λ (y : Var). t) (cond b (Some x) None) (variable v) ≡ cond (b || false) t (variable v)
    go true = refl
    go false = refl

pub with_term_is : (x : Var) (t : Tree) (p : Proc) → with_term x t p ≡ process_instance (chosen (just x t)) p
with_term_is x t p = one_instance (chosen_of (λ y. t) (x ∷ [])) (chosen (just x t)) (chosen_just x t) p

-- a choice on the variables of an instance of a pattern is one on the pattern's new variables

pub same_on_new : (σ : Choice) (v ws : List Var) (x : Var) → chosen (bind σ (new_of v ws)) x ≡ chosen (bind σ (new_vars (var_names v) ws)) x
same_on_new σ v ws x =
    let known = known_filter v ws x.name ∙ sym (known_new (var_names v) ws x.name) in
    let first = binder_filter v ws x.name ∙ sym (binder_new (var_names v) ws x.name) in
    λ i. cond (known i) (option_map_or σ (first i) (σ x)) (variable x)

-- an input's pattern binds its new variables
pub after_pattern : (laws : Laws) → (σ : Choice) (env : Env) → GroundEnv env → (m : Tree) (p : Proc) → process_instance (chosen (bind σ (tree_vars (instance (chosen env) m)))) (process_instance (chosen env) p) ≡ process_instance (chosen (join env (bind σ (new_vars (var_names env.scope) (tree_vars m))))) p
after_pattern laws σ env g m p =
    ap (λ vs. process_instance (chosen (bind σ vs)) (process_instance (chosen env) p)) (vars_put env g m)
    ∙ one_instance (chosen (bind σ (new_of env.scope (tree_vars m)))) (chosen (bind σ (new_vars (var_names env.scope) (tree_vars m)))) (same_on_new σ env.scope (tree_vars m)) (process_instance (chosen env) p)
    ∙ (instance_append laws) env (bind σ (new_vars (var_names env.scope) (tree_vars m))) g p

-- the same of facts

pub map_trees : (σ : Choice) (ts : List Tree) → trees_of (map (instance σ) ts) ≡ instances σ (trees_of ts)
map_trees σ [] = refl
map_trees σ (t ∷ ts) = ap (more (instance σ t)) (map_trees σ ts)

pub facts_vars_put : (env : Env) → GroundEnv env → (fs : List Fact) → facts_vars (instance_facts (chosen env) fs) ≡ new_of env.scope (facts_vars fs)
facts_vars_put env g [] = refl
facts_vars_put env g (f ∷ fs) =
    (λ i. (ap trees_vars (map_trees (chosen env) f.args) ∙ vars_put_each env g (trees_of f.args)) i ++ facts_vars_put env g fs i)
    ∙ sym (filter-append (λ (x : Var). not (is_known (var_names env.scope) x.name)) (trees_vars (trees_of f.args)) (facts_vars fs))

pub after_facts : (laws : Laws) → (σ : Choice) (env : Env) → GroundEnv env → (fs : List Fact) (p : Proc) → process_instance (chosen (bind σ (facts_vars (instance_facts (chosen env) fs)))) (process_instance (chosen env) p) ≡ process_instance (chosen (join env (bind σ (new_vars (var_names env.scope) (facts_vars fs))))) p
after_facts laws σ env g fs p =
    ap (λ vs. process_instance (chosen (bind σ vs)) (process_instance (chosen env) p)) (facts_vars_put env g fs)
    ∙ one_instance (chosen (bind σ (new_of env.scope (facts_vars fs)))) (chosen (bind σ (new_vars (var_names env.scope) (facts_vars fs)))) (same_on_new σ env.scope (facts_vars fs)) (process_instance (chosen env) p)
    ∙ (instance_append laws) env (bind σ (new_vars (var_names env.scope) (facts_vars fs))) g p
