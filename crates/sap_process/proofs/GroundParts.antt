-- Instances of ground processes are ground.
use Rattle.std.proofs.Common.{◌≡◌, ℕ, List, [], ◌∷◌, ◌++◌, Bool, true, false, not, ◌||◌, ◌&&◌, cond, map, filter, refl, sym, ap, subst, ◌∙◌, inl, inr}
use Rattle.std.specs.Prelude.{Contains}
use Rattle.std.specs.Str.{bytes_eq}
use Rattle.std.proofs.lemmas.List.Elements.{Contains-append_left, Contains-append_right, Contains-append_cases}
use Rattle.sap_terms.specs.Choice.{instance}
use Rattle.sap_terms.specs.Modulo.{instance_fact, instance_facts}
use Rattle.sap_terms.specs.Same.{same_sort}
use Rattle.sap_terms.specs.Tree.{Tree, variable}
use Rattle.sap_terms.specs.Variables.{tree_vars, facts_vars, is_known, new_vars}
use Rattle.sap_terms.specs.declared.fact.Fact.{Fact}
use Rattle.sap_terms.specs.declared.var.Sort.TheVariants.{Pub}
use Rattle.sap_terms.specs.declared.var.Var.{Var}
use Rattle.sap_process.specs.Action as action
use Rattle.sap_process.specs.Action.{Action}
use Rattle.sap_process.specs.Flaws.{unbound, unbound_in, unbound_at}
use Rattle.sap_process.specs.Heads.{terms_vars}
use Rattle.sap_process.specs.Instance.{action_instance, process_instance, without, behind}
use Rattle.sap_process.specs.Proc as whole
use Rattle.sap_process.specs.Proc.{Proc, act}
use Rattle.sap_process.specs.Places.{place}
use Rattle.sap_process.specs.Sites.{Site, above_of, sites_from, var_names, fresh_var, message_var, bound_by}
use Rattle.sap_process.proofs.InstanceLemmas.{one_instance}
use Rattle.sap_process.proofs.Members.{member-head, member-tail, member-none, member-cases}
use Rattle.sap_process.specs.GroundProcess.{IsGroundProcess}
use Rattle.sap_process.specs.code.GroundParts.{IsGroundIn}
use Rattle.sap_process.proofs.Names.{same_name_true, known-append, names-append}
use Rattle.sap_process.proofs.NewVars.{or_new}
use Rattle.sap_process.proofs.SortedVars.{map_joined}
use Rattle.sap_process.proofs.Envs.{Env, put, GroundEnv, known_new, known_filter, new_of, filter-append, vars_put, facts_vars_put}

-- part by part and place by place

one_case : (P : Site → Type 0) (x : Site) (xs : List Site) → P x → ((s : Site) → Contains xs s → P s) → (s : Site) → Contains (x ∷ xs) s → P s
one_case P x xs one rest s m = elim (member-cases x xs s m) [ inl e ↦ subst P e one | inr k ↦ rest s k ]

two_case : (P : Site → Type 0) (x : Site) (xs ys : List Site) → P x → ((s : Site) → Contains xs s → P s) → ((s : Site) → Contains ys s → P s) → (s : Site) → Contains (x ∷ (xs ++ ys)) s → P s
two_case P x xs ys one two three s m = one_case P x (xs ++ ys) one (λ u k. elim (Contains-append_cases xs ys u k) [ inl a ↦ two u a | inr b ↦ three u b ]) s m

abbrev Bound : Site → Type 0
Bound s = unbound s.above.scope s.body ≡ []

abbrev site : List ℕ → List Var → ℕ → Proc → Site
site path v k p = place path (above_of v k) p

pub to_places : (p : Proc) (path : List ℕ) (v : List Var) (k : ℕ) → IsGroundIn v p → (s : Site) → Contains (sites_from path v k p) s → Bound s
to_places whole.nil path v k h = one_case Bound (site path v k whole.nil) [] refl (λ u m. absurd (member-none u m))
to_places (whole.parallel p q) path v k h = two_case Bound (site path v k (whole.parallel p q)) (sites_from (path ++ 1 ∷ []) v k p) (sites_from (path ++ 2 ∷ []) v k q) refl (to_places p (path ++ 1 ∷ []) v k h.0) (to_places q (path ++ 2 ∷ []) v k h.1)
to_places (whole.replicated p) path v k h = one_case Bound (site path v k (whole.replicated p)) (sites_from (path ++ 1 ∷ []) v k p) refl (to_places p (path ++ 1 ∷ []) v k h)
to_places (act a p) path v k h = one_case Bound (site path v k (act a p)) (sites_from (path ++ 1 ∷ []) (v ++ bound_by v a) _ p) h.0 (to_places p (path ++ 1 ∷ []) (v ++ bound_by v a) _ h.1)
to_places (whole.test t u p q) path v k h = two_case Bound (site path v k (whole.test t u p q)) (sites_from (path ++ 1 ∷ []) v k p) (sites_from (path ++ 2 ∷ []) v k q) h.0 (to_places p (path ++ 1 ∷ []) v k h.1) (to_places q (path ++ 2 ∷ []) v k h.2)
to_places (whole.lookup t x p q) path v k h = two_case Bound (site path v k (whole.lookup t x p q)) (sites_from (path ++ 1 ∷ []) (v ++ message_var x ∷ []) k p) (sites_from (path ++ 2 ∷ []) v k q) h.0 (to_places p (path ++ 1 ∷ []) (v ++ message_var x ∷ []) k h.1) (to_places q (path ++ 2 ∷ []) v k h.2)

abbrev Each : List Site → Type 0
Each xs = (s : Site) → Contains xs s → Bound s

each_first : (x : Site) (xs ys : List Site) → Each (x ∷ (xs ++ ys)) → Each xs
each_first x xs ys h u m = h u (member-tail x (xs ++ ys) u (Contains-append_left xs ys u m))

each_second : (x : Site) (xs ys : List Site) → Each (x ∷ (xs ++ ys)) → Each ys
each_second x xs ys h u m = h u (member-tail x (xs ++ ys) u (Contains-append_right xs ys u m))

each_next : (x : Site) (xs : List Site) → Each (x ∷ xs) → Each xs
each_next x xs h u m = h u (member-tail x xs u m)

pub of_places : (p : Proc) (path : List ℕ) (v : List Var) (k : ℕ) → Each (sites_from path v k p) → IsGroundIn v p
of_places whole.nil path v k h = tt
of_places (whole.parallel p q) path v k h =
    let x = site path v k (whole.parallel p q) in
    let xs = sites_from (path ++ 1 ∷ []) v k p in
    let ys = sites_from (path ++ 2 ∷ []) v k q in
    (of_places p (path ++ 1 ∷ []) v k (each_first x xs ys h), of_places q (path ++ 2 ∷ []) v k (each_second x xs ys h))
of_places (whole.replicated p) path v k h = of_places p (path ++ 1 ∷ []) v k (each_next (site path v k (whole.replicated p)) (sites_from (path ++ 1 ∷ []) v k p) h)
of_places (act a p) path v k h = (h (site path v k (act a p)) (member-head _ _), of_places p (path ++ 1 ∷ []) (v ++ bound_by v a) _ (each_next (site path v k (act a p)) (sites_from (path ++ 1 ∷ []) (v ++ bound_by v a) _ p) h))
of_places (whole.test t u p q) path v k h =
    let x = site path v k (whole.test t u p q) in
    let xs = sites_from (path ++ 1 ∷ []) v k p in
    let ys = sites_from (path ++ 2 ∷ []) v k q in
    (h x (member-head x (xs ++ ys)), of_places p (path ++ 1 ∷ []) v k (each_first x xs ys h), of_places q (path ++ 2 ∷ []) v k (each_second x xs ys h))
of_places (whole.lookup t y p q) path v k h =
    let x = site path v k (whole.lookup t y p q) in
    let xs = sites_from (path ++ 1 ∷ []) (v ++ message_var y ∷ []) k p in
    let ys = sites_from (path ++ 2 ∷ []) v k q in
    (h x (member-head x (xs ++ ys)), of_places p (path ++ 1 ∷ []) (v ++ message_var y ∷ []) k (each_first x xs ys h), of_places q (path ++ 2 ∷ []) v k (each_second x xs ys h))

pub ground_in : (p : Proc) → IsGroundProcess p → IsGroundIn [] p
ground_in p h = of_places p [] [] 0 h

pub in_ground : (p : Proc) → IsGroundIn [] p → IsGroundProcess p
in_ground p h = to_places p [] [] 0 h

-- what is in scope before is replaced or in scope after
abbrev Fits : Env → List Var → List Var → Type 0
Fits env v u = (n : List ℕ) → is_known (var_names v) n ≡ (is_known (var_names env.scope) n || is_known (var_names u) n)

abbrev unknown : List Var → Var → Bool
unknown v x = not (is_known (var_names v) x.name)

known_or : (v w : List Var) (n : List ℕ) → is_known (var_names (v ++ w)) n ≡ (is_known (var_names v) n || is_known (var_names w) n)
known_or v w n = known-append v w (record { name = n; sort = Pub })

-- terms

left_nothing : (v u : List Var) (env : Env) → Fits env v u → (xs : List Var) → filter (unknown v) xs ≡ [] → filter (unknown u) (new_of env.scope xs) ≡ []
left_nothing v u env fits [] e = refl
left_nothing v u env fits (x ∷ xs) e = go (is_known (var_names env.scope) x.name) (is_known (var_names u) x.name) (is_known (var_names v) x.name) refl (fits x.name) e (left_nothing v u env fits xs)
  where
    go : (r b a : Bool) → is_known (var_names u) x.name ≡ b → a ≡ (r || b) → cond (not a) (x ∷ filter (unknown v) xs) (filter (unknown v) xs) ≡ []
        → (filter (unknown v) xs ≡ [] → filter (unknown u) (new_of env.scope xs) ≡ []) → filter (unknown u) (cond (not r) (x ∷ new_of env.scope xs) (new_of env.scope xs)) ≡ []
    go true b true d f k later = later k
    go true b false d f k later = absurd (cc)
    go false true true d f k later = rw d (later k)
    go false true false d f k later = absurd (cc)
    go false false true d f k later = absurd (cc)
    go false false false d f k later = absurd (cc)

vars_left : (env : Env) → GroundEnv env → (ts : List Tree) → terms_vars (map (instance (put env)) ts) ≡ new_of env.scope (terms_vars ts)
vars_left env g [] = refl
vars_left env g (t ∷ ts) = (λ i. vars_put env g t i ++ vars_left env g ts i) ∙ sym (filter-append (unknown env.scope) (tree_vars t) (terms_vars ts))

terms_bound : (v u : List Var) (env : Env) → GroundEnv env → Fits env v u → (ts : List Tree) → unbound_in v ts ≡ [] → unbound_in u (map (instance (put env)) ts) ≡ []
terms_bound v u env g fits ts e = ap (filter (unknown u)) (vars_left env g ts) ∙ left_nothing v u env fits (terms_vars ts) e

-- new variables

scope_new : (v ws : List Var) (n : List ℕ) → is_known (var_names (v ++ new_vars (var_names v) ws)) n ≡ (is_known (var_names v) n || is_known (var_names ws) n)
scope_new v ws n = known_or v (new_vars (var_names v) ws) n ∙ ap (λ b. is_known (var_names v) n || b) (known_new (var_names v) ws n) ∙ or_new (is_known (var_names v) n) (is_known (var_names ws) n)

shuffle : (r u w : Bool) → ((r || u) || w) ≡ (r || (u || (not r && w)))
shuffle true u w = refl
shuffle false u w = refl

fits_new : (v u : List Var) (env : Env) (ws : List Var) → Fits env v u → Fits env (v ++ new_vars (var_names v) ws) (u ++ new_vars (var_names u) (new_of env.scope ws))
fits_new v u env ws fits n =
    scope_new v ws n ∙ ap (λ b. b || is_known (var_names ws) n) (fits n) ∙ shuffle (is_known (var_names env.scope) n) (is_known (var_names u) n) (is_known (var_names ws) n)
    ∙ ap (λ b. is_known (var_names env.scope) n || b) (sym (scope_new u (new_of env.scope ws) n ∙ ap (λ b. is_known (var_names u) n || b) (known_filter env.scope ws n)))

fits_nothing : (v u : List Var) (env : Env) → Fits env v u → Fits env (v ++ []) (u ++ [])
fits_nothing v u env fits n = known_or v [] n ∙ ap (λ b. b || false) (fits n) ∙ assoc (is_known (var_names env.scope) n) (is_known (var_names u) n) ∙ ap (λ b. is_known (var_names env.scope) n || b) (sym (known_or u [] n))
  where
    assoc : (a b : Bool) → ((a || b) || false) ≡ (a || (b || false))
    assoc true b = refl
    assoc false b = refl

-- a binder that binds its name again

abbrev hidden : Env → Var → Env
hidden env x = record { scope = filter (λ (y : Var). not (bytes_eq x.name y.name)) env.scope; choice = env.choice }

hidden_known : (x : Var) (rs : List Var) (n : List ℕ) → is_known (var_names (filter (λ (y : Var). not (bytes_eq x.name y.name)) rs)) n ≡ (not (bytes_eq x.name n) && is_known (var_names rs) n)
hidden_known x [] n = go (bytes_eq x.name n)
  where
    go : (b : Bool) → false ≡ (not b && false)
    go true = refl
    go false = refl
hidden_known x (y ∷ rs) n = go (bytes_eq x.name y.name) refl (bytes_eq y.name n) refl (bytes_eq x.name n) refl (hidden_known x rs n)
  where
    go : (b : Bool) → bytes_eq x.name y.name ≡ b → (c : Bool) → bytes_eq y.name n ≡ c → (d : Bool) → bytes_eq x.name n ≡ d
        → is_known (var_names (filter (λ (z : Var). not (bytes_eq x.name z.name)) rs)) n ≡ (not d && is_known (var_names rs) n)
        → is_known (var_names (cond (not b) (y ∷ filter (λ (z : Var). not (bytes_eq x.name z.name)) rs) (filter (λ (z : Var). not (bytes_eq x.name z.name)) rs))) n ≡ (not d && (c || is_known (var_names rs) n))
    go true e true f true k h = h
    go true e true f false k h = absurd (let same : bytes_eq x.name n ≡ true = subst (λ z. bytes_eq x.name z ≡ true) (same_name_true y.name n f) e in cc)
    go true e false f d k h = h
    go false e true f true k h = absurd (let same : bytes_eq x.name y.name ≡ true = subst (λ z. bytes_eq x.name z ≡ true) (sym (same_name_true y.name n f)) k in cc)
    go false e true f false k h = ap (λ c. c || is_known (var_names (filter (λ (z : Var). not (bytes_eq x.name z.name)) rs)) n) f
    go false e false f d k h = ap (λ c. c || is_known (var_names (filter (λ (z : Var). not (bytes_eq x.name z.name)) rs)) n) f ∙ h

hidden_chosen : (env : Env) (x v : Var) → without (put env) x v ≡ put (hidden env x) v
hidden_chosen env x v = go (bytes_eq x.name v.name) refl (is_known (var_names env.scope) v.name) refl
  where
    go : (d : Bool) → bytes_eq x.name v.name ≡ d → (r : Bool) → is_known (var_names env.scope) v.name ≡ r → cond d (variable v) (cond r (env.choice v) (variable v)) ≡ put (hidden env x) v
    go d e r f = pick d r ∙ ap (λ b. cond b (env.choice v) (variable v)) (sym (hidden_known x env.scope v.name ∙ (λ i. not (e i) && f i)))
      where
        pick : (d r : Bool) → cond d (variable v) (cond r (env.choice v) (variable v)) ≡ cond (not d && r) (env.choice v) (variable v)
        pick true r = refl
        pick false r = refl

fits_binder : (v u : List Var) (env : Env) (x y : Var) → y.name ≡ x.name → Fits env v u → Fits (hidden env x) (v ++ y ∷ []) (u ++ y ∷ [])
fits_binder v u env x y same fits n =
    known_or v (y ∷ []) n ∙ ap (λ m. is_known (var_names v) n || (bytes_eq m n || false)) same ∙ ap (λ b. b || (bytes_eq x.name n || false)) (fits n)
    ∙ move (is_known (var_names env.scope) n) (is_known (var_names u) n) (bytes_eq x.name n)
    ∙ (λ i. sym (hidden_known x env.scope n) i || sym (known_or u (y ∷ []) n ∙ ap (λ m. is_known (var_names u) n || (bytes_eq m n || false)) same) i)
  where
    move : (r u d : Bool) → ((r || u) || (d || false)) ≡ ((not d && r) || (u || (d || false)))
    move true true true = refl
    move true true false = refl
    move true false true = refl
    move true false false = refl
    move false true true = refl
    move false true false = refl
    move false false true = refl
    move false false false = refl

-- an embedded rule

filtered_new : (rs : List Var) (xs : List Var) (k j : List (List ℕ)) → ((n : List ℕ) → is_known (var_names rs) n ≡ true → is_known k n ≡ true) → ((n : List ℕ) → is_known (var_names rs) n ≡ false → is_known k n ≡ is_known j n)
    → new_vars k xs ≡ new_vars j (new_of rs xs)
filtered_new rs [] k j h g = refl
filtered_new rs (x ∷ xs) k j h g =
    go (is_known (var_names rs) x.name) refl (is_known k x.name) refl (is_known j x.name) refl (filtered_new rs xs k j h g) (filtered_new rs xs (k ++ x.name ∷ []) (j ++ x.name ∷ []) more same)
  where
    more : (n : List ℕ) → is_known (var_names rs) n ≡ true → is_known (k ++ x.name ∷ []) n ≡ true
    more n e = names-append k (x.name ∷ []) n ∙ ap (λ b. b || (bytes_eq x.name n || false)) (h n e)

    same : (n : List ℕ) → is_known (var_names rs) n ≡ false → is_known (k ++ x.name ∷ []) n ≡ is_known (j ++ x.name ∷ []) n
    same n e = names-append k (x.name ∷ []) n ∙ ap (λ b. b || (bytes_eq x.name n || false)) (g n e) ∙ sym (names-append j (x.name ∷ []) n)

    go : (r : Bool) → is_known (var_names rs) x.name ≡ r → (a : Bool) → is_known k x.name ≡ a → (b : Bool) → is_known j x.name ≡ b → new_vars k xs ≡ new_vars j (new_of rs xs) → new_vars (k ++ x.name ∷ []) xs ≡ new_vars (j ++ x.name ∷ []) (new_of rs xs)
        → cond a (new_vars k xs) (x ∷ new_vars (k ++ x.name ∷ []) xs) ≡ new_vars j (cond (not r) (x ∷ new_of rs xs) (new_of rs xs))
    go true e true f b d one two = one
    go true e false f b d one two = absurd (let t : is_known k x.name ≡ true = h x.name e in cc)
    go false e true f true d one two = rw d one
    go false e true f false d one two = absurd (let s : is_known k x.name ≡ is_known j x.name = g x.name e in cc)
    go false e false f true d one two = absurd (let s : is_known k x.name ≡ is_known j x.name = g x.name e in cc)
    go false e false f false d one two = rw d (ap (λ zs. x ∷ zs) two)

abbrev not_public : Var → Bool
not_public x = not (same_sort x.sort Pub)

rule_bound : (v u : List Var) (env : Env) → GroundEnv env → Fits env v u → (l e r : List Fact) → unbound_at v (action.embedded l e r) ≡ []
    → unbound_at u (action.embedded (instance_facts (put env) l) (instance_facts (put env) e) (instance_facts (put env) r)) ≡ []
rule_bound v u env g fits l e r absent =
    let right : facts_vars (instance_facts (put env) e ++ instance_facts (put env) r) ≡ new_of env.scope (facts_vars (e ++ r)) = ap facts_vars (sym (map_joined (instance_fact (put env)) e r)) ∙ facts_vars_put env g (e ++ r) in
    ap (λ z. filter not_public (new_vars (var_names (u ++ z)) (facts_vars (instance_facts (put env) e ++ instance_facts (put env) r)))) (facts_vars_put env g l)
    ∙ ap (λ z. filter not_public (new_vars (var_names (u ++ new_of env.scope (facts_vars l))) z)) right
    ∙ ap (filter not_public) (sym (filtered_new env.scope (facts_vars (e ++ r)) (var_names (v ++ facts_vars l)) (var_names (u ++ new_of env.scope (facts_vars l))) there same))
    ∙ absent
  where
    before : (n : List ℕ) → is_known (var_names (v ++ facts_vars l)) n ≡ ((is_known (var_names env.scope) n || is_known (var_names u) n) || is_known (var_names (facts_vars l)) n)
    before n = known_or v (facts_vars l) n ∙ ap (λ b. b || is_known (var_names (facts_vars l)) n) (fits n)

    there : (n : List ℕ) → is_known (var_names env.scope) n ≡ true → is_known (var_names (v ++ facts_vars l)) n ≡ true
    there n e = before n ∙ ap (λ b. (b || is_known (var_names u) n) || is_known (var_names (facts_vars l)) n) e

    same : (n : List ℕ) → is_known (var_names env.scope) n ≡ false → is_known (var_names (v ++ facts_vars l)) n ≡ is_known (var_names (u ++ new_of env.scope (facts_vars l))) n
    same n e =
        before n ∙ ap (λ b. (b || is_known (var_names u) n) || is_known (var_names (facts_vars l)) n) e
        ∙ sym (known_or u (new_of env.scope (facts_vars l)) n ∙ ap (λ b. is_known (var_names u) n || b) (known_filter env.scope (facts_vars l) n ∙ ap (λ b. not b && is_known (var_names (facts_vars l)) n) e))

-- actions

action_bound : (v u : List Var) (env : Env) → GroundEnv env → Fits env v u → (a : Action) → unbound_at v a ≡ [] → unbound_at u (action_instance (put env) a) ≡ []
action_bound v u env g fits (action.new x) e = refl
action_bound v u env g fits (action.out t) e = terms_bound v u env g fits (t ∷ []) e
action_bound v u env g fits (action.send t w) e = terms_bound v u env g fits (t ∷ w ∷ []) e
action_bound v u env g fits (action.input t) e = refl
action_bound v u env g fits (action.receive t w) e = terms_bound v u env g fits (t ∷ []) e
action_bound v u env g fits (action.event f) e = terms_bound v u env g fits f.args e
action_bound v u env g fits (action.insert t w) e = terms_bound v u env g fits (t ∷ w ∷ []) e
action_bound v u env g fits (action.delete t) e = terms_bound v u env g fits (t ∷ []) e
action_bound v u env g fits (action.lock t i) e = terms_bound v u env g fits (t ∷ []) e
action_bound v u env g fits (action.unlock t i) e = terms_bound v u env g fits (t ∷ []) e
action_bound v u env g fits (action.embedded l a r) e = rule_bound v u env g fits l a r e

-- what is in scope behind an action
fits_behind : (v u : List Var) (env : Env) → GroundEnv env → Fits env v u → (a : Action) → (env' : Env) × GroundEnv env' × ((x : Var) → behind (put env) a x ≡ put env' x) × Fits env' (v ++ bound_by v a) (u ++ bound_by u (action_instance (put env) a))
fits_behind v u env g fits (action.new x) = (hidden env x, g, hidden_chosen env x, fits_binder v u env x (fresh_var x) refl fits)
fits_behind v u env g fits (action.input t) = (env, g, λ x. refl, subst (λ ws. Fits env (v ++ new_vars (var_names v) (tree_vars t)) (u ++ new_vars (var_names u) ws)) (sym (vars_put env g t)) (fits_new v u env (tree_vars t) fits))
fits_behind v u env g fits (action.receive s t) = (env, g, λ x. refl, subst (λ ws. Fits env (v ++ new_vars (var_names v) (tree_vars t)) (u ++ new_vars (var_names u) ws)) (sym (vars_put env g t)) (fits_new v u env (tree_vars t) fits))
fits_behind v u env g fits (action.embedded l e r) =
    let joined = sym (map_joined (instance_fact (put env)) l (e ++ r) ∙ ap (λ z. instance_facts (put env) l ++ z) (map_joined (instance_fact (put env)) e r)) in
    (env, g, λ x. refl, subst (λ ws. Fits env (v ++ new_vars (var_names v) (facts_vars (l ++ (e ++ r)))) (u ++ new_vars (var_names u) ws)) (sym (ap facts_vars joined ∙ facts_vars_put env g (l ++ (e ++ r)))) (fits_new v u env (facts_vars (l ++ (e ++ r))) fits))
fits_behind v u env g fits (action.out t) = (env, g, λ x. refl, fits_nothing v u env fits)
fits_behind v u env g fits (action.send s t) = (env, g, λ x. refl, fits_nothing v u env fits)
fits_behind v u env g fits (action.event f) = (env, g, λ x. refl, fits_nothing v u env fits)
fits_behind v u env g fits (action.insert s t) = (env, g, λ x. refl, fits_nothing v u env fits)
fits_behind v u env g fits (action.delete t) = (env, g, λ x. refl, fits_nothing v u env fits)
fits_behind v u env g fits (action.lock t i) = (env, g, λ x. refl, fits_nothing v u env fits)
fits_behind v u env g fits (action.unlock t i) = (env, g, λ x. refl, fits_nothing v u env fits)

-- an instance by ground terms is ground in what is left
pub instance_ground : (p : Proc) (v u : List Var) (env : Env) → GroundEnv env → Fits env v u → IsGroundIn v p → IsGroundIn u (process_instance (put env) p)
instance_ground whole.nil v u env g fits h = tt
instance_ground (whole.parallel p q) v u env g fits h = (instance_ground p v u env g fits h.0, instance_ground q v u env g fits h.1)
instance_ground (whole.replicated p) v u env g fits h = instance_ground p v u env g fits h
instance_ground (act a p) v u env g fits h =
    let b = fits_behind v u env g fits a in (
      action_bound v u env g fits a h.0,
      subst (λ q. IsGroundIn (u ++ bound_by u (action_instance (put env) a)) q) (sym (one_instance (behind (put env) a) (put b.0) b.2 p)) (instance_ground p (v ++ bound_by v a) (u ++ bound_by u (action_instance (put env) a)) b.0 b.1 b.3 h.1),
    )
instance_ground (whole.test s t p q) v u env g fits h = (terms_bound v u env g fits (s ∷ t ∷ []) h.0, instance_ground p v u env g fits h.1, instance_ground q v u env g fits h.2)
instance_ground (whole.lookup t x p q) v u env g fits h = (
  terms_bound v u env g fits (t ∷ []) h.0,
  subst (λ q. IsGroundIn (u ++ message_var x ∷ []) q) (sym (one_instance (without (put env) x) (put (hidden env x)) (hidden_chosen env x) p)) (instance_ground p (v ++ message_var x ∷ []) (u ++ message_var x ∷ []) (hidden env x) g (fits_binder v u env x (message_var x) refl fits) h.1),
  instance_ground q v u env g fits h.2,
)
