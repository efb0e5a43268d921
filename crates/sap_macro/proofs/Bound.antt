-- The names that a body binds, each once, are the names that its heads may bind, but for parameters.
use Rattle.std.proofs.Common.{◌≡◌, ℕ, ◌+◌, Bool, true, false, List, [], ◌∷◌, ◌++◌, ◌||◌, ◌⊎◌, inl, inr, Some, take, refl, sym, ap, ◌∙◌, subst, ⊎_elim}
use Rattle.std.proofs.lemmas.Bool.{cases_Bool, false≢true}
use Rattle.std.proofs.lemmas.List.{append_assoc}
use Rattle.std.proofs.lemmas.List.Folds.{list_any-append}
use Rattle.std.specs.List.{list_any}
use Rattle.std.specs.Prelude.{if◌then◌else◌, slice_get}
use Rattle.std.specs.Str.{bytes_eq}
use Rattle.sap_terms.specs.NameSet.{with_name}
use Rattle.sap_terms.specs.Variables.{is_known}
use Rattle.sap_terms.specs.declared.var.Var.{Var}
use Rattle.sap_terms.proofs.PlainLaws.Lists.{take_got}
use Rattle.sap_macro.specs.Expansion.{behind, binders, binding_vars, bound_in, bound_by, scope_behind}
use Rattle.sap_macro.specs.NewNames.{once}
use Rattle.sap_macro.specs.Written.{Written, nil, call, parallel, replicated, act, test, lookup}
use Rattle.sap_macro.specs.code.Heads.{met_names, other_names}
use Rattle.sap_macro.specs.code.Names.{with_names}
use Rattle.sap_macro.specs.code.Taking.{latest_first}
use Rattle.sap_terms.proofs.PlainLaws.Known.{one_name, own_name, clash, in_head, in_tail, in_cases}
use Rattle.sap_macro.proofs.Scopes.{at_head, behind_keeps, behind_cases, is_once}

-- ---- names in front of others

pub latest_right : (zs ks : List (List ℕ)) (x : List ℕ) → is_known ks x ≡ true → is_known (latest_first zs ks) x ≡ true
latest_right [] ks x h = h
latest_right (z ∷ zs) ks x h = latest_right zs (z ∷ ks) x (in_tail x z ks h)

pub latest_left : (zs ks : List (List ℕ)) (x : List ℕ) → is_known zs x ≡ true → is_known (latest_first zs ks) x ≡ true
latest_left [] ks x h = absurd (false≢true h)
latest_left (z ∷ zs) ks x h = ⊎_elim (λ e. latest_right zs (z ∷ ks) x (at_head x z ks e)) (λ k. latest_left zs (z ∷ ks) x k) (in_cases x z zs h)

-- what is known behind these names
abbrev behind_names : List (List ℕ) → List (List ℕ) → List (List ℕ)
behind_names ks xs = latest_first (once ks xs) ks

known_behind : (ks xs : List (List ℕ)) (x : List ℕ) → is_known xs x ≡ true → is_known (behind_names ks xs) x ≡ true
known_behind ks xs x h = ⊎_elim (λ k. latest_right (once ks xs) ks x k) (λ k. latest_left (once ks xs) ks x k) (is_once ks xs x h)

once_append : (ks xs ys : List (List ℕ)) → once ks (xs ++ ys) ≡ once ks xs ++ once (behind_names ks xs) ys
once_append ks [] ys = refl
once_append ks (x ∷ xs) ys =
    elim (is_known ks x) as (λ b. (if b then once ks (xs ++ ys) else (x ∷ once (x ∷ ks) (xs ++ ys)))
    ≡ (if b then once ks xs else (x ∷ once (x ∷ ks) xs)) ++ once (latest_first (if b then once ks xs else (x ∷ once (x ∷ ks) xs)) ks) ys) [
      | true ↦ once_append ks xs ys
      | false ↦ ap (λ zs. x ∷ zs) (once_append (x ∷ ks) xs ys)
    ]

-- names and later ones that are the same, once
both_once : (ks xs zs ys ws : List (List ℕ)) → once ks xs ≡ once ks zs → once (behind_names ks zs) ys ≡ once (behind_names ks zs) ws → once ks (xs ++ ys) ≡ once ks (zs ++ ws)
both_once ks xs zs ys ws h k =
    once_append ks xs ys ∙ ap (λ a. a ++ once (latest_first a ks) ys) h ∙ ap (λ a. once ks zs ++ a) k ∙ sym (once_append ks zs ws)

-- ---- scopes

-- in scope are parameters and known names, and no other
record IsScope (param : List ℕ → Bool) (scope ks : List (List ℕ)) : Type 0 where
  params : (x : List ℕ) → param x ≡ true → is_known scope x ≡ true
  within : (x : List ℕ) → is_known scope x ≡ true → (param x ≡ true) ⊎ (is_known ks x ≡ true)

more_names : (param : List ℕ → Bool) (scope ks zs : List (List ℕ)) → IsScope param scope ks → IsScope param scope (latest_first zs ks)
more_names param scope ks zs h = record {
  params = h.params;
  within = λ x k. ⊎_elim (λ e. inl e) (λ e. inr (latest_right zs ks x e)) (h.within x k);
}

one_more : (param : List ℕ → Bool) (scope ks : List (List ℕ)) (x : List ℕ) → IsScope param scope ks → is_known ks x ≡ true → IsScope param (x ∷ scope) ks
one_more param scope ks x h there = record {
  params = λ z k. in_tail z x scope (h.params z k);
  within = λ z k. ⊎_elim (λ e. inr (subst (λ w. is_known ks w ≡ true) e there)) (λ e. h.within z e) (in_cases z x scope k);
}

scope_after : (param : List ℕ → Bool) (scope ks : List (List ℕ)) (vs : List Var) → IsScope param scope ks → IsScope param (scope_behind scope vs) (behind_names ks (bound_in scope vs))
scope_after param scope ks vs h = record {
  params = λ x k. behind_keeps scope vs x (h.params x k);
  within = λ x k. ⊎_elim
      (λ e. (more_names param scope ks (once ks (bound_in scope vs)) h).within x e)
      (λ e. inr (known_behind ks (bound_in scope vs) x e))
      (behind_cases scope vs x k);
}

-- ---- the names of variables

abbrev others_if : Bool → (List ℕ → Bool) → Var → List Var → List (List ℕ)
others_if b param v vs = if b then other_names param vs else (v.name ∷ other_names param vs)

abbrev bound_if : Bool → List (List ℕ) → Var → List Var → List (List ℕ)
bound_if b scope v vs = (if b then [] else (v.name ∷ [])) ++ bound_in (if b then scope else (v.name ∷ scope)) vs

abbrev once_if : Bool → List (List ℕ) → List ℕ → List (List ℕ) → List (List ℕ)
once_if b ks n ns = if b then once ks ns else (n ∷ once (n ∷ ks) ns)

vars_once : (vs : List Var) (param : List ℕ → Bool) (scope ks : List (List ℕ)) → IsScope param scope ks → once ks (bound_in scope vs) ≡ once ks (other_names param vs)
vars_once [] param scope ks h = refl
vars_once (v ∷ vs) param scope ks h =
    ⊎_elim (λ e. ap (λ b. once ks (bound_if b scope v vs)) e ∙ vars_once vs param scope ks h ∙ sym (passed (h.within v.name e)))
    (λ e. ap (λ b. once ks (bound_if b scope v vs)) e ∙ by (λ sc kn i. vars_once vs param sc kn i) (is_known ks v.name) refl ∙ sym (ap (λ b. once ks (others_if b param v vs)) (no_param e)))
    (cases_Bool (is_known scope v.name)) where
      skipped : is_known ks v.name ≡ true → once ks (v.name ∷ other_names param vs) ≡ once ks (other_names param vs)
      skipped k = ap (λ b. once_if b ks v.name (other_names param vs)) k

      known_or : (b : Bool) → is_known ks v.name ≡ true → once ks (others_if b param v vs) ≡ once ks (other_names param vs)
      known_or true k = refl
      known_or false k = skipped k

      passed : (param v.name ≡ true) ⊎ (is_known ks v.name ≡ true) → once ks (others_if (param v.name) param v vs) ≡ once ks (other_names param vs)
      passed (inl k) = ap (λ b. once ks (others_if b param v vs)) k
      passed (inr k) = known_or (param v.name) k

      no_param : is_known scope v.name ≡ false → param v.name ≡ false
      no_param e = ⊎_elim (λ k. clash (is_known scope v.name) (h.params v.name k) e) (λ k. k) (cases_Bool (param v.name))

      wider : (known : List (List ℕ)) → ((x : List ℕ) → is_known ks x ≡ true → is_known known x ≡ true) → is_known known v.name ≡ true → IsScope param (v.name ∷ scope) known
      wider known more there = record {
        params = λ x k. in_tail x v.name scope (h.params x k);
        within = λ x k. ⊎_elim (λ e. inr (subst (λ w. is_known known w ≡ true) e there))
            (λ e. ⊎_elim (λ f. inl f) (λ f. inr (more x f)) (h.within x e)) (in_cases x v.name scope k);
      }

      by : ((sc kn : List (List ℕ)) → IsScope param sc kn → once kn (bound_in sc vs) ≡ once kn (other_names param vs)) → (b : Bool) → is_known ks v.name ≡ b
          → once_if b ks v.name (bound_in (v.name ∷ scope) vs) ≡ once_if b ks v.name (other_names param vs)
      by again true e = again (v.name ∷ scope) ks (wider ks (λ x k. k) e)
      by again false e =
          ap (λ ns. v.name ∷ ns) (again (v.name ∷ scope) (v.name ∷ ks) (wider (v.name ∷ ks) (λ x k. in_tail x v.name ks k) (in_head v.name ks)))

-- ---- the names of processes

names_once : (w : Written) (param : List ℕ → Bool) (scope ks : List (List ℕ)) → IsScope param scope ks → once ks (binders scope w) ≡ once ks (met_names param w)
unfolding met_names
names_once nil param scope ks h = refl
names_once (call f ts) param scope ks h = refl
names_once (parallel p q) param scope ks h =
    both_once ks (binders scope p) (met_names param p) (binders scope q) (met_names param q) (names_once p param scope ks h)
    (names_once q param scope (behind_names ks (met_names param p)) (more_names param scope ks (once ks (met_names param p)) h))
names_once (replicated p) param scope ks h = names_once p param scope ks h
names_once (act a p) param scope ks h =
    let first = vars_once (binding_vars a) param scope ks h in
    both_once ks (bound_by scope a) (other_names param (binding_vars a)) (binders (behind scope a) p) (met_names param p) first
    (names_once p param (behind scope a) (behind_names ks (other_names param (binding_vars a)))
    (subst (λ ns. IsScope param (behind scope a) (latest_first ns ks)) first (scope_after param scope ks (binding_vars a) h)))
names_once (test t u p q) param scope ks h =
    both_once ks (binders scope p) (met_names param p) (binders scope q) (met_names param q) (names_once p param scope ks h)
    (names_once q param scope (behind_names ks (met_names param p)) (more_names param scope ks (once ks (met_names param p)) h))
names_once (lookup t x p q) param scope ks h =
    let known = behind_names ks (x.name ∷ []) in
    let wide = more_names param scope ks (once ks (x.name ∷ [])) h in
    both_once ks (x.name ∷ []) (x.name ∷ []) (binders (x.name ∷ scope) p ++ binders scope q) (met_names param p ++ met_names param q) refl
    (both_once known (binders (x.name ∷ scope) p) (met_names param p) (binders scope q) (met_names param q)
    (names_once p param (x.name ∷ scope) known (one_more param scope known x.name wide (known_behind ks (x.name ∷ []) x.name (in_head x.name []))))
    (names_once q param scope (behind_names known (met_names param p)) (more_names param scope known (once known (met_names param p)) wide)))

-- ---- sets of names

pub turned : (x y : List ℕ) → bytes_eq x y ≡ bytes_eq y x
turned x y =
    ⊎_elim (λ e. e ∙ sym (subst (λ z. bytes_eq z x ≡ true) (one_name x y e) (own_name x)))
    (λ e. e ∙ sym (⊎_elim (λ f. clash (bytes_eq x y) (subst (λ z. bytes_eq z y ≡ true) (one_name y x f) (own_name y)) e) (λ f. f) (cases_Bool (bytes_eq y x))))
    (cases_Bool (bytes_eq x y))

or_end : (a b : Bool) → (b || a) ≡ (a || (b || false))
or_end true true = refl
or_end true false = refl
or_end false true = refl
or_end false false = refl

-- one more name in the set
pub any_push : (x n : List ℕ) (own : List (List ℕ)) → list_any (bytes_eq x) (own ++ n ∷ []) ≡ (bytes_eq n x || list_any (bytes_eq x) own)
any_push x n own =
    list_any-append (bytes_eq x) own (n ∷ []) ∙ sym (or_end (list_any (bytes_eq x) own) (bytes_eq x n)) ∙ ap (λ b. b || list_any (bytes_eq x) own) (turned x n)

append_none : (xs : List (List ℕ)) → xs ≡ xs ++ []
append_none [] = refl
append_none (x ∷ xs) = ap (λ zs. x ∷ zs) (append_none xs)

set_once : (ns own ks : List (List ℕ)) → ((x : List ℕ) → is_known ks x ≡ list_any (bytes_eq x) own) → with_names own ns ≡ own ++ once ks ns
set_once [] own ks h = append_none own
set_once (n ∷ ns) own ks h =
    ap (λ b. with_names (if b then own else (own ++ n ∷ [])) ns) (sym (h n))
    ∙ elim (is_known ks n) as (λ b. with_names (if b then own else (own ++ n ∷ [])) ns ≡ own ++ once_if b ks n ns) [
      | true ↦ set_once ns own ks h
      | false ↦
          set_once ns (own ++ n ∷ []) (n ∷ ks) (λ x. ap (λ b. bytes_eq n x || b) (h x) ∙ sym (any_push x n own))
          ∙ append_assoc own (n ∷ []) (once (n ∷ ks) ns)
    ]

-- the set of the names that are met
pub own_set : (w : Written) (param : List ℕ → Bool) (params : List (List ℕ)) → ((x : List ℕ) → param x ≡ is_known params x)
    → with_names [] (met_names param w) ≡ once [] (binders params w)
own_set w param params h =
    set_once (met_names param w) [] [] (λ x. refl)
    ∙ sym (names_once w param params [] (record { params = λ x k. sym (h x) ∙ k; within = λ x k. inl (h x ∙ k) }))

-- names one after another
pub with_names-append : (xs ys own : List (List ℕ)) → with_names own (xs ++ ys) ≡ with_names (with_names own xs) ys
with_names-append [] ys own = refl
with_names-append (x ∷ xs) ys own = with_names-append xs ys (with_name own x)

-- one variable more
other_push : (known : List ℕ → Bool) (vs : List Var) (v : Var) → other_names known (vs ++ v ∷ []) ≡ other_names known vs ++ others_if (known v.name) known v []
other_push known [] v = refl
other_push known (w ∷ vs) v =
    elim (known w.name) as (λ b. others_if b known w (vs ++ v ∷ []) ≡ others_if b known w vs ++ others_if (known v.name) known v []) [
      | true ↦ other_push known vs v
      | false ↦ ap (λ ns. w.name ∷ ns) (other_push known vs v)
    ]

pub names_next : (own later first : List (List ℕ)) (known : List ℕ → Bool) (vs : List Var) (k : ℕ) (v : Var) → slice_get vs k ≡ Some v
    → own ≡ with_names first (other_names known (take k vs)) → later ≡ (if known v.name then own else with_name own v.name)
    → later ≡ with_names first (other_names known (take (k + 1) vs))
names_next own later first known vs k v is h more =
    more ∙ ap (λ ns. if known v.name then ns else with_name ns v.name) h
    ∙ elim (known v.name) as (λ b. (if b then with_names first (other_names known (take k vs)) else with_name (with_names first (other_names known (take k vs))) v.name)
    ≡ with_names (with_names first (other_names known (take k vs))) (others_if b known v [])) [
      | true ↦ refl
      | false ↦ refl
    ]
    ∙ sym (ap (λ zs. with_names first (other_names known zs)) (take_got vs k v is)
    ∙ ap (with_names first) (other_push known (take k vs) v)
    ∙ with_names-append (other_names known (take k vs)) (others_if (known v.name) known v []) first)
