-- Scopes behind patterns and actions, and what a closed process binds.
use Rattle.std.proofs.Common.{◌≡◌, ℕ, Bool, true, false, List, [], ◌∷◌, ◌++◌, ◌⊎◌, inl, inr, refl, sym, ap, ◌∙◌, subst, ⊎_elim}
use Rattle.std.proofs.lemmas.Bool.{cases_Bool, false≢true}
use Rattle.std.proofs.lemmas.List.{append_assoc}
use Rattle.std.specs.Prelude.{if◌then◌else◌}
use Rattle.std.specs.Str.{bytes_eq}
use Rattle.sap_terms.specs.Variables.{is_known}
use Rattle.sap_terms.specs.declared.var.Var.{Var}
use Rattle.sap_macro.specs.Expansion.{scope_behind, bound_in, bound_by, behind, binding_vars, binders}
use Rattle.sap_macro.specs.Instances.{IsOverScope, IsClosed}
use Rattle.sap_macro.specs.Written.{Written, nil, call, parallel, replicated, act, test, lookup}
use Rattle.sap_macro.specs.NewNames.{new_name, renamed, taken_after, once}
use Rattle.sap_terms.proofs.PlainLaws.Known.{one_name, clash, two_names, in_head, in_tail, in_cases, not_in}
use Rattle.sap_macro.proofs.NewNames.{new_is_free}

abbrev pub Among : List (List ℕ) → List (List ℕ) → Type 0
Among xs ys = (x : List ℕ) → is_known xs x ≡ true → is_known ys x ≡ true

pub at_head : (x y : List ℕ) (ys : List (List ℕ)) → y ≡ x → is_known (y ∷ ys) x ≡ true
at_head x y ys e = subst (λ z. is_known (y ∷ ys) z ≡ true) e (in_head y ys)

pub in_left : (xs ys : List (List ℕ)) (x : List ℕ) → is_known xs x ≡ true → is_known (xs ++ ys) x ≡ true
in_left [] ys x h = absurd (false≢true h)
in_left (z ∷ xs) ys x h = ⊎_elim (λ e. at_head x z (xs ++ ys) e) (λ k. in_tail x z (xs ++ ys) (in_left xs ys x k)) (in_cases x z xs h)

pub in_right : (xs ys : List (List ℕ)) (x : List ℕ) → is_known ys x ≡ true → is_known (xs ++ ys) x ≡ true
in_right [] ys x h = h
in_right (z ∷ xs) ys x h = in_tail x z (xs ++ ys) (in_right xs ys x h)

pub append_cases : (xs ys : List (List ℕ)) (x : List ℕ) → is_known (xs ++ ys) x ≡ true → (is_known xs x ≡ true) ⊎ (is_known ys x ≡ true)
append_cases [] ys x h = inr h
append_cases (z ∷ xs) ys x h =
    ⊎_elim (λ e. inl (at_head x z xs e)) (λ k. ⊎_elim (λ l. inl (in_tail x z xs l)) (λ l. inr l) (append_cases xs ys x k)) (in_cases x z (xs ++ ys) h)

-- ---- one variable

abbrev pub with_one : Bool → List (List ℕ) → List ℕ → List (List ℕ)
with_one b scope x = if b then scope else (x ∷ scope)

abbrev pub new_one : Bool → List ℕ → List (List ℕ)
new_one b x = if b then [] else (x ∷ [])

one_keeps : (b : Bool) (scope : List (List ℕ)) (y x : List ℕ) → is_known scope x ≡ true → is_known (with_one b scope y) x ≡ true
one_keeps true scope y x h = h
one_keeps false scope y x h = in_tail x y scope h

one_own : (b : Bool) (scope : List (List ℕ)) (y : List ℕ) → is_known scope y ≡ b → is_known (with_one b scope y) y ≡ true
one_own true scope y h = h
one_own false scope y h = in_head y scope

one_cases : (b : Bool) (scope : List (List ℕ)) (y x : List ℕ) → is_known (with_one b scope y) x ≡ true → (is_known scope x ≡ true) ⊎ (is_known (new_one b y) x ≡ true)
one_cases true scope y x h = inl h
one_cases false scope y x h = ⊎_elim (λ e. inr (at_head x y [] e)) (λ k. inl k) (in_cases x y scope h)

one_new : (b : Bool) (scope : List (List ℕ)) (y x : List ℕ) → is_known scope y ≡ b → is_known (new_one b y) x ≡ true → is_known scope x ≡ false
one_new true scope y x e h = absurd (false≢true h)
one_new false scope y x e h = ⊎_elim (λ f. sym (ap (is_known scope) f) ∙ e) (λ k. absurd (false≢true k)) (in_cases x y [] h)

-- ---- variables one after another

pub behind_keeps : (scope : List (List ℕ)) (vs : List Var) (x : List ℕ) → is_known scope x ≡ true → is_known (scope_behind scope vs) x ≡ true
behind_keeps scope [] x h = h
behind_keeps scope (v ∷ vs) x h = behind_keeps (with_one (is_known scope v.name) scope v.name) vs x (one_keeps (is_known scope v.name) scope v.name x h)

pub behind_cases : (scope : List (List ℕ)) (vs : List Var) (x : List ℕ) → is_known (scope_behind scope vs) x ≡ true
    → (is_known scope x ≡ true) ⊎ (is_known (bound_in scope vs) x ≡ true)
behind_cases scope [] x h = inl h
behind_cases scope (v ∷ vs) x h =
    let b = is_known scope v.name in
    let later = bound_in (with_one b scope v.name) vs in
    ⊎_elim (λ k. ⊎_elim (λ l. inl l) (λ l. inr (in_left (new_one b v.name) later x l)) (one_cases b scope v.name x k))
    (λ k. inr (in_right (new_one b v.name) later x k)) (behind_cases (with_one b scope v.name) vs x h)

not_before : (scope : List (List ℕ)) (b : Bool) (y x : List ℕ) → is_known (with_one b scope y) x ≡ false → is_known scope x ≡ false
not_before scope b y x h = ⊎_elim (λ e. clash (is_known (with_one b scope y) x) (one_keeps b scope y x e) h) (λ e. e) (cases_Bool (is_known scope x))

pub bound_is_new : (scope : List (List ℕ)) (vs : List Var) (x : List ℕ) → is_known (bound_in scope vs) x ≡ true → is_known scope x ≡ false
bound_is_new scope [] x h = absurd (false≢true h)
bound_is_new scope (v ∷ vs) x h =
    let b = is_known scope v.name in
    let later = bound_in (with_one b scope v.name) vs in
    ⊎_elim (λ k. one_new b scope v.name x refl k) (λ k. not_before scope b v.name x (bound_is_new (with_one b scope v.name) vs x k)) (append_cases (new_one b v.name) later x h)

pub over_more : (scope : List (List ℕ)) (ws vs : List Var) → IsOverScope scope vs → IsOverScope (scope_behind scope ws) vs
over_more scope ws [] h = tt
over_more scope ws (v ∷ vs) h = (behind_keeps scope ws v.name h.0, over_more scope ws vs h.1)

-- each name of a pattern is in scope behind it
pub over_behind : (scope : List (List ℕ)) (vs : List Var) → IsOverScope (scope_behind scope vs) vs
over_behind scope [] = tt
over_behind scope (v ∷ vs) =
    let b = is_known scope v.name in
    (behind_keeps (with_one b scope v.name) vs v.name (one_own b scope v.name refl), over_behind (with_one b scope v.name) vs)

pub behind_append : (scope : List (List ℕ)) (vs ws : List Var) → scope_behind scope (vs ++ ws) ≡ scope_behind (scope_behind scope vs) ws
behind_append scope [] ws = refl
behind_append scope (v ∷ vs) ws = behind_append (with_one (is_known scope v.name) scope v.name) vs ws

pub bound_append : (scope : List (List ℕ)) (vs ws : List Var) → bound_in scope (vs ++ ws) ≡ bound_in scope vs ++ bound_in (scope_behind scope vs) ws
bound_append scope [] ws = refl
bound_append scope (v ∷ vs) ws =
    let b = is_known scope v.name in
    let wide = with_one b scope v.name in
    ap (λ ns. new_one b v.name ++ ns) (bound_append wide vs ws) ∙ sym (append_assoc (new_one b v.name) (bound_in wide vs) (bound_in (scope_behind wide vs) ws))

pub over_left : (scope : List (List ℕ)) (vs ws : List Var) → IsOverScope scope (vs ++ ws) → IsOverScope scope vs
over_left scope [] ws h = tt
over_left scope (v ∷ vs) ws h = (h.0, over_left scope vs ws h.1)

pub over_right : (scope : List (List ℕ)) (vs ws : List Var) → IsOverScope scope (vs ++ ws) → IsOverScope scope ws
over_right scope [] ws h = h
over_right scope (v ∷ vs) ws h = over_right scope vs ws h.1

-- what a closed process binds isn't in scope
pub binder_is_new : (scope : List (List ℕ)) (p : Written) → IsClosed scope p → (x : List ℕ) → is_known (binders scope p) x ≡ true → is_known scope x ≡ false
binder_is_new scope nil h x k = absurd (false≢true k)
binder_is_new scope (call f ts) h x k = absurd (false≢true k)
binder_is_new scope (parallel p q) h x k =
    ⊎_elim (λ l. binder_is_new scope p h.0 x l) (λ l. binder_is_new scope q h.1 x l) (append_cases (binders scope p) (binders scope q) x k)
binder_is_new scope (replicated p) h x k = binder_is_new scope p h x k
binder_is_new scope (act a p) h x k =
    ⊎_elim (λ l. bound_is_new scope (binding_vars a) x l)
    (λ l. ⊎_elim (λ e. clash (is_known (behind scope a) x) (behind_keeps scope (binding_vars a) x e) (binder_is_new (behind scope a) p h.1.1 x l)) (λ e. e) (cases_Bool (is_known scope x)))
    (append_cases (bound_by scope a) (binders (behind scope a) p) x k)
binder_is_new scope (test t u p q) h x k =
    ⊎_elim (λ l. binder_is_new scope p h.1.1.0 x l) (λ l. binder_is_new scope q h.1.1.1 x l) (append_cases (binders scope p) (binders scope q) x k)
binder_is_new scope (lookup t y p q) h x k =
    ⊎_elim (λ e. sym (ap (is_known scope) e) ∙ h.1.0)
    (λ l. ⊎_elim (λ m. (not_in x y.name scope (binder_is_new (y.name ∷ scope) p h.1.1.0 x m)).1) (λ m. binder_is_new scope q h.1.1.1 x m)
    (append_cases (binders (y.name ∷ scope) p) (binders scope q) x l))
    (in_cases x y.name (binders (y.name ∷ scope) p ++ binders scope q) k)

-- ---- names once

pub is_once : (known ns : List (List ℕ)) (x : List ℕ) → is_known ns x ≡ true → (is_known known x ≡ true) ⊎ (is_known (once known ns) x ≡ true)
is_once known [] x h = inr h
is_once known (n ∷ ns) x h =
    ⊎_elim
    (λ e. ⊎_elim (λ f. inl (sym (ap (is_known known) f) ∙ e))
    (λ k. ⊎_elim (λ l. inl l) (λ l. inr (ap (λ b. is_known (if b then once known ns else (n ∷ once (n ∷ known) ns)) x) e ∙ l)) (is_once known ns x k)) (in_cases x n ns h))
    (λ e. ⊎_elim (λ f. inr (ap (λ b. is_known (if b then once known ns else (n ∷ once (n ∷ known) ns)) x) e ∙ at_head x n (once (n ∷ known) ns) f))
    (λ k. ⊎_elim (λ l. ⊎_elim (λ f. inr (ap (λ b. is_known (if b then once known ns else (n ∷ once (n ∷ known) ns)) x) e ∙ at_head x n (once (n ∷ known) ns) f)) (λ m. inl m) (in_cases x n known l))
    (λ l. inr (ap (λ b. is_known (if b then once known ns else (n ∷ once (n ∷ known) ns)) x) e ∙ in_tail x n (once (n ∷ known) ns) l)) (is_once (n ∷ known) ns x k))
    (in_cases x n ns h))
    (cases_Bool (is_known known n))

pub once_is : (known ns : List (List ℕ)) (x : List ℕ) → is_known (once known ns) x ≡ true → is_known ns x ≡ true
once_is known [] x h = h
once_is known (n ∷ ns) x h =
    ⊎_elim (λ e. in_tail x n ns (once_is known ns x (sym (ap (λ b. is_known (if b then once known ns else (n ∷ once (n ∷ known) ns)) x) e) ∙ h)))
    (λ e. ⊎_elim (λ f. at_head x n ns f) (λ k. in_tail x n ns (once_is (n ∷ known) ns x k))
    (in_cases x n (once (n ∷ known) ns) (sym (ap (λ b. is_known (if b then once known ns else (n ∷ once (n ∷ known) ns)) x) e) ∙ h)))
    (cases_Bool (is_known known n))

-- ---- new names

pub grown : (taken xs : List (List ℕ)) (x : List ℕ) → is_known taken x ≡ true → is_known (taken_after taken xs) x ≡ true
grown taken [] x h = h
grown taken (y ∷ ys) x h = grown (new_name taken y ∷ taken) ys x (in_tail x (new_name taken y) taken h)

abbrev new_or : Bool → List ℕ → List ℕ → List ℕ
new_or b a c = if b then a else c

later_name : (x y : List ℕ) (ys : List (List ℕ)) → is_known (y ∷ ys) x ≡ true → bytes_eq y x ≡ false → is_known ys x ≡ true
later_name x y ys h e = ⊎_elim (λ f. absurd (two_names y x e f)) (λ k. k) (in_cases x y ys h)

pub renamed_is_new : (taken xs : List (List ℕ)) (x : List ℕ) → is_known xs x ≡ true → is_known taken (renamed taken xs x) ≡ false
renamed_is_new taken [] x h = absurd (false≢true h)
renamed_is_new taken (y ∷ ys) x h =
    let a = new_name taken y in
    ⊎_elim (λ e. ap (λ b. is_known taken (new_or b a (renamed (a ∷ taken) ys x))) e ∙ new_is_free taken y)
    (λ e. ap (λ b. is_known taken (new_or b a (renamed (a ∷ taken) ys x))) e
    ∙ (not_in (renamed (a ∷ taken) ys x) a taken (renamed_is_new (a ∷ taken) ys x (later_name x y ys h e))).1)
    (cases_Bool (bytes_eq y x))

pub renamed_is_taken : (taken xs : List (List ℕ)) (x : List ℕ) → is_known xs x ≡ true → is_known (taken_after taken xs) (renamed taken xs x) ≡ true
renamed_is_taken taken [] x h = absurd (false≢true h)
renamed_is_taken taken (y ∷ ys) x h =
    let a = new_name taken y in
    ⊎_elim (λ e. ap (λ b. is_known (taken_after (a ∷ taken) ys) (new_or b a (renamed (a ∷ taken) ys x))) e ∙ grown (a ∷ taken) ys a (in_head a taken))
    (λ e. ap (λ b. is_known (taken_after (a ∷ taken) ys) (new_or b a (renamed (a ∷ taken) ys x))) e ∙ renamed_is_taken (a ∷ taken) ys x (later_name x y ys h e))
    (cases_Bool (bytes_eq y x))

-- the first name's new one is no later one's
head_apart : {A : Type 0} (taken ys : List (List ℕ)) (y z : List ℕ) → is_known ys z ≡ true → new_name taken y ≡ renamed (new_name taken y ∷ taken) ys z → A
head_apart taken ys y z k e =
    let a = new_name taken y in
    let none = (not_in (renamed (a ∷ taken) ys z) a taken (renamed_is_new (a ∷ taken) ys z k)).0 in
    absurd (two_names a (renamed (a ∷ taken) ys z) none e)

pub renamed_one : (taken xs : List (List ℕ)) (x z : List ℕ) → is_known xs x ≡ true → is_known xs z ≡ true → renamed taken xs x ≡ renamed taken xs z → x ≡ z
renamed_one taken [] x z h k e = absurd (false≢true h)
renamed_one taken (y ∷ ys) x z h k e =
    let a = new_name taken y in
    let r = renamed (a ∷ taken) ys in
    ⊎_elim
    (λ f. ⊎_elim (λ g. sym (one_name y x f) ∙ one_name y z g)
    (λ g. head_apart taken ys y z (later_name z y ys k g) (sym (ap (λ b. new_or b a (r x)) f) ∙ e ∙ ap (λ b. new_or b a (r z)) g)) (cases_Bool (bytes_eq y z)))
    (λ f. ⊎_elim (λ g. head_apart taken ys y x (later_name x y ys h f) (sym (ap (λ b. new_or b a (r z)) g) ∙ sym e ∙ ap (λ b. new_or b a (r x)) f))
    (λ g. renamed_one (a ∷ taken) ys x z (later_name x y ys h f) (later_name z y ys k g) (sym (ap (λ b. new_or b a (r x)) f) ∙ e ∙ ap (λ b. new_or b a (r z)) g)) (cases_Bool (bytes_eq y z)))
    (cases_Bool (bytes_eq y x))
