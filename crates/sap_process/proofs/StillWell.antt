-- A sorted process has no flaw that the process doesn't have.
use Rattle.std.proofs.Common.{◌≡◌, ℕ, zero, suc, ◌+◌, inl, inr, List, [], ◌∷◌, ◌++◌, Option, Some, None, Bool, true, false, not, ◌||◌, cond, map, length, take, filter, slice_get, refl, sym, ap, subst, ◌∙◌}
use Rattle.std.specs.List.{flat_map, starts_with}
use Rattle.std.specs.Option.{option_map_or}
use Rattle.std.specs.Prelude.{Contains, codes, nat_eq}
use Rattle.std.specs.Str.{bytes_eq}
use Rattle.std.proofs.lemmas.List.{take-map}
use Rattle.std.proofs.lemmas.List.Elements.{Contains-append_cases, Contains-append_left, Contains-append_right}
use Rattle.sap_terms.specs.Choice.{Choice, instance, instances}
use Rattle.sap_terms.specs.Message.{IsOver}
use Rattle.sap_terms.specs.Modulo.{instance_fact, instance_facts}
use Rattle.sap_terms.specs.Reserved.{is_reserved}
use Rattle.sap_terms.specs.Same.{same_sort}
use Rattle.sap_terms.specs.Signature.{Sig, arity_of, pairs_alone}
use Rattle.sap_terms.specs.Tree.{Tree, variable, public, fresh, apply, Trees, none, more}
use Rattle.sap_terms.specs.Variables.{tree_vars, facts_vars, is_known, new_vars}
use Rattle.sap_terms.specs.declared.fact.Fact.{Fact}
use Rattle.sap_terms.specs.declared.var.Sort.TheVariants.{Msg, Fresh, Pub}
use Rattle.sap_terms.specs.declared.var.Var.{Var}
use Rattle.sap_process.specs.Action as action
use Rattle.sap_process.specs.Action.{Action}
use Rattle.sap_terms.specs.Destructors.{HasDestructor, AnyHasDestructor}
use Rattle.sap_process.specs.Flaws.{IsWellFormed, HasFlaw, BindsConstant, HasClash, HasOtherArity, HasOtherForm, unbound_in, unbound_at, unbound, scope_at, binder_of, HasSortClash}
use Rattle.sap_process.specs.Heads.{facts_terms, terms_vars, action_terms, head_terms, action_binder, binder, bound_as, listed, head_vars, action_patterns, patterns, action_stored, stored_facts, action_shown, shown_facts, locks_set}
use Rattle.sap_process.specs.Instance.{action_instance}
use Rattle.sap_process.specs.Proc as whole
use Rattle.sap_process.specs.Proc.{Proc, act}
use Rattle.sap_process.specs.Ready.{IsReady}
use Rattle.sap_process.specs.Places.{place}
use Rattle.sap_process.specs.Sites.{Site, above_of, sites, sites_from, var_names, fresh_var, message_var, bound_by}
use Rattle.sap_process.specs.Sorted.{by_binder, binding_fresh, with_sorts}
use Rattle.sap_process.specs.declared.flaw.Flaw.{Flaw}
use Rattle.sap_process.specs.declared.flaw.Flaw.TheVariants.{BadFunction, ReservedVar, ReservedFact, FactClash, PatternDestructor, Unbound, Rebound, SortClash, ScopeFull}
use Rattle.sap_process.proofs.Members.{member-head, member-tail, member-none, member-cases}
use Rattle.sap_process.proofs.Names.{Member, same_name_true, known-append, names-append}
use Rattle.sap_process.proofs.NewVars.{same_known}
use Rattle.sap_process.proofs.VarLists.{facts-append}
use Rattle.sap_process.proofs.SortedVars.{map_joined, sorted, by_sorted, sorted_name, vars_sorted, vars_facts_sorted, over_sorted, new_mapped, sorted_new}
use Rattle.sap_process.proofs.SortedTwice.{sorted_action, bound_stays, sorted_once}

-- the place with the sorts of its binders
abbrev pub sorted_site : Site → Site
sorted_site s = place s.path s.above (with_sorts s.above.scope s.body)

locks_stay : (w : List Var) (a : Action) → locks_set (binding_fresh (action_instance (by_binder w) a)) ≡ locks_set a
locks_stay w (action.new x) = refl
locks_stay w (action.out t) = refl
locks_stay w (action.send t u) = refl
locks_stay w (action.input t) = refl
locks_stay w (action.receive t u) = refl
locks_stay w (action.event f) = refl
locks_stay w (action.insert t u) = refl
locks_stay w (action.delete t) = refl
locks_stay w (action.lock t i) = refl
locks_stay w (action.unlock t i) = refl
locks_stay w (action.embedded l e r) = refl

both_sites : (s : Site) (xs ys zs us : List Site) → xs ≡ map sorted_site zs → ys ≡ map sorted_site us → sorted_site s ∷ (xs ++ ys) ≡ map sorted_site (s ∷ (zs ++ us))
both_sites s xs ys zs us e f = (λ i. sorted_site s ∷ (e i ++ f i)) ∙ ap (λ vs. sorted_site s ∷ vs) (sym (map_joined sorted_site zs us))

pub sorted_sites : (p : Proc) (path : List ℕ) (v : List Var) (k : ℕ) → sites_from path v k (with_sorts v p) ≡ map sorted_site (sites_from path v k p)
sorted_sites whole.nil path v k = refl
sorted_sites (whole.parallel p q) path v k = both_sites (place path (above_of v k) (whole.parallel p q)) _ _ (sites_from (path ++ 1 ∷ []) v k p) (sites_from (path ++ 2 ∷ []) v k q) (sorted_sites p (path ++ 1 ∷ []) v k) (sorted_sites q (path ++ 2 ∷ []) v k)
sorted_sites (whole.replicated p) path v k = ap (λ zs. sorted_site (place path (above_of v k) (whole.replicated p)) ∷ zs) (sorted_sites p (path ++ 1 ∷ []) v k)
sorted_sites (act a p) path v k =
    ap (λ zs. sorted_site (place path (above_of v k) (act a p)) ∷ zs)
    ((λ i. sites_from (path ++ 1 ∷ []) (v ++ bound_stays v a i) (k + locks_stay (v ++ bound_by v a) a i) (with_sorts (v ++ bound_by v a) p)) ∙ sorted_sites p (path ++ 1 ∷ []) (v ++ bound_by v a) (k + locks_set a))
sorted_sites (whole.test t u p q) path v k = both_sites (place path (above_of v k) (whole.test t u p q)) _ _ (sites_from (path ++ 1 ∷ []) v k p) (sites_from (path ++ 2 ∷ []) v k q) (sorted_sites p (path ++ 1 ∷ []) v k) (sorted_sites q (path ++ 2 ∷ []) v k)
sorted_sites (whole.lookup t x p q) path v k = both_sites (place path (above_of v k) (whole.lookup t x p q)) _ _ (sites_from (path ++ 1 ∷ []) (v ++ message_var x ∷ []) k p) (sites_from (path ++ 2 ∷ []) v k q) (sorted_sites p (path ++ 1 ∷ []) (v ++ message_var x ∷ []) k) (sorted_sites q (path ++ 2 ∷ []) v k)

-- heads

pub terms_instance : (σ : Choice) (fs : List Fact) → facts_terms (instance_facts σ fs) ≡ map (instance σ) (facts_terms fs)
terms_instance σ [] = refl
terms_instance σ (f ∷ fs) = ap (λ zs. map (instance σ) f.args ++ zs) (terms_instance σ fs) ∙ sym (map_joined (instance σ) f.args (facts_terms fs))

pub sides_instance : (σ : Choice) (l e r : List Fact) → instance_facts σ l ++ (instance_facts σ e ++ instance_facts σ r) ≡ instance_facts σ (l ++ (e ++ r))
sides_instance σ l e r = sym (map_joined (instance_fact σ) l (e ++ r) ∙ ap (λ z. instance_facts σ l ++ z) (map_joined (instance_fact σ) e r))

-- what is in scope at a head with what is bound there
abbrev at_head : List Var → Proc → Choice
at_head v p = by_binder (scope_at v p)

action_terms_are : (w : List Var) (a : Action) → action_terms (binding_fresh (action_instance (by_binder w) a)) ≡ map (instance (by_binder w)) (action_terms a)
action_terms_are w (action.new x) = refl
action_terms_are w (action.out t) = refl
action_terms_are w (action.send t u) = refl
action_terms_are w (action.input t) = refl
action_terms_are w (action.receive t u) = refl
action_terms_are w (action.event f) = refl
action_terms_are w (action.insert t u) = refl
action_terms_are w (action.delete t) = refl
action_terms_are w (action.lock t i) = refl
action_terms_are w (action.unlock t i) = refl
action_terms_are w (action.embedded l e r) = ap facts_terms (sides_instance (by_binder w) l e r) ∙ terms_instance (by_binder w) (l ++ (e ++ r))

terms_are : (v : List Var) (p : Proc) → head_terms (with_sorts v p) ≡ map (instance (at_head v p)) (head_terms p)
terms_are v whole.nil = refl
terms_are v (whole.parallel p q) = refl
terms_are v (whole.replicated p) = refl
terms_are v (act a p) = action_terms_are (v ++ bound_by v a) a
terms_are v (whole.test t u p q) = refl
terms_are v (whole.lookup t x p q) = refl

action_patterns_are : (w : List Var) (a : Action) → action_patterns (binding_fresh (action_instance (by_binder w) a)) ≡ map (instance (by_binder w)) (action_patterns a)
action_patterns_are w (action.new x) = refl
action_patterns_are w (action.out t) = refl
action_patterns_are w (action.send t u) = refl
action_patterns_are w (action.input t) = refl
action_patterns_are w (action.receive t u) = refl
action_patterns_are w (action.event f) = refl
action_patterns_are w (action.insert t u) = refl
action_patterns_are w (action.delete t) = refl
action_patterns_are w (action.lock t i) = refl
action_patterns_are w (action.unlock t i) = refl
action_patterns_are w (action.embedded l e r) = terms_instance (by_binder w) l

patterns_are : (v : List Var) (p : Proc) → patterns (with_sorts v p) ≡ map (instance (at_head v p)) (patterns p)
patterns_are v whole.nil = refl
patterns_are v (whole.parallel p q) = refl
patterns_are v (whole.replicated p) = refl
patterns_are v (act a p) = action_patterns_are (v ++ bound_by v a) a
patterns_are v (whole.test t u p q) = refl
patterns_are v (whole.lookup t x p q) = refl

action_stored_are : (w : List Var) (a : Action) → action_stored (binding_fresh (action_instance (by_binder w) a)) ≡ instance_facts (by_binder w) (action_stored a)
action_stored_are w (action.new x) = refl
action_stored_are w (action.out t) = refl
action_stored_are w (action.send t u) = refl
action_stored_are w (action.input t) = refl
action_stored_are w (action.receive t u) = refl
action_stored_are w (action.event f) = refl
action_stored_are w (action.insert t u) = refl
action_stored_are w (action.delete t) = refl
action_stored_are w (action.lock t i) = refl
action_stored_are w (action.unlock t i) = refl
action_stored_are w (action.embedded l e r) = sym (map_joined (instance_fact (by_binder w)) l r)

stored_are : (v : List Var) (p : Proc) → stored_facts (with_sorts v p) ≡ instance_facts (at_head v p) (stored_facts p)
stored_are v whole.nil = refl
stored_are v (whole.parallel p q) = refl
stored_are v (whole.replicated p) = refl
stored_are v (act a p) = action_stored_are (v ++ bound_by v a) a
stored_are v (whole.test t u p q) = refl
stored_are v (whole.lookup t x p q) = refl

action_shown_are : (w : List Var) (a : Action) → action_shown (binding_fresh (action_instance (by_binder w) a)) ≡ instance_facts (by_binder w) (action_shown a)
action_shown_are w (action.new x) = refl
action_shown_are w (action.out t) = refl
action_shown_are w (action.send t u) = refl
action_shown_are w (action.input t) = refl
action_shown_are w (action.receive t u) = refl
action_shown_are w (action.event f) = refl
action_shown_are w (action.insert t u) = refl
action_shown_are w (action.delete t) = refl
action_shown_are w (action.lock t i) = refl
action_shown_are w (action.unlock t i) = refl
action_shown_are w (action.embedded l e r) = refl

shown_are : (v : List Var) (p : Proc) → shown_facts (with_sorts v p) ≡ instance_facts (at_head v p) (shown_facts p)
shown_are v whole.nil = refl
shown_are v (whole.parallel p q) = refl
shown_are v (whole.replicated p) = refl
shown_are v (act a p) = action_shown_are (v ++ bound_by v a) a
shown_are v (whole.test t u p q) = refl
shown_are v (whole.lookup t x p q) = refl

scope_stays : (v : List Var) (p : Proc) → scope_at v (with_sorts v p) ≡ scope_at v p
scope_stays v whole.nil = refl
scope_stays v (whole.parallel p q) = refl
scope_stays v (whole.replicated p) = refl
scope_stays v (act a p) = ap (λ ns. v ++ ns) (bound_stays v a)
scope_stays v (whole.test t u p q) = refl
scope_stays v (whole.lookup t x p q) = refl

-- an item behind an item of a mapped list
of_map : {X Y : Type 0} (f : X → Y) (xs : List X) (y : Y) → Contains (map f xs) y → (x : X) × Contains xs x × (f x ≡ y)
of_map f [] y m = absurd (member-none y m)
of_map f (x ∷ xs) y m = elim (member-cases (f x) (map f xs) y m) [
  | inl e ↦ (x, member-head x xs, e)
  | inr k ↦ (let r = of_map f xs y k in (r.0, member-tail x xs r.0 r.1, r.2))
]

-- the variables of sorted terms
vars_are : (w : List Var) (ts : List Tree) → terms_vars (map (instance (by_binder w)) ts) ≡ map (sorted w) (terms_vars ts)
vars_are w [] = refl
vars_are w (t ∷ ts) = (λ i. vars_sorted w t i ++ vars_are w ts i) ∙ sym (map_joined (sorted w) (tree_vars t) (terms_vars ts))

-- destructors stay where they were
mutual
  no_new_destructor : (g : Sig) (w : List Var) (t : Tree) → HasDestructor g (instance (by_binder w) t) → HasDestructor g t
  no_new_destructor g w (variable x) h = subst (HasDestructor g) (by_sorted w x) h
  no_new_destructor g w (public n) h = h
  no_new_destructor g w (fresh k) h = h
  no_new_destructor g w (apply f ts) h = elim h [ inl e ↦ inl e | inr m ↦ inr (no_new_destructors g w ts m) ]

  no_new_destructors : (g : Sig) (w : List Var) (ts : Trees) → AnyHasDestructor g (instances (by_binder w) ts) → AnyHasDestructor g ts
  no_new_destructors g w none h = h
  no_new_destructors g w (more t ts) h = elim h [ inl e ↦ inl (no_new_destructor g w t e) | inr m ↦ inr (no_new_destructors g w ts m) ]

-- binders

fresh_is_not : Fresh ≡ Msg → ⊥
fresh_is_not e = cc

var_of : (x y : Var) → ◌≡◌ {A = Option Var} (Some x) (Some y) → x ≡ y
var_of x y e = cc

action_binds : (g : Sig) (w : List Var) (a : Action) (y : Var) → action_binder (binding_fresh (action_instance (by_binder w) a)) ≡ Some y → (x : Var) × (action_binder a ≡ Some x) × (y ≡ fresh_var x)
action_binds g w (action.new x) y e = (x, refl, sym (var_of (fresh_var x) y e))
action_binds g w (action.out t) y e = absurd (cc)
action_binds g w (action.send t u) y e = absurd (cc)
action_binds g w (action.input t) y e = absurd (cc)
action_binds g w (action.receive t u) y e = absurd (cc)
action_binds g w (action.event f) y e = absurd (cc)
action_binds g w (action.insert t u) y e = absurd (cc)
action_binds g w (action.delete t) y e = absurd (cc)
action_binds g w (action.lock t i) y e = absurd (cc)
action_binds g w (action.unlock t i) y e = absurd (cc)
action_binds g w (action.embedded l e' r) y e = absurd (cc)

constant_was : (g : Sig) (s : Site) → BindsConstant g (sorted_site s) → BindsConstant g s
constant_was g s h = go s.body refl h.stands
  where
    go : (p : Proc) → s.body ≡ p → bound_as (with_sorts s.above.scope p) ≡ Some h.var → BindsConstant g s
    go (act a p) e f = absurd (let r = action_binds g (s.above.scope ++ bound_by s.above.scope a) a h.var f in fresh_is_not (sym (ap (λ (z : Var). z.sort) r.2) ∙ h.plain))
    go (whole.lookup t x p q) e f =
        record { var = message_var x; stands = ap bound_as e; plain = refl; constant = ap (λ (z : Var). arity_of g z.name) (var_of (message_var x) h.var f) ∙ h.constant }
    go whole.nil e f = absurd (cc)
    go (whole.parallel p q) e f = absurd (cc)
    go (whole.replicated p) e f = absurd (cc)
    go (whole.test t u p q) e f = absurd (cc)

-- a binder has the name that it had
binder_name : (v : List Var) (p : Proc) (y : Var) → binder (with_sorts v p) ≡ Some y → (x : Var) × (binder p ≡ Some x) × (x.name ≡ y.name)
binder_name v (act a p) y f = let r = action_binds pairs_alone (v ++ bound_by v a) a y f in (r.0, r.1, sym (ap (λ (z : Var). z.name) r.2))
binder_name v (whole.lookup t x p q) y f = (x, refl, ap (λ (z : Var). z.name) (var_of (message_var x) y f))
binder_name v whole.nil y f = absurd (cc)
binder_name v (whole.parallel p q) y f = absurd (cc)
binder_name v (whole.replicated p) y f = absurd (cc)
binder_name v (whole.test t u p q) y f = absurd (cc)

-- a variable at a sorted head is one at the head, but for its sort
listed_some : (o : Option Var) (x : Var) → Contains (listed o) x → o ≡ Some x
listed_some None x m = absurd (member-none x m)
listed_some (Some y) x m = elim (member-cases y [] x m) [ inl e ↦ ap Some e | inr k ↦ absurd (member-none x k) ]

some_listed : (o : Option Var) (x : Var) → o ≡ Some x → Contains (listed o) x
some_listed None x e = absurd (cc)
some_listed (Some y) x e = let same : y ≡ x = cc in subst (Contains (y ∷ [])) same (member-head y [])

head_var : (v : List Var) (p : Proc) (y : Var) → Contains (head_vars (with_sorts v p)) y → (x : Var) × Contains (head_vars p) x × (x.name ≡ y.name)
head_var v p y m = elim (Contains-append_cases (listed (binder (with_sorts v p))) (terms_vars (head_terms (with_sorts v p))) y m) [
  | inl a ↦ (let r = binder_name v p y (listed_some (binder (with_sorts v p)) y a) in (r.0, Contains-append_left (listed (binder p)) (terms_vars (head_terms p)) r.0 (some_listed (binder p) r.0 r.1), r.2))
  | inr b ↦ (
      let r = of_map (sorted (scope_at v p)) (terms_vars (head_terms p)) y (subst (λ vs. Contains vs y) (ap terms_vars (terms_are v p) ∙ vars_are (scope_at v p) (head_terms p)) b) in
      (r.0, Contains-append_right (listed (binder p)) (terms_vars (head_terms p)) r.0 r.1, sym (sorted_name (scope_at v p) r.0) ∙ ap (λ (z : Var). z.name) r.2)
      )
]

-- clashes

-- they are alike but for variables
record Alike (f h : Fact) : Type 0 where
  name : f.name ≡ h.name
  form : f.persistent ≡ h.persistent
  number : length f.args ≡ length h.args

length_map : {X Y : Type 0} (f : X → Y) (xs : List X) → length (map f xs) ≡ length xs
length_map f [] = refl
length_map f (x ∷ xs) = ap suc (length_map f xs)

instance_alike : (σ : Choice) (f : Fact) → Alike f (instance_fact σ f)
instance_alike σ f = record { name = refl; form = refl; number = sym (length_map (instance σ) f.args) }

-- a fact of the second list is like one of the first
abbrev From : List Fact → List Fact → Type 0
From fs hs = (h : Fact) → Contains hs h → (f : Fact) × Contains fs f × Alike f h

from_instance : (σ : Choice) (fs : List Fact) → From fs (instance_facts σ fs)
from_instance σ fs h m = let r = of_map (instance_fact σ) fs h m in (r.0, r.1, subst (Alike r.0) r.2 (instance_alike σ r.0))

from_append : (fs gs hs ks : List Fact) → From fs hs → From gs ks → From (fs ++ gs) (hs ++ ks)
from_append fs gs hs ks a b h m = elim (Contains-append_cases hs ks h m) [
  | inl l ↦ (let r = a h l in (r.0, Contains-append_left fs gs r.0 r.1, r.2))
  | inr k ↦ (let r = b h k in (r.0, Contains-append_right fs gs r.0 r.1, r.2))
]

-- the facts of sorted places are like those of the places
from_places : (facts : Proc → List Fact) → ((v : List Var) (p : Proc) → facts (with_sorts v p) ≡ instance_facts (at_head v p) (facts p)) → (before : List Site) → From (flat_map (λ (b : Site). facts b.body) before) (flat_map (λ (b : Site). facts b.body) (map sorted_site before))
from_places facts are [] = λ h m. absurd (member-none h m)
from_places facts are (s ∷ before) =
    from_append (facts s.body) (flat_map (λ (b : Site). facts b.body) before) (facts (with_sorts s.above.scope s.body)) (flat_map (λ (b : Site). facts b.body) (map sorted_site before))
    (subst (From (facts s.body)) (sym (are s.above.scope s.body)) (from_instance (at_head s.above.scope s.body) (facts s.body))) (from_places facts are before)

got_map : {X Y : Type 0} (f : X → Y) (xs : List X) (k : ℕ) (y : Y) → slice_get (map f xs) k ≡ Some y → (x : X) × (slice_get xs k ≡ Some x) × (f x ≡ y)
got_map f [] k y e = absurd (cc)
got_map f (x ∷ xs) zero y e = let same : f x ≡ y = cc in (x, refl, same)
got_map f (x ∷ xs) (suc k) y e = got_map f xs k y e

-- how facts differ, they still do where they are like others
abbrev Keeps : (Fact → Fact → Type 0) → Type 0
Keeps differ = (a b c d : Fact) → Alike a c → Alike b d → differ c d → differ a b

keeps_arity : Keeps HasOtherArity
keeps_arity a b c d l k h e = h (sym l.number ∙ e ∙ k.number)

keeps_form : Keeps HasOtherForm
keeps_form a b c d l k (inl h) = inl (keeps_arity a b c d l k h)
keeps_form a b c d l k (inr h) = inr (λ e. h (sym l.form ∙ e ∙ k.form))

clash_was : (differ : Fact → Fact → Type 0) → Keeps differ → (σ : Choice) (old met facts : List Fact) → From old met → HasClash differ met (instance_facts σ facts) → HasClash differ old facts
clash_was differ keeps σ old met facts from h =
    let r = got_map (instance_fact σ) facts h.at h.fact h.stands in
    let this : Alike r.0 h.fact = subst (Alike r.0) r.2 (instance_alike σ r.0) in
    let before : Contains (met ++ instance_facts σ (take h.at facts)) h.earlier = subst (λ hs. Contains (met ++ hs) h.earlier) (take-map (instance_fact σ) h.at facts) h.before in
    let e = from_append old (take h.at facts) met (instance_facts σ (take h.at facts)) from (from_instance σ (take h.at facts)) h.earlier before in
    record {
      at = h.at;
      fact = r.0;
      stands = r.1;
      earlier = e.0;
      before = e.1;
      name = e.2.name ∙ h.name ∙ sym this.name;
      other = keeps e.0 r.0 h.earlier h.fact e.2 this h.other;
    }

-- unbound names

abbrev unknown : List Var → Var → Bool
unknown v x = not (is_known (var_names v) x.name)

filter_none : (f : Var → Bool) (h : Var → Var) (xs : List Var) → ((x : Var) → Contains xs x → f (h x) ≡ f x) → filter f xs ≡ [] → filter f (map h xs) ≡ []
filter_none f h [] same e = refl
filter_none f h (x ∷ xs) same e = go (f x) refl e (filter_none f h xs (λ y m. same y (member-tail x xs y m)))
  where
    go : (b : Bool) → f x ≡ b → cond b (x ∷ filter f xs) (filter f xs) ≡ [] → (filter f xs ≡ [] → filter f (map h xs) ≡ []) → cond (f (h x)) (h x ∷ filter f (map h xs)) (filter f (map h xs)) ≡ []
    go true d k later = absurd (cc)
    go false d k later = rw (same x (member-head x xs) ∙ d) (later k)

pub unbound_in_stays : (v w : List Var) (ts : List Tree) → unbound_in v ts ≡ [] → unbound_in v (map (instance (by_binder w)) ts) ≡ []
unbound_in_stays v w ts e = ap (filter (unknown v)) (vars_are w ts) ∙ filter_none (unknown v) (sorted w) (terms_vars ts) (λ x m. ap (λ n. not (is_known (var_names v) n)) (sorted_name w x)) e

-- new variables of a list are new in a longer one

contained : {X : Type 0} (xs : List X) (x : X) → Contains xs x → Member x xs
contained [] x m = absurd (member-none x m)
contained (y ∷ xs) x m = elim (member-cases y xs x m) [ inl e ↦ subst (λ z. Member z (y ∷ xs)) e Member.here | inr k ↦ Member.later (contained xs x k) ]

or_three : (a b c : Bool) → ((a || (b || false)) || c) ≡ (a || (b || c))
or_three true b c = refl
or_three false true c = refl
or_three false false c = refl

known_before : (a b c : Bool) → (b ≡ true → a ≡ true) → (a || (b || c)) ≡ (a || c)
known_before true b c h = refl
known_before false true c h = absurd (let e = h refl in cc)
known_before false false c h = refl

or_nothing : (a : Bool) → (a || false) ≡ a
or_nothing true = refl
or_nothing false = refl

first_later : (y : Var) (b : Bool) (one two : List Var) (x : Var) → Member x (cond b one two) → Member x (cond b one (y ∷ two))
first_later y true one two x m = m
first_later y false one two x m = Member.later m

later_new : (xs ys : List Var) (k j : List (List ℕ)) (x : Var) → ((n : List ℕ) → is_known j n ≡ (is_known k n || is_known (var_names xs) n)) → Member x (new_vars j ys) → Member x (new_vars k (xs ++ ys))
later_new [] ys k j x h m = subst (Member x) (same_known j k ys (λ n. h n ∙ or_nothing (is_known k n))) m
later_new (y ∷ xs) ys k j x h m = go (is_known k y.name) refl (λ g. later_new xs ys k j x g m) (λ g. later_new xs ys (k ++ y.name ∷ []) j x g m)
  where
    go : (b : Bool) → is_known k y.name ≡ b → (((n : List ℕ) → is_known j n ≡ (is_known k n || is_known (var_names xs) n)) → Member x (new_vars k (xs ++ ys)))
        → (((n : List ℕ) → is_known j n ≡ (is_known (k ++ y.name ∷ []) n || is_known (var_names xs) n)) → Member x (new_vars (k ++ y.name ∷ []) (xs ++ ys)))
        → Member x (cond b (new_vars k (xs ++ ys)) (y ∷ new_vars (k ++ y.name ∷ []) (xs ++ ys)))
    go true e one two = one (λ n. h n ∙ known_before (is_known k n) (bytes_eq y.name n) (is_known (var_names xs) n) (λ same. subst (λ z. is_known k z ≡ true) (same_name_true y.name n same) e))
    go false e one two = Member.later (two (λ n. h n ∙ sym (ap (λ b. b || is_known (var_names xs) n) (names-append k (y.name ∷ []) n) ∙ or_three (is_known k n) (bytes_eq y.name n) (is_known (var_names xs) n))))

fixed : (f : Var → Var) (xs : List Var) (x : Var) → map f xs ≡ xs → Member x xs → f x ≡ x
fixed f [] x e m = elim m [ ]
fixed f (y ∷ xs) x e m = first f y xs x e m (λ d k. fixed f xs x d k)
  where
    heads : (f : Var → Var) (y : Var) (xs : List Var) → f y ∷ map f xs ≡ y ∷ xs → (f y ≡ y) × (map f xs ≡ xs)
    heads f y xs e = (cc, cc)

    first : (f : Var → Var) (y : Var) (xs : List Var) (x : Var) → map f (y ∷ xs) ≡ y ∷ xs → Member x (y ∷ xs) → (map f xs ≡ xs → Member x xs → f x ≡ x) → f x ≡ x
    first f y xs x e Member.here rest = (heads f x xs e).0
    first f y xs x e (Member.later k) rest = rest (heads f y xs e).1 k

names_stay : (w v vs : List Var) → var_names (v ++ map (sorted w) vs) ≡ var_names (v ++ vs)
names_stay w [] [] = refl
names_stay w [] (x ∷ vs) = λ i. sorted_name w x i ∷ names_stay w [] vs i
names_stay w (y ∷ v) vs = ap (λ zs. y.name ∷ zs) (names_stay w v vs)

abbrev not_public : Var → Bool
not_public x = not (same_sort x.sort Pub)

rule_stays : (v : List Var) (l e r : List Fact) → unbound_at v (action.embedded l e r) ≡ []
    → (let w = v ++ new_vars (var_names v) (facts_vars (l ++ (e ++ r))) in unbound_at v (action.embedded (instance_facts (by_binder w) l) (instance_facts (by_binder w) e) (instance_facts (by_binder w) r)) ≡ [])
rule_stays v l e r absent =
    let all : List Var = facts_vars (l ++ (e ++ r)) in
    let w = v ++ new_vars (var_names v) all in
    let known = var_names (v ++ facts_vars l) in
    let right : facts_vars (instance_facts (by_binder w) e ++ instance_facts (by_binder w) r) ≡ map (sorted w) (facts_vars (e ++ r)) = ap facts_vars (sym (map_joined (instance_fact (by_binder w)) e r)) ∙ vars_facts_sorted w (e ++ r) in
    let left : var_names (v ++ facts_vars (instance_facts (by_binder w) l)) ≡ known = ap (λ z. var_names (v ++ z)) (vars_facts_sorted w l) ∙ names_stay w v (facts_vars l) in
    let new : new_vars known (map (sorted w) (facts_vars (e ++ r))) ≡ map (sorted w) (new_vars known (facts_vars (e ++ r))) = new_mapped (sorted w) (sorted_name w) known known (facts_vars (e ++ r)) (λ n k. refl) in
    let whole_list : all ≡ facts_vars l ++ facts_vars (e ++ r) = facts-append l (e ++ r) in
    let there : (x : Var) → Member x (new_vars known (facts_vars (e ++ r))) → Member x (new_vars (var_names v) all) =
    λ x m. subst (λ z. Member x (new_vars (var_names v) z)) (sym whole_list) (later_new (facts_vars l) (facts_vars (e ++ r)) (var_names v) known x (λ n. known-append v (facts_vars l) (record { name = n; sort = Msg })) m) in
    ap (λ k. filter not_public (new_vars k (facts_vars (instance_facts (by_binder w) e ++ instance_facts (by_binder w) r)))) left
    ∙ ap (λ z. filter not_public (new_vars known z)) right ∙ ap (filter not_public) new
    ∙ filter_none not_public (sorted w) (new_vars known (facts_vars (e ++ r))) (λ x m. ap not_public (fixed (sorted w) (new_vars (var_names v) all) x (sorted_new v all) (there x (contained (new_vars known (facts_vars (e ++ r))) x m)))) absent

pub action_stays : (v : List Var) (a : Action) → unbound_at v a ≡ [] → unbound_at v (sorted_action v a) ≡ []
action_stays v (action.new x) e = refl
action_stays v (action.out t) e = unbound_in_stays v (v ++ []) (t ∷ []) e
action_stays v (action.send t u) e = unbound_in_stays v (v ++ []) (t ∷ u ∷ []) e
action_stays v (action.input t) e = refl
action_stays v (action.receive t u) e = unbound_in_stays v (v ++ new_vars (var_names v) (tree_vars u)) (t ∷ []) e
action_stays v (action.event f) e = unbound_in_stays v (v ++ []) f.args e
action_stays v (action.insert t u) e = unbound_in_stays v (v ++ []) (t ∷ u ∷ []) e
action_stays v (action.delete t) e = unbound_in_stays v (v ++ []) (t ∷ []) e
action_stays v (action.lock t i) e = unbound_in_stays v (v ++ []) (t ∷ []) e
action_stays v (action.unlock t i) e = unbound_in_stays v (v ++ []) (t ∷ []) e
action_stays v (action.embedded l a r) e = rule_stays v l a r e

unbound_stays : (v : List Var) (p : Proc) → unbound v p ≡ [] → unbound v (with_sorts v p) ≡ []
unbound_stays v whole.nil e = refl
unbound_stays v (whole.parallel p q) e = refl
unbound_stays v (whole.replicated p) e = refl
unbound_stays v (act a p) e = action_stays v a e
unbound_stays v (whole.test t u p q) e = unbound_in_stays v v (t ∷ u ∷ []) e
unbound_stays v (whole.lookup t x p q) e = unbound_in_stays v v (t ∷ []) e

-- no sign clashes with its binder

sort_is : (w : List Var) (y b : Var) → binder_of w y.name ≡ Some b → (sorted w y).sort ≡ b.sort
sort_is w y b e = ap (λ o. (option_map_or (λ (c : Var). record { name = y.name; sort = c.sort }) o y).sort) e

no_sort_clash : (s : Site) → HasSortClash (sorted_site s) → ⊥
no_sort_clash s h =
    let w = scope_at s.above.scope s.body in
    let r = of_map (sorted w) (terms_vars (head_terms s.body)) h.var (subst (λ vs. Contains vs h.var) (ap terms_vars (terms_are s.above.scope s.body) ∙ vars_are w (head_terms s.body)) h.stands) in
    let name : h.var.name ≡ r.0.name = ap (λ (z : Var). z.name) (sym r.2) ∙ sorted_name w r.0 in
    let bound : binder_of w r.0.name ≡ Some h.bound = ap (binder_of w) (sym name) ∙ ap (λ u. binder_of u h.var.name) (sym (scope_stays s.above.scope s.body)) ∙ h.binder in
    h.other (sym (ap (λ (z : Var). z.sort) (sym r.2) ∙ sort_is w r.0 h.bound bound))

-- each flaw was there

flaw_was : (g : Sig) (before : List Site) (s : Site) (w : Flaw) → HasFlaw g (map sorted_site before) (sorted_site s) w → HasFlaw g before s w
flaw_was g before s BadFunction (inl h) =
    let r = of_map (instance (at_head s.above.scope s.body)) (head_terms s.body) h.term (subst (λ ts. Contains ts h.term) (terms_are s.above.scope s.body) h.stands) in
    inl (record { term = r.0; stands = r.1; bad = λ over. h.bad (subst (IsOver g) r.2 (over_sorted g (scope_at s.above.scope s.body) r.0 over)) })
flaw_was g before s BadFunction (inr h) = inr (constant_was g s h)
flaw_was g before s ReservedVar h =
    let r = head_var s.above.scope s.body h.var h.stands in
    record { var = r.0; stands = r.1; reserved = ap (λ n. starts_with nat_eq n (codes "sapic_")) r.2 ∙ h.reserved }
flaw_was g before s ReservedFact h =
    let from = from_append (stored_facts s.body) (shown_facts s.body) (stored_facts (with_sorts s.above.scope s.body)) (shown_facts (with_sorts s.above.scope s.body))
    (subst (From (stored_facts s.body)) (sym (stored_are s.above.scope s.body)) (from_instance (at_head s.above.scope s.body) (stored_facts s.body)))
    (subst (From (shown_facts s.body)) (sym (shown_are s.above.scope s.body)) (from_instance (at_head s.above.scope s.body) (shown_facts s.body))) in
    let r = from h.fact h.stands in
    record { fact = r.0; stands = r.1; reserved = ap is_reserved r.2.name ∙ h.reserved }
flaw_was g before s FactClash (inl h) =
    inl (clash_was HasOtherForm keeps_form (at_head s.above.scope s.body) (flat_map (λ (b : Site). stored_facts b.body) before) (flat_map (λ (b : Site). stored_facts b.body) (map sorted_site before)) (stored_facts s.body)
    (from_places stored_facts stored_are before) (subst (HasClash HasOtherForm (flat_map (λ (b : Site). stored_facts b.body) (map sorted_site before))) (stored_are s.above.scope s.body) h))
flaw_was g before s FactClash (inr h) =
    inr (clash_was HasOtherArity keeps_arity (at_head s.above.scope s.body) (flat_map (λ (b : Site). shown_facts b.body) before) (flat_map (λ (b : Site). shown_facts b.body) (map sorted_site before)) (shown_facts s.body)
    (from_places shown_facts shown_are before) (subst (HasClash HasOtherArity (flat_map (λ (b : Site). shown_facts b.body) (map sorted_site before))) (shown_are s.above.scope s.body) h))
flaw_was g before s PatternDestructor h =
    let r = of_map (instance (at_head s.above.scope s.body)) (patterns s.body) h.term (subst (λ ts. Contains ts h.term) (patterns_are s.above.scope s.body) h.stands) in
    record { term = r.0; stands = r.1; destructor = no_new_destructor g (scope_at s.above.scope s.body) r.0 (subst (HasDestructor g) (sym r.2) h.destructor) }
flaw_was g before s Unbound h = λ absent. h (unbound_stays s.above.scope s.body absent)
flaw_was g before s Rebound h =
    let r = binder_name s.above.scope s.body h.var h.stands in
    record { var = r.0; stands = r.1; in_scope = ap (is_known (var_names s.above.scope)) r.2 ∙ h.in_scope }
flaw_was g before s SortClash h = absurd (no_sort_clash s h)
flaw_was g before s ScopeFull h = h

pub still_well : (g : Sig) (p : Proc) → IsWellFormed g p → IsWellFormed g (with_sorts [] p)
still_well g p fine w k f =
    let r = got_map sorted_site (sites p) k f.site (subst (λ ss. slice_get ss k ≡ Some f.site) (sorted_sites p [] [] 0) f.stands) in
    let taken : take k (sites (with_sorts [] p)) ≡ map sorted_site (take k (sites p)) = ap (take k) (sorted_sites p [] [] 0) ∙ take-map sorted_site k (sites p) in
    let flaw : HasFlaw g (map sorted_site (take k (sites p))) (sorted_site r.0) w = subst (λ (z : Site). HasFlaw g (map sorted_site (take k (sites p))) z w) (sym r.2) (subst (λ ss. HasFlaw g ss f.site w) taken f.flaw) in
    fine w k (record { site = r.0; stands = r.1; flaw = flaw_was g (take k (sites p)) r.0 w flaw })

pub sorted_ready : (g : Sig) (p : Proc) → IsWellFormed g p → IsReady g (with_sorts [] p)
sorted_ready g p fine = record { well_formed = still_well g p fine; sorted = sorted_once [] p }
