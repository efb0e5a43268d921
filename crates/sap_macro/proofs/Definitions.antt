-- Sorts and definitions: what is closed can be sorted, and definitions mean their sorted bodies.
use Rattle.std.proofs.Common.{◌≡◌, ℕ, Bool, true, false, List, [], ◌∷◌, ◌++◌, inl, inr, map, Option, Some, None, refl, sym, ap, ap₂, ◌∙◌, subst, ⊎_elim}
use Rattle.std.proofs.lemmas.Bool.{cases_Bool, false≢true}
use Rattle.std.specs.Prelude.{if◌then◌else◌}
use Rattle.std.specs.Str.{bytes_eq}
use Rattle.sap_terms.specs.Choice.{Choice, instance, instances}
use Rattle.sap_terms.specs.Modulo.{instance_facts}
use Rattle.sap_terms.specs.Tree.{Tree, variable, public, fresh, apply, Trees, none, more, trees_of}
use Rattle.sap_terms.specs.declared.fact.Fact.{Fact}
use Rattle.sap_terms.specs.declared.var.Sort.{Sort}
use Rattle.sap_terms.specs.declared.var.Sort.TheVariants.{Msg}
use Rattle.sap_terms.specs.declared.var.Var.{Var}
use Rattle.sap_terms.specs.Variables.{is_known, tree_vars, trees_vars, facts_vars, new_vars}
use Rattle.sap_process.specs.Action.{Action, new, out, send, input, receive, event, insert, delete, lock, unlock, embedded}
use Rattle.sap_process.specs.Flaws.{binder_of}
use Rattle.sap_process.specs.Instance.{action_instance}
use Rattle.sap_process.specs.Sites as sites
use Rattle.sap_process.specs.Sites.{var_names, message_var}
use Rattle.sap_process.specs.Sorted.{by_binder, binding_fresh, with_sorts}
use Rattle.sap_macro.specs.Expansion.{Meaning, Expanded, behind, binders, binding_vars, bound_by, bound_in, by_names, entered, expanded, meaning_after, meaning_of, no_meaning, own_names, put, same_name, scope_behind, unchanged, with_definition}
use Rattle.sap_macro.specs.Instances.{IsClosed, IsOverScope}
use Rattle.sap_macro.specs.NewNames.{once, renamed, taken_after}
use Rattle.sap_macro.specs.UpToNames.{named}
use Rattle.sap_macro.specs.Written.{Written, nil, call, parallel, replicated, act, test, lookup, Definition}
use Rattle.sap_macro.specs.WrittenRuns.{sorted, sorted_definition}
use Rattle.sap_terms.proofs.PlainLaws.Known.{clash, in_cases, in_head, in_tail}
use Rattle.sap_macro.proofs.Scopes.{Among, in_left, in_right, append_cases, behind_cases, behind_keeps, over_behind, renamed_is_new, renamed_is_taken, renamed_one, grown}
use Rattle.sap_macro.proofs.Commuting.{IsSteady, own_new}
use Rattle.sap_macro.proofs.Uses.{AreClosed, either_way, steady_with, put_instance, put_other, later_param, own_has, own_is_new}
use Rattle.sap_macro.proofs.Sorting.{as_bound, names_append, OwnOrKnown}
use Rattle.sap_macro.proofs.Exchange.{Exchange, IsSortable, exchanged, over_new, same_taken}

-- ---- sorting keeps names

bound_name : (o : Option Var) (v : Var) → var_names (tree_vars (as_bound o v)) ≡ v.name ∷ []
bound_name None v = refl
bound_name (Some w) v = refl

pub names_joined : (vs ws : List Var) → var_names (vs ++ ws) ≡ var_names vs ++ var_names ws
names_joined vs ws = names_append vs ws

mutual
  pub names_kept : (Z : List Var) (t : Tree) → var_names (tree_vars (instance (by_binder Z) t)) ≡ var_names (tree_vars t)
  names_kept Z (variable v) = bound_name (binder_of Z v.name) v
  names_kept Z (public n) = refl
  names_kept Z (fresh k) = refl
  names_kept Z (apply f ts) = all_names_kept Z ts

  all_names_kept : (Z : List Var) (ts : Trees) → var_names (trees_vars (instances (by_binder Z) ts)) ≡ var_names (trees_vars ts)
  all_names_kept Z none = refl
  all_names_kept Z (more t ts) =
      names_joined (tree_vars (instance (by_binder Z) t)) (trees_vars (instances (by_binder Z) ts))
      ∙ ap₂ (λ (xs ys : List (List ℕ)). xs ++ ys) (names_kept Z t) (all_names_kept Z ts) ∙ sym (names_joined (tree_vars t) (trees_vars ts))

pub args_kept : (Z : List Var) (ts : List Tree) → var_names (trees_vars (trees_of (map (instance (by_binder Z)) ts))) ≡ var_names (trees_vars (trees_of ts))
args_kept Z [] = refl
args_kept Z (t ∷ ts) =
    names_joined (tree_vars (instance (by_binder Z) t)) (trees_vars (trees_of (map (instance (by_binder Z)) ts)))
    ∙ ap₂ (λ (xs ys : List (List ℕ)). xs ++ ys) (names_kept Z t) (args_kept Z ts) ∙ sym (names_joined (tree_vars t) (trees_vars (trees_of ts)))

facts_kept : (Z : List Var) (fs : List Fact) → var_names (facts_vars (instance_facts (by_binder Z) fs)) ≡ var_names (facts_vars fs)
facts_kept Z [] = refl
facts_kept Z (f ∷ fs) =
    names_joined (trees_vars (trees_of (map (instance (by_binder Z)) f.args))) (facts_vars (instance_facts (by_binder Z) fs))
    ∙ ap₂ (λ (xs ys : List (List ℕ)). xs ++ ys) (args_kept Z f.args) (facts_kept Z fs) ∙ sym (names_joined (trees_vars (trees_of f.args)) (facts_vars fs))

facts_both : (r : Choice) (fs hs : List Fact) → instance_facts r fs ++ instance_facts r hs ≡ instance_facts r (fs ++ hs)
facts_both r [] hs = refl
facts_both r (f ∷ fs) hs = ap (λ z. record { name = f.name; persistent = f.persistent; args = map (instance r) f.args } ∷ z) (facts_both r fs hs)

action_kept : (Z : List Var) (a : Action) → var_names (binding_vars (binding_fresh (action_instance (by_binder Z) a))) ≡ var_names (binding_vars a)
action_kept Z (new x) = refl
action_kept Z (out t) = refl
action_kept Z (send t u) = refl
action_kept Z (input t) = names_kept Z t
action_kept Z (receive t u) = names_kept Z u
action_kept Z (event f) = refl
action_kept Z (insert t u) = refl
action_kept Z (delete t) = refl
action_kept Z (lock t n) = refl
action_kept Z (unlock t n) = refl
action_kept Z (embedded l e k) =
    ap (λ z. var_names (facts_vars z)) (ap (λ z. instance_facts (by_binder Z) l ++ z) (facts_both (by_binder Z) e k) ∙ facts_both (by_binder Z) l (e ++ k)) ∙ facts_kept Z (l ++ (e ++ k))

-- what is bound, and what is in scope behind, by names alone
bound_names : List (List ℕ) → List (List ℕ) → List (List ℕ)
bound_names scope [] = []
bound_names scope (n ∷ ns) = (if is_known scope n then [] else (n ∷ [])) ++ bound_names (if is_known scope n then scope else (n ∷ scope)) ns

behind_names : List (List ℕ) → List (List ℕ) → List (List ℕ)
behind_names scope [] = scope
behind_names scope (n ∷ ns) = behind_names (if is_known scope n then scope else (n ∷ scope)) ns

by_bound_names : (scope : List (List ℕ)) (vs : List Var) → bound_in scope vs ≡ bound_names scope (var_names vs)
unfolding bound_names
by_bound_names scope [] = refl
by_bound_names scope (v ∷ vs) = ap (λ z. (if is_known scope v.name then [] else (v.name ∷ [])) ++ z) (by_bound_names (if is_known scope v.name then scope else (v.name ∷ scope)) vs)

by_behind_names : (scope : List (List ℕ)) (vs : List Var) → scope_behind scope vs ≡ behind_names scope (var_names vs)
unfolding behind_names
by_behind_names scope [] = refl
by_behind_names scope (v ∷ vs) = by_behind_names (if is_known scope v.name then scope else (v.name ∷ scope)) vs

pub same_bound : (scope : List (List ℕ)) (Z : List Var) (a : Action) → bound_by scope (binding_fresh (action_instance (by_binder Z) a)) ≡ bound_by scope a
same_bound scope Z a =
    by_bound_names scope (binding_vars (binding_fresh (action_instance (by_binder Z) a))) ∙ ap (bound_names scope) (action_kept Z a) ∙ sym (by_bound_names scope (binding_vars a))

pub same_behind : (scope : List (List ℕ)) (Z : List Var) (a : Action) → behind scope (binding_fresh (action_instance (by_binder Z) a)) ≡ behind scope a
same_behind scope Z a =
    by_behind_names scope (binding_vars (binding_fresh (action_instance (by_binder Z) a))) ∙ ap (behind_names scope) (action_kept Z a) ∙ sym (by_behind_names scope (binding_vars a))

-- sorting binds the same names
pub binders_kept : (scope : List (List ℕ)) (Z : List Var) (w : Written) → binders scope (sorted Z w) ≡ binders scope w
binders_kept scope Z nil = refl
binders_kept scope Z (call f ts) = refl
binders_kept scope Z (parallel p q) = ap₂ (λ (xs ys : List (List ℕ)). xs ++ ys) (binders_kept scope Z p) (binders_kept scope Z q)
binders_kept scope Z (replicated p) = binders_kept scope Z p
binders_kept scope Z (act a p) =
    let wide = Z ++ sites.bound_by Z a in
    ap₂ (λ (xs ys : List (List ℕ)). xs ++ ys) (same_bound scope wide a) (ap (λ z. binders z (sorted wide p)) (same_behind scope wide a) ∙ binders_kept (behind scope a) wide p)
binders_kept scope Z (test t u p q) = ap₂ (λ (xs ys : List (List ℕ)). xs ++ ys) (binders_kept scope Z p) (binders_kept scope Z q)
binders_kept scope Z (lookup t x p q) =
    ap (λ z. x.name ∷ z) (ap₂ (λ (xs ys : List (List ℕ)). xs ++ ys) (binders_kept (x.name ∷ scope) (Z ++ message_var x ∷ []) p) (binders_kept scope Z q))

-- ---- what is closed can be sorted

pub known_of : (vs : List Var) (scope : List (List ℕ)) (x : List ℕ) → IsOverScope scope vs → is_known (var_names vs) x ≡ true → is_known scope x ≡ true
known_of [] scope x h k = absurd (false≢true k)
known_of (v ∷ vs) scope x h k = ⊎_elim (λ e. subst (λ z. is_known scope z ≡ true) e h.0) (λ l. known_of vs scope x h.1 l) (in_cases x v.name (var_names vs) k)

new_is_there : (known : List (List ℕ)) (vs : List Var) (x : List ℕ) → is_known (var_names (new_vars known vs)) x ≡ true → is_known (var_names vs) x ≡ true
new_is_there known [] x h = h
new_is_there known (v ∷ vs) x h =
    ⊎_elim
    (λ e. in_tail x v.name (var_names vs) (new_is_there known vs x (subst (λ c. is_known (var_names (if c then new_vars known vs else v ∷ new_vars (known ++ v.name ∷ []) vs)) x ≡ true) e h)))
    (λ e. ⊎_elim (λ s. subst (λ z. is_known (v.name ∷ var_names vs) z ≡ true) s (in_head v.name (var_names vs)))
    (λ l. in_tail x v.name (var_names vs) (new_is_there (known ++ v.name ∷ []) vs x l))
    (in_cases x v.name (var_names (new_vars (known ++ v.name ∷ []) vs)) (subst (λ c. is_known (var_names (if c then new_vars known vs else v ∷ new_vars (known ++ v.name ∷ []) vs)) x ≡ true) e h)))
    (cases_Bool (is_known known v.name))

pub bound_is_there : (scope : List (List ℕ)) (vs : List Var) (x : List ℕ) → is_known (bound_in scope vs) x ≡ true → is_known (var_names vs) x ≡ true
bound_is_there scope [] x h = h
bound_is_there scope (v ∷ vs) x h =
    let wide = if is_known scope v.name then scope else (v.name ∷ scope) in
    ⊎_elim (λ l. one_there (is_known scope v.name) l) (λ l. in_tail x v.name (var_names vs) (bound_is_there wide vs x l))
    (append_cases (if is_known scope v.name then [] else (v.name ∷ [])) (bound_in wide vs) x h)
  where
    one_there : (c : Bool) → is_known (if c then [] else (v.name ∷ [])) x ≡ true → is_known (v.name ∷ var_names vs) x ≡ true
    one_there true l = absurd (false≢true l)
    one_there false l = ⊎_elim (λ s. subst (λ z. is_known (v.name ∷ var_names vs) z ≡ true) s (in_head v.name (var_names vs))) (λ k. absurd (false≢true k)) (in_cases x v.name [] l)

over_other : (xs ys : List (List ℕ)) (vs : List Var) → Among xs ys → IsOverScope xs vs → IsOverScope ys vs
over_other xs ys [] a h = tt
over_other xs ys (v ∷ vs) a h = (a v.name h.0, over_other xs ys vs a h.1)

not_other : (xs ys : List (List ℕ)) (x : List ℕ) → Among ys xs → is_known xs x ≡ false → is_known ys x ≡ false
not_other xs ys x a h = ⊎_elim (λ e. clash (is_known xs x) (a x e) h) (λ e. e) (cases_Bool (is_known ys x))

module _ (r : Choice) (b : List ℕ → List ℕ) (B : List (List ℕ))
    (own : (v : Var) → is_known B v.name ≡ true → r v ≡ variable (named (b v.name) v.sort))
    (one : (x z : List ℕ) → is_known B x ≡ true → is_known B z ≡ true → b x ≡ b z → x ≡ z)
    (q : Choice) (own_too : (v : Var) → is_known B v.name ≡ true → q v ≡ variable (named (b v.name) v.sort)) where
  -- the two scopes hold the same names
  pub record Same (K : List (List ℕ)) (Z : List Var) : Type 0 where
    pub there : Among K (var_names Z)
    pub back : Among (var_names Z) K

  same_behind_pattern : (K : List (List ℕ)) (Z vs : List Var) → Same K Z → Same (scope_behind K vs) (Z ++ new_vars (var_names Z) vs)
  same_behind_pattern K Z vs s = record {
    there = λ x h.
        let all = subst (λ z. IsOverScope z vs) (sym (names_append Z (new_vars (var_names Z) vs))) (over_new (var_names Z) vs) in
        ⊎_elim (λ l. subst (λ z. is_known z x ≡ true) (sym (names_append Z (new_vars (var_names Z) vs))) (in_left (var_names Z) (var_names (new_vars (var_names Z) vs)) x (s.there x l)))
        (λ l. known_of vs (var_names (Z ++ new_vars (var_names Z) vs)) x all (bound_is_there K vs x l)) (behind_cases K vs x h);
    back = λ x h.
        ⊎_elim (λ l. behind_keeps K vs x (s.back x l)) (λ l. known_of vs (scope_behind K vs) x (over_behind K vs) (new_is_there (var_names Z) vs x l))
        (append_cases (var_names Z) (var_names (new_vars (var_names Z) vs)) x (subst (λ z. is_known z x ≡ true) (names_append Z (new_vars (var_names Z) vs)) h));
  }

  same_more : (K : List (List ℕ)) (Z : List Var) (v : Var) → Same K Z → Same (v.name ∷ K) (Z ++ v ∷ [])
  same_more K Z v s = record {
    there = λ x h.
        subst (λ z. is_known z x ≡ true) (sym (names_append Z (v ∷ [])))
        (⊎_elim (λ e. in_right (var_names Z) (v.name ∷ []) x (subst (λ z. is_known (v.name ∷ []) z ≡ true) e (in_head v.name []))) (λ l. in_left (var_names Z) (v.name ∷ []) x (s.there x l)) (in_cases x v.name K h));
    back = λ x h.
        ⊎_elim (λ l. in_tail x v.name K (s.back x l))
        (λ l. ⊎_elim (λ e. subst (λ z. is_known (v.name ∷ K) z ≡ true) e (in_head v.name K)) (λ z. absurd (false≢true z)) (in_cases x v.name [] l))
        (append_cases (var_names Z) (v.name ∷ []) x (subst (λ z. is_known z x ≡ true) (names_append Z (v ∷ [])) h));
  }

  same_none : (K : List (List ℕ)) (Z : List Var) → Same K Z → Same K (Z ++ [])
  same_none K Z s = record {
    there = λ x h. subst (λ z. is_known z x ≡ true) (sym (names_append Z [])) (in_left (var_names Z) [] x (s.there x h));
    back = λ x h. ⊎_elim (λ l. s.back x l) (λ l. absurd (false≢true l)) (append_cases (var_names Z) [] x (subst (λ z. is_known z x ≡ true) (names_append Z []) h));
  }

  -- what a pattern binds is an own name
  pattern_own : (K : List (List ℕ)) (Z vs : List Var) → Same K Z → Among (bound_in K vs) B → OwnOrKnown r b B own one (var_names Z) vs
  pattern_own K Z vs s i = each vs (over_behind K vs)
    where
      each : (ws : List Var) → IsOverScope (scope_behind K vs) ws → OwnOrKnown r b B own one (var_names Z) ws
      each [] h = tt
      each (w ∷ ws) h = (⊎_elim (λ l. inl (s.there w.name l)) (λ l. inr (i w.name l)) (behind_cases K vs w.name h.0), each ws h.1)

  new_scope : (K : List (List ℕ)) (x : List ℕ) → is_known K x ≡ false → (v : Var) → v.name ≡ x → scope_behind K (v ∷ []) ≡ x ∷ K
  new_scope K x h v e = ap (λ n. if is_known K n then K else (n ∷ K)) e ∙ ap (λ c. if c then K else (x ∷ K)) h

  pub sortable : (K : List (List ℕ)) (Z : List Var) (w : Written) → Same K Z → IsClosed K w → Among (binders K w) B → IsSortable r b B own one q own_too Z w
  sortable K Z nil s c i = tt
  sortable K Z (call f ts) s c i = over_other K (var_names Z) (trees_vars (trees_of ts)) s.there c
  sortable K Z (parallel p u) s c i =
      (sortable K Z p s c.0 (λ x h. i x (in_left (binders K p) (binders K u) x h)), sortable K Z u s c.1 (λ x h. i x (in_right (binders K p) (binders K u) x h)))
  sortable K Z (replicated p) s c i = sortable K Z p s c i
  sortable K Z (act (new x) p) s c i =
      let wide = new_scope K x.name c.1.0 x refl in (
        tt,
        (
          (not_other K (var_names Z) x.name s.back c.1.0, i x.name (in_left (bound_by K (new x)) (binders (behind K (new x)) p) x.name (own_new K x c.1.0))),
          sortable (behind K (new x)) (Z ++ sites.fresh_var x ∷ []) p (subst (λ z. Same z (Z ++ sites.fresh_var x ∷ [])) (sym wide) (same_more K Z (sites.fresh_var x) s)) c.1.1
              (λ y h. i y (in_right (bound_by K (new x)) (binders (behind K (new x)) p) y h)),
        ),
      )
  sortable K Z (act (out t) p) s c i = (over_other K (var_names Z) (tree_vars t) s.there c.0, (tt, sortable K (Z ++ []) p (same_none K Z s) c.1.1 i))
  sortable K Z (act (send t u) p) s c i = (over_other K (var_names Z) (tree_vars t ++ tree_vars u) s.there c.0, (tt, sortable K (Z ++ []) p (same_none K Z s) c.1.1 i))
  sortable K Z (act (input t) p) s c i = (
    tt,
    (
      pattern_own K Z (tree_vars t) s (λ x h. i x (in_left (bound_in K (tree_vars t)) (binders (scope_behind K (tree_vars t)) p) x h)),
      sortable (scope_behind K (tree_vars t)) (Z ++ new_vars (var_names Z) (tree_vars t)) p (same_behind_pattern K Z (tree_vars t) s) c.1.1
          (λ x h. i x (in_right (bound_in K (tree_vars t)) (binders (scope_behind K (tree_vars t)) p) x h)),
    ),
  )
  sortable K Z (act (receive t u) p) s c i = (
    over_other K (var_names Z) (tree_vars t) s.there (narrow K Z t u c.0 s),
    (
      pattern_own K Z (tree_vars u) s (λ x h. i x (in_left (bound_in K (tree_vars u)) (binders (scope_behind K (tree_vars u)) p) x h)),
      sortable (scope_behind K (tree_vars u)) (Z ++ new_vars (var_names Z) (tree_vars u)) p (same_behind_pattern K Z (tree_vars u) s) c.1.1
          (λ x h. i x (in_right (bound_in K (tree_vars u)) (binders (scope_behind K (tree_vars u)) p) x h)),
    ),
  )
    where
      narrow : (K : List (List ℕ)) (Z : List Var) (t u : Tree) → IsOverScope K (tree_vars t) → Same K Z → IsOverScope K (tree_vars t)
      narrow K Z t u h s = h
  sortable K Z (act (event f) p) s c i = (over_other K (var_names Z) (trees_vars (trees_of f.args)) s.there c.0, (tt, sortable K (Z ++ []) p (same_none K Z s) c.1.1 i))
  sortable K Z (act (insert t u) p) s c i = (over_other K (var_names Z) (tree_vars t ++ tree_vars u) s.there c.0, (tt, sortable K (Z ++ []) p (same_none K Z s) c.1.1 i))
  sortable K Z (act (delete t) p) s c i = (over_other K (var_names Z) (tree_vars t) s.there c.0, (tt, sortable K (Z ++ []) p (same_none K Z s) c.1.1 i))
  sortable K Z (act (lock t k) p) s c i = (over_other K (var_names Z) (tree_vars t) s.there c.0, (tt, sortable K (Z ++ []) p (same_none K Z s) c.1.1 i))
  sortable K Z (act (unlock t k) p) s c i = (over_other K (var_names Z) (tree_vars t) s.there c.0, (tt, sortable K (Z ++ []) p (same_none K Z s) c.1.1 i))
  sortable K Z (act (embedded l e k) p) s c i =
      let vs = facts_vars (l ++ (e ++ k)) in (
        tt,
        (
          pattern_own K Z vs s (λ x h. i x (in_left (bound_in K vs) (binders (scope_behind K vs) p) x h)),
          sortable (scope_behind K vs) (Z ++ new_vars (var_names Z) vs) p (same_behind_pattern K Z vs s) c.1.1 (λ x h. i x (in_right (bound_in K vs) (binders (scope_behind K vs) p) x h)),
        ),
      )
  sortable K Z (test t v p u) s c i = (
    over_other K (var_names Z) (tree_vars t) s.there c.0,
    (
      over_other K (var_names Z) (tree_vars v) s.there c.1.0,
      (sortable K Z p s c.1.1.0 (λ x h. i x (in_left (binders K p) (binders K u) x h)), sortable K Z u s c.1.1.1 (λ x h. i x (in_right (binders K p) (binders K u) x h))),
    ),
  )
  sortable K Z (lookup t x p u) s c i =
      let rest = binders (x.name ∷ K) p ++ binders K u in (
        over_other K (var_names Z) (tree_vars t) s.there c.0,
        (
          not_other K (var_names Z) x.name s.back c.1.0,
          (
            i x.name (in_head x.name rest),
            (
              sortable (x.name ∷ K) (Z ++ message_var x ∷ []) p (same_more K Z (message_var x) s) c.1.1.0 (λ y h. i y (in_tail y x.name rest (in_left (binders (x.name ∷ K) p) (binders K u) y h))),
              sortable K Z u s c.1.1.1 (λ y h. i y (in_tail y x.name rest (in_right (binders (x.name ∷ K) p) (binders K u) y h))),
            ),
          ),
        ),
      )

-- ---- a use of a definition, and of the sorted one

-- parameters, as messages
abbrev pub params_of : Definition → List Var
params_of d = map (λ n. named n Msg) d.params

params_named : (ns : List (List ℕ)) → var_names (map (λ n. named n Msg) ns) ≡ ns
params_named [] = refl
params_named (n ∷ ns) = ap (λ z. n ∷ z) (params_named ns)

-- what is put for a parameter is told by its name
put_by_name : (ys : List (List ℕ)) (ts : List Tree) (o u : Choice) (v : Var) (s : Sort) → is_known ys v.name ≡ true → put ys ts o v ≡ put ys ts u (named v.name s)
put_by_name [] ts o u v s h = absurd (false≢true h)
put_by_name (y ∷ ys) [] o u v s h =
    ⊎_elim (λ e. ap (λ c. if c then public [] else put ys [] o v) e ∙ sym (ap (λ c. if c then public [] else put ys [] u (named v.name s)) e))
    (λ e. ap (λ c. if c then public [] else put ys [] o v) e ∙ put_by_name ys [] o u v s (later_param y ys v.name h e) ∙ sym (ap (λ c. if c then public [] else put ys [] u (named v.name s)) e))
    (cases_Bool (bytes_eq y v.name))
put_by_name (y ∷ ys) (t ∷ ts) o u v s h =
    ⊎_elim (λ e. ap (λ c. if c then t else put ys ts o v) e ∙ sym (ap (λ c. if c then t else put ys ts u (named v.name s)) e))
    (λ e. ap (λ c. if c then t else put ys ts o v) e ∙ put_by_name ys ts o u v s (later_param y ys v.name h e) ∙ sym (ap (λ c. if c then t else put ys ts u (named v.name s)) e))
    (cases_Bool (bytes_eq y v.name))

put_by_binder : (ys : List (List ℕ)) (ts : List Tree) (u : Choice) (v : Var) (o : Option Var) → is_known ys v.name ≡ true → put ys ts u v ≡ instance (put ys ts u) (as_bound o v)
put_by_binder ys ts u v None h = refl
put_by_binder ys ts u v (Some w) h = put_by_name ys ts u u v w.sort h

split_left : (ns : List (List ℕ)) (vs ws : List Var) → IsOverScope ns (vs ++ ws) → IsOverScope ns vs
split_left ns [] ws h = tt
split_left ns (v ∷ vs) ws h = (h.0, split_left ns vs ws h.1)

split_right : (ns : List (List ℕ)) (vs ws : List Var) → IsOverScope ns (vs ++ ws) → IsOverScope ns ws
split_right ns [] ws h = h
split_right ns (v ∷ vs) ws h = split_right ns vs ws h.1

put_over : (ns ys : List (List ℕ)) (ts : List Tree) (o : Choice) (v : Var) → IsOverScope ns (trees_vars (trees_of ts)) → is_known ys v.name ≡ true → IsOverScope ns (tree_vars (put ys ts o v))
put_over ns [] ts o v h k = absurd (false≢true k)
put_over ns (y ∷ ys) [] o v h k =
    either_way (λ t. IsOverScope ns (tree_vars t)) (bytes_eq y v.name) (public []) (put ys [] o v) (λ e. tt) (λ e. put_over ns ys [] o v h (later_param y ys v.name k e))
put_over ns (y ∷ ys) (t ∷ ts) o v h k =
    either_way (λ z. IsOverScope ns (tree_vars z)) (bytes_eq y v.name) t (put ys ts o v) (λ e. split_left ns (tree_vars t) (trees_vars (trees_of ts)) h)
    (λ e. put_over ns ys ts o v (split_right ns (tree_vars t) (trees_vars (trees_of ts)) h) (later_param y ys v.name k e))

own_kept : (d : Definition) → own_names (sorted_definition d) ≡ own_names d
own_kept d = ap (once []) (binders_kept d.params (params_of d) d.body)

module _ (m n : Meaning) (steady : IsSteady m) (ex : Exchange m n) (d : Definition) (closed : IsClosed d.params d.body) where
  entered_taken : (ts us : List Tree) (taken : List (List ℕ)) → (entered m d ts taken).taken ≡ (entered n (sorted_definition d) us taken).taken
  entered_taken ts us taken =
      let bs = own_names d in
      let b = renamed taken bs in
      let r = put d.params ts (by_names b) in
      let q = put d.params us (by_names b) in
      same_taken r b bs (λ v i. put_other d.params ts (by_names b) v (own_is_new d closed v.name i)) (λ x z i j e. renamed_one taken bs x z i j e)
      q (λ v i. put_other d.params us (by_names b) v (own_is_new d closed v.name i)) m n steady ex (params_of d) d.body (taken_after taken bs)
      ∙ sym (ap (λ ns. (expanded n (put d.params us (by_names (renamed taken ns))) (renamed taken ns) (sorted (params_of d) d.body) (taken_after taken ns)).taken) (own_kept d))

  entered_sorted : (ts : List Tree) (taken : List (List ℕ)) (S : List Var) → IsOverScope (var_names S) (trees_vars (trees_of ts)) → Among (var_names S) taken
      → with_sorts S (entered m d ts taken).process ≡ (entered n (sorted_definition d) (map (instance (by_binder S)) ts) taken).process
  entered_sorted ts taken S o s =
      let bs = own_names d in
      let b = renamed taken bs in
      let us = map (instance (by_binder S)) ts in
      let r = put d.params ts (by_names b) in
      let q = put d.params us (by_names b) in
      let own : (v : Var) → is_known bs v.name ≡ true → r v ≡ variable (named (b v.name) v.sort) = λ v i. put_other d.params ts (by_names b) v (own_is_new d closed v.name i) in
      let own_too : (v : Var) → is_known bs v.name ≡ true → q v ≡ variable (named (b v.name) v.sort) = λ v i. put_other d.params us (by_names b) v (own_is_new d closed v.name i) in
      let one : (x z : List ℕ) → is_known bs x ≡ true → is_known bs z ≡ true → b x ≡ b z → x ≡ z = λ x z i j e. renamed_one taken bs x z i j e in
      let params = params_named d.params in
      let is_param : (v : Var) → is_known (var_names (params_of d)) v.name ≡ true → is_known d.params v.name ≡ true = λ v h. subst (λ z. is_known z v.name ≡ true) params h in
      let same : Same r b bs own one q own_too d.params (params_of d) =
      record { there = λ x h. subst (λ z. is_known z x ≡ true) (sym params) h; back = λ x h. subst (λ z. is_known z x ≡ true) params h } in
      exchanged r b bs own one q own_too m n steady ex S (params_of d) d.body (taken_after taken bs)
      (sortable r b bs own one q own_too d.params (params_of d) d.body same closed (own_has d))
      (λ v h. put_instance (by_binder S) d.params ts (by_names b) (by_names b) v (is_param v h) ∙ put_by_binder d.params us (by_names b) v (binder_of (params_of d) v.name) (is_param v h))
      (record {
        over = λ v h. put_over (var_names S) d.params ts (by_names b) v o (is_param v h);
        new = λ x i h. not_other taken (var_names S) (b x) s (renamed_is_new taken bs x i);
      })
      (λ x h. grown taken bs x (s x h)) (λ x i. renamed_is_taken taken bs x i)
      ∙ sym (ap (λ ns. (expanded n (put d.params us (by_names (renamed taken ns))) (renamed taken ns) (sorted (params_of d) d.body) (taken_after taken ns)).process) (own_kept d))

  pub exchange_with : Exchange (with_definition m d) (with_definition n (sorted_definition d))
  exchange_with = record {
    same = λ f ts us taken.
        both (λ (x y : Expanded). x.taken ≡ y.taken) (bytes_eq d.name f) (entered m d ts taken) (m f ts taken) (entered n (sorted_definition d) us taken) (n f us taken)
        (entered_taken ts us taken) (ex.same f ts us taken);
    sorts = λ f ts taken S o s.
        let us = map (instance (by_binder S)) ts in
        both (λ (x y : Expanded). with_sorts S x.process ≡ y.process) (bytes_eq d.name f) (entered m d ts taken) (m f ts taken) (entered n (sorted_definition d) us taken) (n f us taken)
        (entered_sorted ts taken S o s) (ex.sorts f ts taken S o s);
  }
    where
      both : (P : Expanded → Expanded → Type 0) (c : Bool) (x y u v : Expanded) → P x u → P y v → P (if c then x else y) (if c then u else v)
      both P true x y u v h k = h
      both P false x y u v h k = k

-- ---- all definitions

exchange_after : (m n : Meaning) (ds : List Definition) → AreClosed ds → IsSteady m → Exchange m n → ((e : Definition) (k : Meaning) → IsSteady k → IsSteady (with_definition k e))
    → Exchange (meaning_after m ds) (meaning_after n (map sorted_definition ds)) × IsSteady (meaning_after m ds)
exchange_after m n [] c s x t = (x, s)
exchange_after m n (d ∷ ds) c s x t = exchange_after (with_definition m d) (with_definition n (sorted_definition d)) ds c.1 (t d m s) (exchange_with m n s x d c.0) t

-- Setting sorts and expanding can be exchanged: where the definitions are closed, and the process is, the expansion with the sorts of its binders is the expansion of
-- what is sorted, behind the sorted definitions.
pub sorts_are_exchanged_all : (ds : List Definition) (p : Written) (taken : List (List ℕ)) → AreClosed ds → IsClosed [] p → ((x : List ℕ) → is_known (binders [] p) x ≡ true → is_known taken x ≡ true)
    → with_sorts [] (expanded (meaning_of ds) unchanged same_name p taken).process
    ≡ (expanded (meaning_of (map sorted_definition ds)) unchanged same_name (sorted [] p) taken).process
sorts_are_exchanged_all ds p taken c closed own_taken =
    let begun : Exchange no_meaning no_meaning = record { same = λ f ts us z. refl; sorts = λ f ts z S o s. refl } in
    let steady : IsSteady no_meaning = record { same = λ f ts us z. refl; grows = λ f ts z x h. h } in
    let all = exchange_after no_meaning no_meaning ds c steady begun (λ e k s. steady_with k s e) in
    let B = binders [] p in
    exchanged unchanged same_name B (λ v i. refl) (λ x z i j e. e) unchanged (λ v i. refl) (meaning_of ds) (meaning_of (map sorted_definition ds)) all.1 all.0 [] [] p taken
    (sortable unchanged same_name B (λ v i. refl) (λ x z i j e. e) unchanged (λ v i. refl) [] [] p (record { there = λ x h. h; back = λ x h. h }) closed (λ x h. h))
    (λ v h. absurd (false≢true h))
    (record { over = λ v h. absurd (false≢true h); new = λ x i h. refl })
    (λ x h. absurd (false≢true h)) own_taken
