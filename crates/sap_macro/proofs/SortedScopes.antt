-- What is sorted is closed where it was, uses what it used, and binds what it bound.
use Rattle.std.proofs.Common.{◌≡◌, ℕ, Bool, true, false, List, [], ◌∷◌, ◌++◌, map, refl, sym, ap, ap₂, ◌∙◌, subst}
use Rattle.std.specs.Prelude.{if◌then◌else◌}
use Rattle.sap_terms.specs.Choice.{instance}
use Rattle.sap_terms.specs.Tree.{trees_of}
use Rattle.sap_terms.specs.Variables.{is_known, tree_vars, trees_vars}
use Rattle.sap_terms.specs.declared.var.Var.{Var}
use Rattle.sap_process.specs.Action.{Action, new, out, send, input, receive, event, insert, delete, lock, unlock, embedded}
use Rattle.sap_process.specs.Instance.{action_instance}
use Rattle.sap_process.specs.Sites as sites
use Rattle.sap_process.specs.Sites.{var_names, message_var}
use Rattle.sap_process.specs.Sorted.{by_binder, binding_fresh, with_sorts}
use Rattle.sap_macro.specs.Expansion.{Expanded, behind, expanded, meaning_of, no_meaning, same_name, unchanged}
use Rattle.sap_macro.specs.Indexed.{defined}
use Rattle.sap_macro.specs.Instances.{AreClosedAmong, AreTaken, BindsNew, IsClosed, IsOverScope, used_vars}
use Rattle.sap_macro.specs.Order.{AreInOrder, UsesOnly}
use Rattle.sap_macro.specs.Written.{Written, nil, call, parallel, replicated, act, test, lookup, Definition}
use Rattle.sap_macro.specs.WrittenRuns.{sorted, sorted_definition}
use Rattle.sap_terms.proofs.PlainLaws.Known.{in_head, in_tail}
use Rattle.sap_macro.proofs.Definitions.{args_kept, binders_kept, known_of, names_joined, names_kept, params_of, same_behind, sorts_are_exchanged_all}
use Rattle.sap_macro.proofs.OtherDefinitions.{agree_after, closed_of, of_names}
use Rattle.sap_macro.proofs.Resolving.{expanded_agree}

-- ---- scopes go by names

over_names : (scope : List (List ℕ)) (vs : List Var) → ((x : List ℕ) → is_known (var_names vs) x ≡ true → is_known scope x ≡ true) → IsOverScope scope vs
over_names scope [] h = tt
over_names scope (v ∷ vs) h = (h v.name (in_head v.name (var_names vs)), over_names scope vs (λ x k. h x (in_tail x v.name (var_names vs) k)))

over_same : (scope : List (List ℕ)) (vs ws : List Var) → var_names ws ≡ var_names vs → IsOverScope scope vs → IsOverScope scope ws
over_same scope vs ws e h = over_names scope ws (λ x k. known_of vs scope x h (subst (λ ns. is_known ns x ≡ true) e k))

module _ (Z : List Var) where
  used_kept : (a : Action) → var_names (used_vars (binding_fresh (action_instance (by_binder Z) a))) ≡ var_names (used_vars a)
  used_kept (new x) = refl
  used_kept (out t) = names_kept Z t
  used_kept (send t u) =
      names_joined (tree_vars (instance (by_binder Z) t)) (tree_vars (instance (by_binder Z) u)) ∙ ap₂ (λ (xs ys : List (List ℕ)). xs ++ ys) (names_kept Z t) (names_kept Z u)
      ∙ sym (names_joined (tree_vars t) (tree_vars u))
  used_kept (input t) = refl
  used_kept (receive t u) = names_kept Z t
  used_kept (event f) = args_kept Z f.args
  used_kept (insert t u) =
      names_joined (tree_vars (instance (by_binder Z) t)) (tree_vars (instance (by_binder Z) u)) ∙ ap₂ (λ (xs ys : List (List ℕ)). xs ++ ys) (names_kept Z t) (names_kept Z u)
      ∙ sym (names_joined (tree_vars t) (tree_vars u))
  used_kept (delete t) = names_kept Z t
  used_kept (lock t n) = names_kept Z t
  used_kept (unlock t n) = names_kept Z t
  used_kept (embedded l e r) = refl

  new_kept : (scope : List (List ℕ)) (a : Action) → BindsNew scope a → BindsNew scope (binding_fresh (action_instance (by_binder Z) a))
  new_kept scope (new x) h = h
  new_kept scope (out t) h = tt
  new_kept scope (send t u) h = tt
  new_kept scope (input t) h = tt
  new_kept scope (receive t u) h = tt
  new_kept scope (event f) h = tt
  new_kept scope (insert t u) h = tt
  new_kept scope (delete t) h = tt
  new_kept scope (lock t n) h = tt
  new_kept scope (unlock t n) h = tt
  new_kept scope (embedded l e r) h = tt

pub closed_kept : (scope : List (List ℕ)) (Z : List Var) (p : Written) → IsClosed scope p → IsClosed scope (sorted Z p)
closed_kept scope Z nil h = tt
closed_kept scope Z (call f ts) h = over_same scope (trees_vars (trees_of ts)) (trees_vars (trees_of (map (instance (by_binder Z)) ts))) (args_kept Z ts) h
closed_kept scope Z (parallel p q) h = (closed_kept scope Z p h.0, closed_kept scope Z q h.1)
closed_kept scope Z (replicated p) h = closed_kept scope Z p h
closed_kept scope Z (act a p) h =
    let wide = Z ++ sites.bound_by Z a in (
      over_same scope (used_vars a) (used_vars (binding_fresh (action_instance (by_binder wide) a))) (used_kept wide a) h.0,
      (new_kept wide scope a h.1.0, subst (λ k. IsClosed k (sorted wide p)) (sym (same_behind scope wide a)) (closed_kept (behind scope a) wide p h.1.1)),
    )
closed_kept scope Z (test t u p q) h = (
  over_same scope (tree_vars t) (tree_vars (instance (by_binder Z) t)) (names_kept Z t) h.0,
  (over_same scope (tree_vars u) (tree_vars (instance (by_binder Z) u)) (names_kept Z u) h.1.0, (closed_kept scope Z p h.1.1.0, closed_kept scope Z q h.1.1.1)),
)
closed_kept scope Z (lookup t x p q) h = (
  over_same scope (tree_vars t) (tree_vars (instance (by_binder Z) t)) (names_kept Z t) h.0,
  (h.1.0, (closed_kept (x.name ∷ scope) (Z ++ message_var x ∷ []) p h.1.1.0, closed_kept scope Z q h.1.1.1)),
)

pub uses_kept : (names : List (List ℕ)) (Z : List Var) (p : Written) → UsesOnly names p → UsesOnly names (sorted Z p)
uses_kept names Z nil h = tt
uses_kept names Z (call f ts) h = h
uses_kept names Z (parallel p q) h = (uses_kept names Z p h.0, uses_kept names Z q h.1)
uses_kept names Z (replicated p) h = uses_kept names Z p h
uses_kept names Z (act a p) h = uses_kept names (Z ++ sites.bound_by Z a) p h
uses_kept names Z (test t u p q) h = (uses_kept names Z p h.0, uses_kept names Z q h.1)
uses_kept names Z (lookup t x p q) h = (uses_kept names (Z ++ message_var x ∷ []) p h.0, uses_kept names Z q h.1)

pub taken_kept : (taken scope : List (List ℕ)) (Z : List Var) (p : Written) → AreTaken taken scope p → AreTaken taken scope (sorted Z p)
taken_kept taken scope Z p h = record { holds = λ x k. h.holds x (subst (λ ns. is_known ns x ≡ true) (binders_kept scope Z p) k) }

pub definitions_kept : (names : List (List ℕ)) (ds : List Definition) → AreClosedAmong names ds → AreClosedAmong names (map sorted_definition ds)
definitions_kept names [] h = tt
definitions_kept names (d ∷ ds) h =
    (λ k. let one = h.0 k in (closed_kept d.params (params_of d) d.body one.0, uses_kept names (params_of d) d.body one.1), definitions_kept names ds h.1)

pub order_kept : (names : List (List ℕ)) (ds : List Definition) → AreInOrder names ds → AreInOrder names (map sorted_definition ds)
order_kept names [] h = tt
order_kept names (d ∷ ds) h = (h.0, (uses_kept names (params_of d) d.body h.1.0, order_kept (d.name ∷ names) ds h.1.1))

pub names_stay : (ds : List Definition) → defined (map sorted_definition ds) ≡ defined ds
names_stay [] = refl
names_stay (d ∷ ds) = ap (λ (ns : List (List ℕ)). d.name ∷ ns) (names_stay ds)

-- ---- where only definitions are closed that are used

same_ones : (names : List (List ℕ)) (ds : List Definition) → of_names names (map sorted_definition ds) ≡ map sorted_definition (of_names names ds)
same_ones names [] = refl
same_ones names (d ∷ ds) =
    ap (λ es. if is_known names d.name then (sorted_definition d ∷ es) else es) (same_ones names ds) ∙ through (is_known names d.name) (of_names names ds)
  where
    through : (b : Bool) (es : List Definition)
        → (if b then (sorted_definition d ∷ map sorted_definition es) else map sorted_definition es) ≡ map sorted_definition (if b then (d ∷ es) else es)
    through true es = refl
    through false es = refl

pub sorts_are_exchanged : (names : List (List ℕ)) (ds : List Definition) (p : Written) (taken : List (List ℕ)) → AreClosedAmong names ds → UsesOnly names p → IsClosed [] p
    → AreTaken taken [] p → with_sorts [] (expanded (meaning_of ds) unchanged same_name p taken).process
    ≡ (expanded (meaning_of (map sorted_definition ds)) unchanged same_name (sorted [] p) taken).process
sorts_are_exchanged names ds p taken all uses closed h =
    let es = of_names names ds in
    let fs = map sorted_definition ds in
    let agree = agree_after ds names no_meaning no_meaning all (λ f xs z i. refl) in
    let agree_too = agree_after fs names no_meaning no_meaning (definitions_kept names ds all) (λ f xs z i. refl) in
    let left = expanded_agree names p (meaning_of ds) (meaning_of es) uses agree unchanged same_name taken in
    let right = expanded_agree names (sorted [] p) (meaning_of fs) (meaning_of (of_names names fs)) (uses_kept names [] p uses) agree_too unchanged same_name taken in
    ap (λ (e : Expanded). with_sorts [] e.process) left
    ∙ sorts_are_exchanged_all es p taken (closed_of names ds all) closed h.holds
    ∙ sym (ap (λ (e : Expanded). e.process) right ∙ ap (λ z. (expanded (meaning_of z) unchanged same_name (sorted [] p) taken).process) (same_ones names ds))
