-- Whether a process is sorted doesn't turn on labels.
use Rattle.std.proofs.Common.{◌≡◌, List, [], ◌∷◌, ◌++◌, refl, sym, ap, ◌∙◌}
use Rattle.sap_terms.specs.Choice.{instance}
use Rattle.sap_terms.specs.Signature.{Sig}
use Rattle.sap_terms.specs.Tree.{Tree}
use Rattle.sap_terms.specs.declared.var.Var.{Var}
use Rattle.sap_process.specs.Action.{Action, lock, unlock}
use Rattle.sap_process.specs.Instance.{action_instance}
use Rattle.sap_process.specs.Proc.{Proc, nil, parallel, replicated, act, test, lookup}
use Rattle.sap_process.specs.Ready.{IsReady}
use Rattle.sap_process.specs.Sites.{bound_by, message_var}
use Rattle.sap_process.specs.Sorted.{by_binder, binding_fresh, with_sorts}
use Rattle.sap_locks.specs.Annotation.{IsAnnotation, unlabelled, unlabelled_action}
use Rattle.sap_locks.proofs.SameFlaws.{well_formed_same, bare_bound}

-- the action once sorted, where these are in scope behind it
abbrev sorted_action : List Var → Action → Action
sorted_action w a = binding_fresh (action_instance (by_binder w) a)

bare_sorted : (w : List Var) (a : Action) → sorted_action w (unlabelled_action a) ≡ unlabelled_action (sorted_action w a)
bare_sorted w (lock t l) = refl
bare_sorted w (unlock t l) = refl
bare_sorted w a = refl

-- a process is sorted and then has no labels, or the other way round
sorts_bare : (v : List Var) (p : Proc) → with_sorts v (unlabelled p) ≡ unlabelled (with_sorts v p)
sorts_bare v nil = refl
sorts_bare v (parallel p q) = λ i. parallel (sorts_bare v p i) (sorts_bare v q i)
sorts_bare v (replicated p) = λ i. replicated (sorts_bare v p i)
sorts_bare v (act a p) =
    (λ i. act (sorted_action (v ++ bare_bound v a i) (unlabelled_action a)) (with_sorts (v ++ bare_bound v a i) (unlabelled p)))
    ∙ (λ i. act (bare_sorted (v ++ bound_by v a) a i) (sorts_bare (v ++ bound_by v a) p i))
sorts_bare v (test t u p q) = λ i. test (instance (by_binder v) t) (instance (by_binder v) u) (sorts_bare v p i) (sorts_bare v q i)
sorts_bare v (lookup t x p q) = λ i. lookup (instance (by_binder v) t) (message_var x) (sorts_bare (v ++ message_var x ∷ []) p i) (sorts_bare v q i)

-- an action that is sorted without labels is sorted with them
action_sorted : (w : List Var) (a : Action) → sorted_action w (unlabelled_action a) ≡ unlabelled_action a → sorted_action w a ≡ a
action_sorted w (lock t l) e = ap (λ u. lock u l) (locked_term (instance (by_binder w) t) t e)
  where
    locked_term : (u t : Tree) → lock u 0 ≡ lock t 0 → u ≡ t
    locked_term u t e = cc
action_sorted w (unlock t l) e = ap (λ u. unlock u l) (unlocked_term (instance (by_binder w) t) t e)
  where
    unlocked_term : (u t : Tree) → unlock u 0 ≡ unlock t 0 → u ≡ t
    unlocked_term u t e = cc
action_sorted w a e = e

-- parts of processes that are equal
both_of : (p q r s : Proc) → parallel p q ≡ parallel r s → (p ≡ r) × (q ≡ s)
both_of p q r s e = (cc, cc)

rest_of : (p q : Proc) → replicated p ≡ replicated q → p ≡ q
rest_of p q e = cc

head_of : (a b : Action) (p q : Proc) → act a p ≡ act b q → (a ≡ b) × (p ≡ q)
head_of a b p q e = (cc, cc)

branches_of : (t u x y : Tree) (p q r s : Proc) → test t u p q ≡ test x y r s → (t ≡ x) × (u ≡ y) × (p ≡ r) × (q ≡ s)
branches_of t u x y p q r s e = (cc, cc, cc, cc)

found_of : (t u : Tree) (x y : Var) (p q r s : Proc) → lookup t x p q ≡ lookup u y r s → (t ≡ u) × (x ≡ y) × (p ≡ r) × (q ≡ s)
found_of t u x y p q r s e = (cc, cc, cc, cc)

sorted_of_bare : (v : List Var) (p : Proc) → with_sorts v (unlabelled p) ≡ unlabelled p → with_sorts v p ≡ p
sorted_of_bare v nil e = refl
sorted_of_bare v (parallel p q) e = let r = both_of _ _ _ _ e in λ i. parallel (sorted_of_bare v p r.0 i) (sorted_of_bare v q r.1 i)
sorted_of_bare v (replicated p) e = ap replicated (sorted_of_bare v p (rest_of _ _ e))
sorted_of_bare v (act a p) e =
    let r = head_of _ _ _ _ (sym (ap (λ ns. act (sorted_action (v ++ ns) (unlabelled_action a)) (with_sorts (v ++ ns) (unlabelled p))) (bare_bound v a)) ∙ e) in
    λ i. act (action_sorted (v ++ bound_by v a) a r.0 i) (sorted_of_bare (v ++ bound_by v a) p r.1 i)
sorted_of_bare v (test t u p q) e =
    let r = branches_of _ _ _ _ _ _ _ _ e in
    λ i. test (r.0 i) (r.1 i) (sorted_of_bare v p r.2 i) (sorted_of_bare v q r.3 i)
sorted_of_bare v (lookup t x p q) e =
    let r = found_of _ _ _ _ _ _ _ _ e in
    λ i. lookup (r.0 i) (r.1 i) (sorted_of_bare (v ++ message_var x ∷ []) p r.2 i) (sorted_of_bare v q r.3 i)

sorted_same : (p q : Proc) → unlabelled p ≡ unlabelled q → with_sorts [] p ≡ p → with_sorts [] q ≡ q
sorted_same p q same e = sorted_of_bare [] q (ap (with_sorts []) (sym same) ∙ sorts_bare [] p ∙ ap unlabelled e ∙ same)

pub ready_annotation : (g : Sig) (p q : Proc) → IsReady g p → IsAnnotation p q → IsReady g q
ready_annotation g p q h a = record { well_formed = well_formed_same g p q (sym a.same) h.well_formed; sorted = sorted_same p q (sym a.same) h.sorted }
