-- In an annotated process labels are numbers of the machine, and a lookup binds a plain variable.
use Rattle.std.proofs.Common.{◌≡◌, ◌<◌, ◌^◌, ◌+◌, ℕ, List, [], ◌∷◌, ◌++◌, refl, sym, ap, subst, ◌∙◌, arith}
use Rattle.sap_terms.specs.Signature.{Sig}
use Rattle.sap_terms.specs.declared.var.Var.{Var}
use Rattle.sap_process.specs.Action as action
use Rattle.sap_process.specs.Proc as whole
use Rattle.sap_process.specs.Proc.{Proc, act, node_count}
use Rattle.sap_process.specs.Ready.{IsReady}
use Rattle.sap_process.specs.Sites.{bound_by, message_var}
use Rattle.sap_process.specs.Sorted.{with_sorts}
use Rattle.sap_locks.specs.Annotation as annotation
use Rattle.sap_locks.specs.Annotation.{IsAnnotation}
use Rattle.sap_locks.specs.Ways.{IsLockOf, LockMark, lock_count, lock_sites_from, locked, unlocked}
use Rattle.sap_translate.specs.relation.Labels.{IsRelabelled, labelled}
use Rattle.sap_translate.proofs.Terms.Derive.{contains, member}
use Rattle.sap_translate.specs.Members.{Member}
use Rattle.sap_translate.proofs.Premises.Annotations.{At, Below, annotation_is, below_lock, below_more, below_same, below_unlock, count_below, in_first, in_rest, in_second, same_nodes}
use Rattle.sap_translate.proofs.Premises.Sound.{sorts_labelled}
use Rattle.sap_translate.specs.Settled.{HasSmallLabels, HasPlainLookups}

-- labels

small_labels : (p : Proc) (path : List ℕ) (way : List LockMark) (k : ℕ) → Below (k + 1) way → At annotation.IsLabelled path way k p → k + lock_count p < 2 ^ 64 → HasSmallLabels p
small_labels whole.nil path way k d h s = tt
small_labels (whole.parallel p q) path way k d h s = (
  small_labels p (path ++ 1 ∷ []) way k d (in_first annotation.IsLabelled _ _ _ h) (omega (arith, s)),
  small_labels q (path ++ 2 ∷ []) way (k + lock_count p) (below_more way k (lock_count p) d) (in_second annotation.IsLabelled _ (lock_sites_from (path ++ 1 ∷ []) way k p) _ h) (omega (arith, s)),
)
small_labels (whole.replicated p) path way k d h s = small_labels p (path ++ 1 ∷ []) way k d (in_rest annotation.IsLabelled _ _ h) s
small_labels (act (action.lock t l) p) path way k d h s =
    let e : l ≡ k + 1 = (h _ Member.here).0 t l refl in (
      omega (arith, e, s),
      small_labels p (path ++ 1 ∷ []) (locked (k + 1) t ∷ way) (k + 1) (below_lock way k t d) (in_rest annotation.IsLabelled _ _ h) (omega (arith, s)),
    )
small_labels (act (action.unlock t l) p) path way k d h s =
    let own : IsLockOf way l t = (h _ Member.here).1 t l refl in
    let less : l < k + 1 = d l t (member (locked l t) way own.stands) in (
      omega (arith, less, s),
      small_labels p (path ++ 1 ∷ []) (unlocked t ∷ way) (k + 0) (below_unlock way (k + 0 + 1) t (below_same way k d)) (in_rest annotation.IsLabelled _ _ h) (omega (arith, s)),
    )
small_labels (act (action.new x) p) path way k d h s = (tt, small_labels p (path ++ 1 ∷ []) way (k + 0) (below_same way k d) (in_rest annotation.IsLabelled _ _ h) (omega (arith, s)))
small_labels (act (action.out t) p) path way k d h s = (tt, small_labels p (path ++ 1 ∷ []) way (k + 0) (below_same way k d) (in_rest annotation.IsLabelled _ _ h) (omega (arith, s)))
small_labels (act (action.send t u) p) path way k d h s = (tt, small_labels p (path ++ 1 ∷ []) way (k + 0) (below_same way k d) (in_rest annotation.IsLabelled _ _ h) (omega (arith, s)))
small_labels (act (action.input t) p) path way k d h s = (tt, small_labels p (path ++ 1 ∷ []) way (k + 0) (below_same way k d) (in_rest annotation.IsLabelled _ _ h) (omega (arith, s)))
small_labels (act (action.receive t u) p) path way k d h s = (tt, small_labels p (path ++ 1 ∷ []) way (k + 0) (below_same way k d) (in_rest annotation.IsLabelled _ _ h) (omega (arith, s)))
small_labels (act (action.event f) p) path way k d h s = (tt, small_labels p (path ++ 1 ∷ []) way (k + 0) (below_same way k d) (in_rest annotation.IsLabelled _ _ h) (omega (arith, s)))
small_labels (act (action.insert t u) p) path way k d h s = (tt, small_labels p (path ++ 1 ∷ []) way (k + 0) (below_same way k d) (in_rest annotation.IsLabelled _ _ h) (omega (arith, s)))
small_labels (act (action.delete t) p) path way k d h s = (tt, small_labels p (path ++ 1 ∷ []) way (k + 0) (below_same way k d) (in_rest annotation.IsLabelled _ _ h) (omega (arith, s)))
small_labels (act (action.embedded l e r) p) path way k d h s = (tt, small_labels p (path ++ 1 ∷ []) way (k + 0) (below_same way k d) (in_rest annotation.IsLabelled _ _ h) (omega (arith, s)))
small_labels (whole.test t u p q) path way k d h s = (
  small_labels p (path ++ 1 ∷ []) way k d (in_first annotation.IsLabelled _ _ _ h) (omega (arith, s)),
  small_labels q (path ++ 2 ∷ []) way (k + lock_count p) (below_more way k (lock_count p) d) (in_second annotation.IsLabelled _ (lock_sites_from (path ++ 1 ∷ []) way k p) _ h) (omega (arith, s)),
)
small_labels (whole.lookup t x p q) path way k d h s = (
  small_labels p (path ++ 1 ∷ []) way k d (in_first annotation.IsLabelled _ _ _ h) (omega (arith, s)),
  small_labels q (path ++ 2 ∷ []) way (k + lock_count p) (below_more way k (lock_count p) d) (in_second annotation.IsLabelled _ (lock_sites_from (path ++ 1 ∷ []) way k p) _ h) (omega (arith, s)),
)

pub annotation_small : (p q : Proc) → node_count p < 2 ^ 64 → IsAnnotation p q → HasSmallLabels q
annotation_small p q small h =
    let nodes : node_count q ≡ node_count p = sym (same_nodes q) ∙ ap node_count h.same ∙ same_nodes p in
    let few : lock_count q < node_count q = count_below q in
    small_labels q [] [] 0 (λ n t m. elim m [ ]) (λ u m. h.annotated.labelled u (contains m)) (omega (arith, nodes, few, small))

-- lookups

sorted_plain : (v : List Var) (p : Proc) → HasPlainLookups (with_sorts v p)
sorted_plain v whole.nil = tt
sorted_plain v (whole.parallel p q) = (sorted_plain v p, sorted_plain v q)
sorted_plain v (whole.replicated p) = sorted_plain v p
sorted_plain v (act a p) = sorted_plain (v ++ bound_by v a) p
sorted_plain v (whole.test t u p q) = (sorted_plain v p, sorted_plain v q)
sorted_plain v (whole.lookup t x p q) = (refl, sorted_plain (v ++ message_var x ∷ []) p, sorted_plain v q)

relabelled_plain : (p q : Proc) → IsRelabelled (with_sorts [] p) q → HasPlainLookups q
relabelled_plain p q l = subst HasPlainLookups (sorts_labelled l.label [] [] p ∙ sym l.is) (sorted_plain [] (labelled l.label [] p))

pub annotation_plain : (g : Sig) (p q : Proc) → IsReady g p → IsAnnotation p q → HasPlainLookups q
annotation_plain g p q ready h = relabelled_plain p q (annotation_is (with_sorts [] p) q (subst (λ r. IsAnnotation r q) (sym ready.sorted) h))
