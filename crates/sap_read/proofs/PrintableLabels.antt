-- Labels of locks aren't printed, and change no number of levels.
use Rattle.std.proofs.Common.{◌≡◌, ℕ, refl, sym, ap, subst, ◌∙◌}
use Rattle.sap_terms.specs.Signature.{Sig}
use Rattle.sap_process.specs.Action.{Action, new, out, send, input, receive, event, insert, delete, lock, unlock, embedded}
use Rattle.sap_process.specs.Proc.{Proc, nil, parallel, replicated, act, test, lookup, level_count}
use Rattle.sap_locks.specs.Annotation.{IsAnnotation, unlabelled, unlabelled_action}
use Rattle.sap_draft.specs.Printable.{IsPrintableAction}
use Rattle.sap_read.specs.Printable.{IsPrintableProcess}

module _ (most : ℕ) (g : Sig) where
  without : (a : Action) → IsPrintableAction most g a → IsPrintableAction most g (unlabelled_action a)
  without (new x) h = h
  without (out t) h = h
  without (send t u) h = h
  without (input t) h = h
  without (receive t u) h = h
  without (event f) h = h
  without (insert t u) h = h
  without (delete t) h = h
  without (lock t n) h = h
  without (unlock t n) h = h
  without (embedded l e r) h = h

  with_label : (a : Action) → IsPrintableAction most g (unlabelled_action a) → IsPrintableAction most g a
  with_label (new x) h = h
  with_label (out t) h = h
  with_label (send t u) h = h
  with_label (input t) h = h
  with_label (receive t u) h = h
  with_label (event f) h = h
  with_label (insert t u) h = h
  with_label (delete t) h = h
  with_label (lock t n) h = h
  with_label (unlock t n) h = h
  with_label (embedded l e r) h = h

  all_without : (p : Proc) → IsPrintableProcess most g p → IsPrintableProcess most g (unlabelled p)
  all_without nil h = tt
  all_without (parallel p q) h = (all_without p h.0, all_without q h.1)
  all_without (replicated p) h = all_without p h
  all_without (act a p) h = (without a h.0, all_without p h.1)
  all_without (test t u p q) h = (h.0, h.1, all_without p h.2, all_without q h.3)
  all_without (lookup t x p q) h = (h.0, h.1, all_without p h.2, all_without q h.3)

  with_labels : (p : Proc) → IsPrintableProcess most g (unlabelled p) → IsPrintableProcess most g p
  with_labels nil h = tt
  with_labels (parallel p q) h = (with_labels p h.0, with_labels q h.1)
  with_labels (replicated p) h = with_labels p h
  with_labels (act a p) h = (with_label a h.0, with_labels p h.1)
  with_labels (test t u p q) h = (h.0, h.1, with_labels p h.2, with_labels q h.3)
  with_labels (lookup t x p q) h = (h.0, h.1, with_labels p h.2, with_labels q h.3)

  -- the annotation of a process that can be printed can be
  pub annotated_printable : (p q : Proc) → IsAnnotation p q → IsPrintableProcess most g p → IsPrintableProcess most g q
  annotated_printable p q a h = with_labels q (subst (IsPrintableProcess most g) (sym a.same) (all_without p h))

labels_keep_levels : (p : Proc) → level_count (unlabelled p) ≡ level_count p
labels_keep_levels nil = refl
labels_keep_levels (parallel p q) = rw (labels_keep_levels p, labels_keep_levels q) refl
labels_keep_levels (replicated p) = rw (labels_keep_levels p) refl
labels_keep_levels (act a p) = rw (labels_keep_levels p) refl
labels_keep_levels (test t u p q) = rw (labels_keep_levels p, labels_keep_levels q) refl
labels_keep_levels (lookup t x p q) = rw (labels_keep_levels p, labels_keep_levels q) refl

-- and has as many levels
pub annotated_levels : (p q : Proc) → IsAnnotation p q → level_count q ≡ level_count p
annotated_levels p q a = sym (labels_keep_levels q) ∙ (ap level_count a.same ∙ labels_keep_levels p)
