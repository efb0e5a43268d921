-- Sorts of binders and labels of locks change no public name.
use Rattle.std.proofs.Common.{List, [], ◌∷◌, ◌++◌, Option, Some, None, sym, subst}
use Rattle.std.specs.Option.{option_map_or}
use Rattle.sap_terms.specs.Choice.{Choice}
use Rattle.sap_terms.specs.Tree.{variable}
use Rattle.sap_terms.specs.declared.var.Var.{Var}
use Rattle.sap_process.specs.Action.{Action, new, out, send, input, receive, event, insert, delete, lock, unlock, embedded}
use Rattle.sap_process.specs.Flaws.{binder_of}
use Rattle.sap_process.specs.Instance.{action_instance}
use Rattle.sap_process.specs.Proc.{Proc, nil, parallel, replicated, act, test, lookup}
use Rattle.sap_process.specs.Sites.{bound_by, message_var}
use Rattle.sap_process.specs.Sorted.{by_binder, binding_fresh, with_sorts}
use Rattle.sap_locks.specs.Annotation.{IsAnnotation, unlabelled, unlabelled_action}
use Rattle.sap_read.specs.Occurring.{OfNames, Any, NamesAre, ActionNamesAre, ProcessNamesAre}
use Rattle.sap_read.proofs.OccurringMeaning.{PutsNames, instance_names, fact_names, facts_names}

module _ (M : OfNames) where
  puts_any : (scope : List Var) → PutsNames Any Any M (by_binder scope)
  puts_any scope v h = by (binder_of scope v.name) where
    by : (o : Option Var) → NamesAre Any M (option_map_or (λ (b : Var). variable (record { name = v.name; sort = b.sort })) o (variable v))
    by None = tt
    by (Some b) = tt

  module _ (σ : Choice) (puts : PutsNames Any Any M σ) where
    action_sorted : (a : Action) → ActionNamesAre Any M a → ActionNamesAre Any M (binding_fresh (action_instance σ a))
    action_sorted (new x) h = tt
    action_sorted (out t) h = instance_names Any Any M σ puts t h
    action_sorted (send t u) h = (instance_names Any Any M σ puts t h.0, instance_names Any Any M σ puts u h.1)
    action_sorted (input t) h = instance_names Any Any M σ puts t h
    action_sorted (receive t u) h = (instance_names Any Any M σ puts t h.0, instance_names Any Any M σ puts u h.1)
    action_sorted (event f) h = fact_names Any Any M σ puts f h
    action_sorted (insert t u) h = (instance_names Any Any M σ puts t h.0, instance_names Any Any M σ puts u h.1)
    action_sorted (delete t) h = instance_names Any Any M σ puts t h
    action_sorted (lock t n) h = instance_names Any Any M σ puts t h
    action_sorted (unlock t n) h = instance_names Any Any M σ puts t h
    action_sorted (embedded l e r) h = (facts_names Any Any M σ puts l h.0, facts_names Any Any M σ puts e h.1, facts_names Any Any M σ puts r h.2)

  pub sorted_names : (p : Proc) (scope : List Var) → ProcessNamesAre Any M p → ProcessNamesAre Any M (with_sorts scope p)
  sorted_names nil scope h = tt
  sorted_names (parallel p q) scope h = (sorted_names p scope h.0, sorted_names q scope h.1)
  sorted_names (replicated p) scope h = sorted_names p scope h
  sorted_names (act a p) scope h =
      let inner = scope ++ bound_by scope a in (action_sorted (by_binder inner) (puts_any inner) a h.0, sorted_names p inner h.1)
  sorted_names (test t u p q) scope h = (
    instance_names Any Any M (by_binder scope) (puts_any scope) t h.0,
    instance_names Any Any M (by_binder scope) (puts_any scope) u h.1,
    sorted_names p scope h.2,
    sorted_names q scope h.3,
  )
  sorted_names (lookup t x p q) scope h = (
    instance_names Any Any M (by_binder scope) (puts_any scope) t h.0,
    tt,
    sorted_names p (scope ++ message_var x ∷ []) h.2,
    sorted_names q scope h.3,
  )

  without : (a : Action) → ActionNamesAre Any M a → ActionNamesAre Any M (unlabelled_action a)
  without (new x) h = h
  without (out t) h = h
  without (send t u) h = h
  without (input t) h = h
  without (receive t u) h = h
  without (event f) h = h
  without (insert t u) h = h
  without (delete t) h = h
  without (lock t n) h = h
  without (unlock t n) h = h
  without (embedded l e r) h = h

  with_label : (a : Action) → ActionNamesAre Any M (unlabelled_action a) → ActionNamesAre Any M a
  with_label (new x) h = h
  with_label (out t) h = h
  with_label (send t u) h = h
  with_label (input t) h = h
  with_label (receive t u) h = h
  with_label (event f) h = h
  with_label (insert t u) h = h
  with_label (delete t) h = h
  with_label (lock t n) h = h
  with_label (unlock t n) h = h
  with_label (embedded l e r) h = h

  all_without : (p : Proc) → ProcessNamesAre Any M p → ProcessNamesAre Any M (unlabelled p)
  all_without nil h = tt
  all_without (parallel p q) h = (all_without p h.0, all_without q h.1)
  all_without (replicated p) h = all_without p h
  all_without (act a p) h = (without a h.0, all_without p h.1)
  all_without (test t u p q) h = (h.0, h.1, all_without p h.2, all_without q h.3)
  all_without (lookup t x p q) h = (h.0, h.1, all_without p h.2, all_without q h.3)

  with_labels : (p : Proc) → ProcessNamesAre Any M (unlabelled p) → ProcessNamesAre Any M p
  with_labels nil h = tt
  with_labels (parallel p q) h = (with_labels p h.0, with_labels q h.1)
  with_labels (replicated p) h = with_labels p h
  with_labels (act a p) h = (with_label a h.0, with_labels p h.1)
  with_labels (test t u p q) h = (h.0, h.1, with_labels p h.2, with_labels q h.3)
  with_labels (lookup t x p q) h = (h.0, h.1, with_labels p h.2, with_labels q h.3)

  pub annotated_names : (p q : Proc) → IsAnnotation p q → ProcessNamesAre Any M p → ProcessNamesAre Any M q
  annotated_names p q a h = with_labels q (subst (ProcessNamesAre Any M) (sym a.same) (all_without p h))
