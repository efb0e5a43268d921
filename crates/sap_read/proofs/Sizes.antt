-- How large a process may be that nothing refuses.
use Rattle.std.proofs.Common.{◌≡◌, ◌≤◌, ◌<◌, ◌^◌, List, [], ◌∷◌, ◌++◌, refl, arith}
use Rattle.sap_terms.specs.declared.limits.TheConstants.{MOST_PROCESS_PLACES}
use Rattle.sap_terms.specs.declared.var.Var.{Var}
use Rattle.sap_process.specs.Proc.{Proc, nil, parallel, replicated, act, test, lookup, node_count, level_count}
use Rattle.sap_process.specs.Sites.{bound_by, message_var}
use Rattle.sap_process.specs.Sorted.{with_sorts}

-- sorts change no number of places
pub sorts_keep_size : (p : Proc) (scope : List Var) → node_count (with_sorts scope p) ≡ node_count p
sorts_keep_size nil scope = refl
sorts_keep_size (parallel p q) scope = rw (sorts_keep_size p scope, sorts_keep_size q scope) refl
sorts_keep_size (replicated p) scope = rw (sorts_keep_size p scope) refl
sorts_keep_size (act a p) scope = rw (sorts_keep_size p (scope ++ bound_by scope a)) refl
sorts_keep_size (test t u p q) scope = rw (sorts_keep_size p scope, sorts_keep_size q scope) refl
sorts_keep_size (lookup t x p q) scope = rw (sorts_keep_size p (scope ++ message_var x ∷ []), sorts_keep_size q scope) refl

-- nor of levels
pub sorts_keep_levels : (p : Proc) (scope : List Var) → level_count (with_sorts scope p) ≡ level_count p
sorts_keep_levels nil scope = refl
sorts_keep_levels (parallel p q) scope = rw (sorts_keep_levels p scope, sorts_keep_levels q scope) refl
sorts_keep_levels (replicated p) scope = rw (sorts_keep_levels p scope) refl
sorts_keep_levels (act a p) scope = rw (sorts_keep_levels p (scope ++ bound_by scope a)) refl
sorts_keep_levels (test t u p q) scope = rw (sorts_keep_levels p scope, sorts_keep_levels q scope) refl
sorts_keep_levels (lookup t x p q) scope = rw (sorts_keep_levels p (scope ++ message_var x ∷ []), sorts_keep_levels q scope) refl

-- a process with sorts is small where it was small without them
pub small_sorted : (p q : Proc) → q ≡ with_sorts [] p → node_count p ≤ MOST_PROCESS_PLACES → node_count q < 2 ^ 32
small_sorted p q e le = rw e (rw (sorts_keep_size p []) (omega (arith, le)))
