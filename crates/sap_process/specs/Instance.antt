-- Instances of processes: variables replaced by what they stand for.
use Rattle.std.specs.Prelude.{List, [], ◌∷◌, ◌++◌, if◌then◌else◌}
use Rattle.std.specs.Str.{bytes_eq}
use Rattle.sap_terms.specs.Choice.{Choice, instance}
use Rattle.sap_terms.specs.Modulo.{instance_fact, instance_facts}
use Rattle.sap_terms.specs.Tree.{variable}
use Rattle.sap_terms.specs.declared.var.Var.{Var}
use Rattle.sap_process.specs.Action.{Action, new, out, send, input, receive, event, insert, delete, lock, unlock, embedded}
use Rattle.sap_process.specs.Heads.{terms_vars, action_terms}
use Rattle.sap_process.specs.Proc.{Proc, nil, parallel, replicated, act, test, lookup}

-- the action with each variable of its terms replaced
abbrev pub action_instance : Choice → Action → Action
action_instance σ (new x) = new x
action_instance σ (out t) = out (instance σ t)
action_instance σ (send t u) = send (instance σ t) (instance σ u)
action_instance σ (input t) = input (instance σ t)
action_instance σ (receive t u) = receive (instance σ t) (instance σ u)
action_instance σ (event f) = event (instance_fact σ f)
action_instance σ (insert t u) = insert (instance σ t) (instance σ u)
action_instance σ (delete t) = delete (instance σ t)
action_instance σ (lock t n) = lock (instance σ t) n
action_instance σ (unlock t n) = unlock (instance σ t) n
action_instance σ (embedded l e r) =
    embedded (instance_facts σ l) (instance_facts σ e) (instance_facts σ r)

-- the choice that leaves the variables of this name as they are
abbrev pub without : Choice → Var → Choice
without σ x v = if bytes_eq x.name v.name then variable v else σ v

-- the choice behind an action: `new` binds its name again
abbrev pub behind : Choice → Action → Choice
behind σ (new x) = without σ x
behind σ _ = σ

-- The process with each variable replaced, in patterns too, since what is replaced counts as in scope. A variable is kept
-- where `new` or `lookup` binds its name again: below the first, and in the first branch of the second.
abbrev pub process_instance : Choice → Proc → Proc
process_instance σ nil = nil
process_instance σ (parallel p q) = parallel (process_instance σ p) (process_instance σ q)
process_instance σ (replicated p) = replicated (process_instance σ p)
process_instance σ (act a p) = act (action_instance σ a) (process_instance (behind σ a) p)
process_instance σ (test t u p q) =
    test (instance σ t) (instance σ u) (process_instance σ p) (process_instance σ q)
process_instance σ (lookup t x p q) =
    lookup (instance σ t) x (process_instance (without σ x) p) (process_instance σ q)

-- each occurrence of a variable in the terms of the process
abbrev pub process_vars : Proc → List Var
process_vars nil = []
process_vars (parallel p q) = process_vars p ++ process_vars q
process_vars (replicated p) = process_vars p
process_vars (act a p) = terms_vars (action_terms a) ++ process_vars p
process_vars (test t u p q) = terms_vars (t ∷ u ∷ []) ++ (process_vars p ++ process_vars q)
process_vars (lookup t x p q) = terms_vars (t ∷ []) ++ (process_vars p ++ process_vars q)
