-- Processes run as they are written: a use runs as its definition's instance.
use Rattle.std.specs.Prelude.{◌≡◌, ℕ, List, [], ◌∷◌, ◌++◌, Option, Some, Contains, map, slice_get}
use Rattle.sap_terms.specs.Choice.{instance}
use Rattle.sap_terms.specs.Signature.{Sig}
use Rattle.sap_terms.specs.Trace.{Trace}
use Rattle.sap_terms.specs.Tree.{Tree, trees_of}
use Rattle.sap_terms.specs.declared.var.Var.{Var}
use Rattle.sap_terms.specs.Variables.{trees_vars}
use Rattle.sap_terms.specs.declared.var.Sort.TheVariants.{Msg}
use Rattle.sap_process.specs.Configuration.{ConfigOf, initial}
use Rattle.sap_process.specs.Head as head
use Rattle.sap_process.specs.Head.{Head, Kind}
use Rattle.sap_process.specs.Instance.{action_instance}
use Rattle.sap_process.specs.ProcessSteps.{ProcessRun}
use Rattle.sap_process.specs.Sites.{bound_by, message_var}
use Rattle.sap_process.specs.Sorted.{binding_fresh, by_binder}
use Rattle.sap_macro.specs.Expansion.{behind, plain, plain_bodies}
use Rattle.sap_macro.specs.Instances.{IsOverScope, instance_by, written_instance}
use Rattle.sap_macro.specs.UpToNames.{named}
use Rattle.sap_macro.specs.Written.{Written, nil, call, parallel, replicated, act, test, lookup, Definition}

-- what is written, of this head
abbrev pub written_of : Head Written → Written
written_of head.nil = nil
written_of (head.parallel p q) = parallel p q
written_of (head.replicated p) = replicated p
written_of (head.act a p) = act a p
written_of (head.test t u p q) = test t u p q
written_of (head.lookup t x p q) = lookup t x p q

-- what stands at the head: its own form; of a use, what stands at the head of the definition's instance by the arguments
pub data StartsWith (ds : List Definition) : Written → Head Written → Type 0 where
  itself : (h : Head Written) → StartsWith ds (written_of h) h
  use_of : (d : Definition) {ts : List Tree} {h : Head Written} → Contains ds d
      → StartsWith ds (instance_by d ts) h → StartsWith ds (call d.name ts) h

-- thread t has this head
pub record StandsAs (ds : List Definition) (os : List (Option Written)) (t : ℕ) (h : Head Written)
    : Type 0 where
  pub process : Written
  pub runs : slice_get os t ≡ Some (Some process)
  pub head : StartsWith ds process h

-- processes as they are written, behind these definitions
abbrev pub writing : List Definition → Kind Written
writing ds = record { stands = StandsAs ds; replaced = written_instance }

-- some run of the process as it is written has this trace
abbrev pub IsWrittenTrace : Sig → List Definition → Written → Trace → Type 0
IsWrittenTrace g ds p tr = (c : ConfigOf (writing ds)) × ProcessRun g (initial p) c tr

-- where these are in scope, what is written with the sorts of its binders
abbrev pub sorted : List Var → Written → Written
sorted scope nil = nil
sorted scope (call f ts) = call f (map (instance (by_binder scope)) ts)
sorted scope (parallel p q) = parallel (sorted scope p) (sorted scope q)
sorted scope (replicated p) = replicated (sorted scope p)
sorted scope (act a p) =
    act (binding_fresh (action_instance (by_binder (scope ++ bound_by scope a)) a))
    (sorted (scope ++ bound_by scope a) p)
sorted scope (test t u p q) =
    test (instance (by_binder scope) t) (instance (by_binder scope) u) (sorted scope p)
    (sorted scope q)
sorted scope (lookup t x p q) =
    lookup (instance (by_binder scope) t) (message_var x)
    (sorted (scope ++ message_var x ∷ []) p) (sorted scope q)

-- parameters are messages
abbrev pub sorted_definition : Definition → Definition
sorted_definition d = record d { body = sorted (map (λ n. named n Msg) d.params) d.body }

-- where these are in scope, each use names nothing else in its arguments
abbrev pub HasArgumentsInScope : List (List ℕ) → Written → Type 0
HasArgumentsInScope scope nil = Unit {0}
HasArgumentsInScope scope (call f ts) = IsOverScope scope (trees_vars (trees_of ts))
HasArgumentsInScope scope (parallel p q) = HasArgumentsInScope scope p × HasArgumentsInScope scope q
HasArgumentsInScope scope (replicated p) = HasArgumentsInScope scope p
HasArgumentsInScope scope (act a p) = HasArgumentsInScope (behind scope a) p
HasArgumentsInScope scope (test t u p q) = HasArgumentsInScope scope p × HasArgumentsInScope scope q
HasArgumentsInScope scope (lookup t x p q) =
    HasArgumentsInScope (x.name ∷ scope) p × HasArgumentsInScope scope q

-- some run of a file's process, as it is written and with the sorts of its binders, has this trace: names without parameters are
-- replaced before anything runs, and the body of each definition has its sorts where its parameters are messages
abbrev pub IsFileTrace : Sig → List Definition → Written → Trace → Type 0
IsFileTrace g ds p tr =
    IsWrittenTrace g (map sorted_definition (plain_bodies call ds)) (sorted [] (plain ds p)) tr
