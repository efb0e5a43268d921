-- The way to what is the first too many, as the code goes it.
use Rattle.std.specs.Prelude.{ℕ, ◌+◌, ◌-◌, Bool, true, false, not, List, [], ◌∷◌, ◌++◌, length, min, nat_eq, nat_lt, Option, Some, None, if◌then◌else◌}
use Rattle.sap_terms.specs.Tree.{node_count}
use Rattle.sap_terms.specs.declared.limits.TheConstants.{MOST_SCOPE_NAMES}
use Rattle.sap_terms.specs.declared.var.Var.{Var}
use Rattle.sap_process.specs.Action.{Action, new, input, receive, lock, embedded}
use Rattle.sap_process.specs.Proc.{Proc, nil, parallel, replicated, act, test, lookup}
use Rattle.sap_process.specs.Sites.{fresh_var, message_var}
use Rattle.sap_nodes.specs.HeadNodes.{tree_nodes, facts_nodes}
use Rattle.sap_nodes.specs.code.Searches.{most, visited, at_first}
use Rattle.sap_nodes.specs.code.Trails.{met_all}
use Rattle.sap_nodes.specs.declared.finding.Search.{Search}
use Rattle.sap_nodes.specs.declared.full.Spoken.{Spoken}
use Rattle.sap_nodes.specs.declared.part.Part.TheVariants.{Pattern, Shown, Given}
use Rattle.sap_nodes.specs.declared.trail.How.TheVariants.{Last}
use Rattle.sap_nodes.specs.declared.trail.Trail.{Trail}

-- so many nodes stand in front of the first that is met
abbrev pub from_node : ℕ → Search
from_node k = record { at = k; found = false }

-- a binder is met where these are known, and so many may be
abbrev pub binder_met : ℕ → Trail → Var → Trail
binder_met room a v = record { known = a.known ++ v ∷ []; search = visited (nat_eq (length a.known) room) a.search }

-- what an action binds is met
abbrev pub action_bound : ℕ → List Var → Action → Trail
action_bound room known (new x) = binder_met room (record { known = known; search = at_first }) (fresh_var x)
action_bound room known (input t) = met_all (Last room) (record { known = known; search = at_first }) (tree_nodes Pattern t)
action_bound room known (receive t u) =
    met_all (Last room) (record { known = known; search = from_node (min (node_count t) most) }) (tree_nodes Pattern u)
action_bound room known (embedded l e r) =
    met_all (Last room) (met_all (Last room) (record { known = known; search = at_first }) (facts_nodes Pattern l))
    (facts_nodes Shown e ++ facts_nodes Given r)
action_bound room known _ = record { known = known; search = at_first }

-- what a head does for its child of this digit
abbrev pub head_bound : ℕ → List Var → Proc → ℕ → Trail
head_bound room known (act a p) e = action_bound room known a
head_bound room known (lookup t x p q) e =
    if nat_eq e 1
    then binder_met room (record { known = known; search = from_node (min (node_count t) most) }) (message_var x)
    else record { known = known; search = at_first }
head_bound room known _ e = record { known = known; search = at_first }

-- the head is a lock
abbrev pub is_lock_action : Action → Bool
is_lock_action (lock t n) = true
is_lock_action _ = false

abbrev pub is_lock : Proc → Bool
is_lock (act a p) = is_lock_action a
is_lock _ = false

-- so many known are too many, with the lock or without
abbrev pub is_past : Bool → ℕ → ℕ → Bool
is_past locking known room = if locking then not (nat_lt known room) else nat_lt room known

-- what is told of this place, or of those below
abbrev pub settled : Trail → ℕ → Bool → ℕ → Option Spoken → Option Spoken
settled a room locking depth below =
    if a.search.found then Some (record { depth = depth; node = Some a.search.at })
    else if is_past locking (length a.known) room then Some (record { depth = depth; node = None })
    else below

-- along these digits
abbrev pub fill_along : List Var → ℕ → ℕ → List ℕ → Proc → Option Spoken
fill_along known locks depth [] p = None
fill_along known locks depth (e ∷ v) nil = settled (head_bound (MOST_SCOPE_NAMES - locks) known nil e) (MOST_SCOPE_NAMES - locks) false depth None
fill_along known locks depth (e ∷ v) (parallel p q) =
    settled (head_bound (MOST_SCOPE_NAMES - locks) known (parallel p q) e) (MOST_SCOPE_NAMES - locks) false depth
    (if nat_eq e 1 then fill_along (head_bound (MOST_SCOPE_NAMES - locks) known (parallel p q) e).known locks (depth + 1) v p
    else fill_along (head_bound (MOST_SCOPE_NAMES - locks) known (parallel p q) e).known locks (depth + 1) v q)
fill_along known locks depth (e ∷ v) (replicated p) =
    settled (head_bound (MOST_SCOPE_NAMES - locks) known (replicated p) e) (MOST_SCOPE_NAMES - locks) false depth
    (if nat_eq e 1 then fill_along (head_bound (MOST_SCOPE_NAMES - locks) known (replicated p) e).known locks (depth + 1) v p else None)
fill_along known locks depth (e ∷ v) (act a p) =
    settled (head_bound (MOST_SCOPE_NAMES - locks) known (act a p) e) (MOST_SCOPE_NAMES - locks) (is_lock_action a) depth
    (if nat_eq e 1 then fill_along (head_bound (MOST_SCOPE_NAMES - locks) known (act a p) e).known (if is_lock_action a then locks + 1 else locks) (depth + 1) v p else None)
fill_along known locks depth (e ∷ v) (test t u p q) =
    settled (head_bound (MOST_SCOPE_NAMES - locks) known (test t u p q) e) (MOST_SCOPE_NAMES - locks) false depth
    (if nat_eq e 1 then fill_along (head_bound (MOST_SCOPE_NAMES - locks) known (test t u p q) e).known locks (depth + 1) v p
    else fill_along (head_bound (MOST_SCOPE_NAMES - locks) known (test t u p q) e).known locks (depth + 1) v q)
fill_along known locks depth (e ∷ v) (lookup t x p q) =
    settled (head_bound (MOST_SCOPE_NAMES - locks) known (lookup t x p q) e) (MOST_SCOPE_NAMES - locks) false depth
    (if nat_eq e 1 then fill_along (head_bound (MOST_SCOPE_NAMES - locks) known (lookup t x p q) e).known locks (depth + 1) v p
    else fill_along (head_bound (MOST_SCOPE_NAMES - locks) known (lookup t x p q) e).known locks (depth + 1) v q)
