-- A walk through nodes that looks for one of them, as the code makes it.
use Rattle.std.specs.Prelude.{ℕ, ◌+◌, Bool, true, false, List, [], ◌∷◌, ◌++◌, min, nat_eq, if◌then◌else◌, Option, Some, None}
use Rattle.std.specs.Str.{bytes_eq}
use Rattle.sap_terms.specs.Tree.{node_count}
use Rattle.sap_process.specs.Action.{Action, new, input, receive, embedded}
use Rattle.sap_process.specs.Proc.{Proc, act, lookup}
use Rattle.sap_process.specs.Sites.{message_var}
use Rattle.sap_nodes.specs.HeadNodes.{Node, binder, variable, tree_nodes, facts_nodes}
use Rattle.sap_nodes.specs.declared.part.Part.TheVariants.{Pattern, Shown, Given}
use Rattle.sap_other_nodes.specs.declared.seek.Seek.{Seek}
use Rattle.sap_other_nodes.specs.declared.seek.Wanted.{Wanted}
use Rattle.sap_other_nodes.specs.declared.seek.Wanted.TheVariants.{Number, Named}

-- the greatest u64
abbrev pub most : ℕ
most = 18446744073709551615

-- the name of a node, if it is a variable
abbrev pub name_of : Node → Option (List ℕ)
name_of (binder v) = Some v.name
name_of (variable v) = Some v.name
name_of _ = None

-- both are there, and the same
abbrev pub same_names : Option (List ℕ) → Option (List ℕ) → Bool
same_names (Some m) (Some n) = bytes_eq m n
same_names _ _ = false

-- a node with this name, or none, is the one
abbrev pub is_wanted : Wanted → Seek → Option (List ℕ) → Bool
is_wanted (Number k) a o = nat_eq a.at k
is_wanted Named a o = same_names a.name o

-- one node more is met
abbrev pub passed : Wanted → Seek → Option (List ℕ) → Seek
passed w a o =
    if a.found then a else if is_wanted w a o then record { at = a.at; found = true; name = o }
    else record { at = min (a.at + 1) most; found = false; name = a.name }

abbrev pub visited : Wanted → Seek → Node → Seek
visited w a n = passed w a (name_of n)

-- these nodes are met, one after another
abbrev pub after : Wanted → Seek → List Node → Seek
after w a [] = a
after w a (n ∷ ns) = after w (visited w a n) ns

-- so many nodes stand in front, and this name is looked for
abbrev pub from_node : ℕ → List ℕ → Seek
from_node k n = record { at = k; found = false; name = Some n }

-- those that an action binds are met
abbrev pub action_after : List ℕ → Action → Seek
action_after n (new x) = visited Named (from_node 0 n) (binder x)
action_after n (input t) = after Named (from_node 0 n) (tree_nodes Pattern t)
action_after n (receive t u) = after Named (from_node (min (node_count t) most) n) (tree_nodes Pattern u)
action_after n (embedded l e r) = after Named (from_node 0 n) (facts_nodes Pattern l ++ (facts_nodes Shown e ++ facts_nodes Given r))
action_after n _ = from_node 0 n

-- those that a head does for its child of this digit
abbrev pub bound_after : List ℕ → Proc → ℕ → Seek
bound_after n (act a p) e = action_after n a
bound_after n (lookup t x p q) e =
    if nat_eq e 1 then visited Named (from_node (min (node_count t) most) n) (binder (message_var x)) else from_node 0 n
bound_after n _ e = from_node 0 n

-- where it is found
abbrev pub found_at : Seek → Option ℕ
found_at a = if a.found then Some a.at else None
