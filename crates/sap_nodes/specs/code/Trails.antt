-- A search for a variable by those that are known, as the code makes it.
use Rattle.std.specs.Prelude.{Bool, true, false, not, ◌&&◌, nat_eq, length, List, [], ◌∷◌, ◌++◌, if◌then◌else◌}
use Rattle.sap_terms.specs.Same.{same_sort}
use Rattle.sap_terms.specs.Variables.{is_known}
use Rattle.sap_terms.specs.declared.var.Sort.TheVariants.{Pub}
use Rattle.sap_terms.specs.declared.var.Var.{Var}
use Rattle.sap_process.specs.Action.{Action, new, out, send, input, receive, event, insert, delete, lock, unlock, embedded}
use Rattle.sap_process.specs.Proc.{Proc, nil, parallel, replicated, act, test, lookup}
use Rattle.sap_process.specs.Sites.{var_names}
use Rattle.sap_process.specs.code.Tests.{has_other_sort}
use Rattle.sap_nodes.specs.HeadNodes as node
use Rattle.sap_nodes.specs.HeadNodes.{Node, tree_nodes, fact_nodes, facts_nodes}
use Rattle.sap_nodes.specs.code.Searches.{visited}
use Rattle.sap_nodes.specs.declared.part.Part.TheVariants.{Pattern, Shown, Given}
use Rattle.sap_nodes.specs.declared.trail.How.{How}
use Rattle.sap_nodes.specs.declared.trail.How.TheVariants.{Taken, Ruled, Used, Signed, Last}
use Rattle.sap_nodes.specs.declared.trail.Trail.{Trail}

-- the variable binds its name for what stands behind it, where these are known
abbrev pub is_bound : How → Var → List Var → Bool
is_bound Taken v known = true
is_bound Ruled v known = not (is_known (var_names known) v.name) && same_sort v.sort Pub
is_bound Used v known = false
is_bound Signed v known = false
is_bound (Last room) v known = not (is_known (var_names known) v.name)

-- it is looked for
abbrev pub is_free : How → Var → List Var → Bool
is_free Taken v known = false
is_free Ruled v known = not (is_known (var_names known) v.name) && not (same_sort v.sort Pub)
is_free Used v known = not (is_known (var_names known) v.name)
is_free Signed v known = has_other_sort known v
is_free (Last room) v known = not (is_known (var_names known) v.name) && nat_eq (length known) room

-- one node more is met
abbrev pub met : How → Trail → Node → Trail
met b a (node.variable v) = record {
  known = if is_bound b v a.known then a.known ++ v ∷ [] else a.known;
  search = visited (is_free b v a.known) a.search;
}
met b a (node.binder v) = record { known = a.known; search = visited false a.search }
met b a (node.public n) = record { known = a.known; search = visited false a.search }
met b a (node.fresh k) = record { known = a.known; search = visited false a.search }
met b a (node.symbol part f k) = record { known = a.known; search = visited false a.search }
met b a (node.fact part f) = record { known = a.known; search = visited false a.search }

-- and these, one after another
abbrev pub met_all : How → Trail → List Node → Trail
met_all b a [] = a
met_all b a (n ∷ ns) = met_all b (met b a n) ns

-- the nodes of what is evaluated before anything is bound; they stand in front
abbrev pub action_used_nodes : Action → List Node
action_used_nodes (new x) = []
action_used_nodes (out t) = tree_nodes Given t
action_used_nodes (send t u) = tree_nodes Given t ++ tree_nodes Given u
action_used_nodes (input t) = []
action_used_nodes (receive t u) = tree_nodes Given t
action_used_nodes (event f) = fact_nodes Shown f
action_used_nodes (insert t u) = tree_nodes Given t ++ tree_nodes Given u
action_used_nodes (delete t) = tree_nodes Given t
action_used_nodes (lock t n) = tree_nodes Given t
action_used_nodes (unlock t n) = tree_nodes Given t
action_used_nodes (embedded l e r) = []

-- what an action leaves
abbrev pub action_met : Trail → Action → Trail
action_met a (embedded l e r) = met_all Ruled (met_all Taken a (facts_nodes Pattern l)) (facts_nodes Shown e ++ facts_nodes Given r)
action_met a x = met_all Used a (action_used_nodes x)

-- and the head of a process
abbrev pub head_met : Trail → Proc → Trail
head_met a nil = a
head_met a (parallel p q) = a
head_met a (replicated p) = a
head_met a (act x p) = action_met a x
head_met a (test t u p q) = met_all Used a (tree_nodes Given t ++ tree_nodes Given u)
head_met a (lookup t x p q) = met_all Used a (tree_nodes Given t)
