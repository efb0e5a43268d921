-- A search for a variable with another sign than its binder's sort, as the code makes it.
use Rattle.std.specs.Prelude.{◌++◌}
use Rattle.sap_process.specs.Action.{Action, new, input, receive, embedded}
use Rattle.sap_process.specs.Proc.{Proc, nil, parallel, replicated, act, test, lookup}
use Rattle.sap_nodes.specs.HeadNodes.{tree_nodes, facts_nodes, action_nodes}
use Rattle.sap_nodes.specs.code.Trails.{met_all}
use Rattle.sap_nodes.specs.declared.part.Part.TheVariants.{Pattern, Shown, Given}
use Rattle.sap_nodes.specs.declared.trail.How.TheVariants.{Taken, Signed}
use Rattle.sap_nodes.specs.declared.trail.Trail.{Trail}

-- what an action binds by terms is known
abbrev pub action_patterns_met : Trail → Action → Trail
action_patterns_met a (input t) = met_all Taken a (tree_nodes Pattern t)
action_patterns_met a (receive t u) = met_all Taken a (tree_nodes Pattern u)
action_patterns_met a (embedded l e r) = met_all Taken (met_all Taken a (facts_nodes Pattern l)) (facts_nodes Shown e ++ facts_nodes Given r)
action_patterns_met a _ = a

-- what a head does
abbrev pub patterns_met : Trail → Proc → Trail
patterns_met a (act x p) = action_patterns_met a x
patterns_met a _ = a

-- the nodes of the terms and facts of an action are met
abbrev pub action_terms_met : Trail → Action → Trail
action_terms_met a (new x) = a
action_terms_met a (embedded l e r) = met_all Signed (met_all Signed a (facts_nodes Pattern l)) (facts_nodes Shown e ++ facts_nodes Given r)
action_terms_met a x = met_all Signed a (action_nodes x)

-- those of a head
abbrev pub terms_met : Trail → Proc → Trail
terms_met a nil = a
terms_met a (parallel p q) = a
terms_met a (replicated p) = a
terms_met a (act x p) = action_terms_met a x
terms_met a (test t u p q) = met_all Signed a (tree_nodes Given t ++ tree_nodes Given u)
terms_met a (lookup t x p q) = met_all Signed a (tree_nodes Given t)
