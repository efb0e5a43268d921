-- The nodes of what is written at a place.
use Rattle.std.specs.Prelude.{List, [], ◌∷◌, ◌++◌}
use Rattle.sap_terms.specs.Tree.{trees_of}
use Rattle.sap_process.specs.Sites.{message_var}
use Rattle.sap_macro.specs.Located.{Located, nil_at, call_at, parallel_at, replicated_at, act_at, test_at, lookup_at}
use Rattle.sap_nodes.specs.HeadNodes.{Node, binder, action_nodes, tree_nodes, trees_nodes}
use Rattle.sap_nodes.specs.declared.part.Part.TheVariants.{Given}

-- those of a form's head, and of a use those of its arguments, one after another
abbrev pub written_nodes : Located → List Node
written_nodes (nil_at k) = []
written_nodes (call_at k f ts) = trees_nodes Given (trees_of ts)
written_nodes (parallel_at k p q) = []
written_nodes (replicated_at k p) = []
written_nodes (act_at k a p) = action_nodes a
written_nodes (test_at k t u p q) = tree_nodes Given t ++ tree_nodes Given u
written_nodes (lookup_at k t x p q) = tree_nodes Given t ++ binder (message_var x) ∷ []
