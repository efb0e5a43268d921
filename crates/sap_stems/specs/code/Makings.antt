-- Written nodes that are gone through, as the code does.
use Rattle.std.specs.Prelude.{ℕ, ◌+◌, ◌-◌, ◌^◌, min, List, [], ◌∷◌, ◌++◌, Option, Some, None, slice_get, if◌then◌else◌}
use Rattle.std.specs.Str.{bytes_eq}
use Rattle.sap_terms.specs.Tree.{Tree}
use Rattle.sap_macro.specs.Sources.{located}
use Rattle.sap_macro.specs.declared.definition.Definition.{Definition}
use Rattle.sap_nodes.specs.HeadNodes.{Node, binder, variable, public, fresh, symbol, fact, tree_nodes}
use Rattle.sap_nodes.specs.declared.part.Part.TheVariants.{Given}
use Rattle.sap_stems.specs.StemsAt.{arguments}
use Rattle.sap_stems.specs.declared.making.Making.{Making}
use Rattle.sap_stems.specs.declared.making.Put.{Put}
use Rattle.sap_stems.specs.declared.making.WrittenNode.{WrittenNode}
use Rattle.sap_origin.specs.declared.trail.Use.{Use}

-- the nodes that stand for the name
abbrev pub nodes_put : List Put → List ℕ → Option (List WrittenNode)
nodes_put [] x = None
nodes_put (p ∷ ps) x = if bytes_eq p.param x then Some p.nodes else nodes_put ps x

-- the node behind it
abbrev pub next_node : WrittenNode → WrittenNode
next_node w = record w { index = min (w.index + 1) (2 ^ 64 - 1) }

-- these stand for the next node
abbrev pub added : Making → List WrittenNode → Making
added m ws = record { at = next_node m.at; nodes = m.nodes ++ ws }

-- it stands for itself
abbrev pub placed : Making → Making
placed m = added m (m.at ∷ [])

abbrev pub added_or : Making → Option (List WrittenNode) → Making
added_or m None = placed m
added_or m (Some ws) = added m ws

-- behind the next node, which is this one
abbrev pub made : List Put → Making → Node → Making
made ps m (variable v) = added_or m (nodes_put ps v.name)
made ps m (binder v) = placed m
made ps m (public n) = placed m
made ps m (fresh k) = placed m
made ps m (symbol a f k) = placed m
made ps m (fact a f) = placed m

-- behind these
abbrev pub made_all : List Put → Making → List Node → Making
made_all ps m [] = m
made_all ps m (n ∷ ns) = made_all ps (made ps m n) ns

-- nothing stands in front of the node
abbrev pub from_node : WrittenNode → Making
from_node w = record { at = w; nodes = [] }

-- the argument, whose first node is this one, for a parameter, and the node behind it
abbrev pub put_made : List Put → WrittenNode → List ℕ → Tree → Put
put_made ps w x t =
    record { param = x; nodes = (made_all ps (from_node w) (tree_nodes Given t)).nodes }

abbrev pub after_term : List Put → WrittenNode → Tree → WrittenNode
after_term ps w t = (made_all ps (from_node w) (tree_nodes Given t)).at

-- the arguments for the parameters
abbrev pub puts_made : List Put → WrittenNode → List (List ℕ) → List Tree → List Put
puts_made ps w [] ts = []
puts_made ps w (x ∷ xs) [] = []
puts_made ps w (x ∷ xs) (t ∷ ts) = put_made ps w x t ∷ puts_made ps (after_term ps w t) xs ts

-- the parameters of a definition, none where there is none
abbrev pub params_or : Option Definition → List (List ℕ)
params_or None = []
params_or (Some d) = d.params

abbrev pub params_at : List Definition → ℕ → List (List ℕ)
params_at ds k = params_or (slice_get ds k)

-- the first node of a use that so many uses are above
abbrev pub node_at : ℕ → Use → WrittenNode
node_at n u = record { source = u.source; index = 0; behind = u.behind; uses = n }

-- behind a use of a definition with these parameters
abbrev pub behind_put : List Put → ℕ → Use → List (List ℕ) → List Put
behind_put ps n u [] = ps
behind_put ps n u (x ∷ xs) =
    puts_made ps (node_at n u) (x ∷ xs) (arguments (located u.source.now))

-- behind these, the first of which so many are above
abbrev pub all_put : List Definition → List Put → ℕ → List Use → List Put
all_put ds ps n [] = ps
all_put ds ps n (u ∷ us) = all_put ds (behind_put ps n u (params_at ds u.definition)) (n + 1) us
