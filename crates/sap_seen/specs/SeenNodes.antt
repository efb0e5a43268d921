-- The nodes of what is seen at a written place, and their words.
use Rattle.std.specs.Prelude.{ℕ, false, List, ◌∷◌}
use Rattle.sap_macro.specs.Located.{Located, nil_at, call_at, parallel_at, replicated_at, act_at, test_at, lookup_at}
use Rattle.sap_macro.specs.UpToNames.{fact}
use Rattle.sap_nodes.specs.HeadNodes.{Node, fact_nodes}
use Rattle.sap_nodes.specs.declared.part.Part.TheVariants.{Shown}
use Rattle.sap_stems.specs.WrittenNodes.{written_nodes}

-- those that are written; a use is seen as a fact that is shown: its name stands in front of its arguments
abbrev pub seen_nodes : Located → List Node
seen_nodes (nil_at k) = written_nodes (nil_at k)
seen_nodes (call_at k f ts) = fact_nodes Shown (fact f false ts)
seen_nodes (parallel_at k p q) = written_nodes (parallel_at k p q)
seen_nodes (replicated_at k p) = written_nodes (replicated_at k p)
seen_nodes (act_at k a p) = written_nodes (act_at k a p)
seen_nodes (test_at k t u p q) = written_nodes (test_at k t u p q)
seen_nodes (lookup_at k t x p q) = written_nodes (lookup_at k t x p q)

-- their numbers, where the nodes that are written there have these: of a use that of its name first
abbrev pub seen_numbers : Located → List ℕ → List ℕ
seen_numbers (nil_at k) ns = ns
seen_numbers (call_at k f ts) ns = k ∷ ns
seen_numbers (parallel_at k p q) ns = ns
seen_numbers (replicated_at k p) ns = ns
seen_numbers (act_at k a p) ns = ns
seen_numbers (test_at k t u p q) ns = ns
seen_numbers (lookup_at k t x p q) ns = ns
