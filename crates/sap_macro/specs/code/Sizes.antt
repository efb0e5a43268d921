-- How large processes are behind names of whose meanings sizes are kept.
use Rattle.std.specs.Prelude.{ℕ, ◌+◌, ◌-◌, ◌^◌, max, min, List, [], ◌∷◌, if◌then◌else◌}
use Rattle.std.specs.Str.{bytes_eq}
use Rattle.sap_terms.specs.NameMap.{value_at}
use Rattle.sap_macro.specs.Written.{Written, nil, call, parallel, replicated, act, test, lookup, Definition}
use Rattle.sap_macro.specs.Walked.{Cost}
use Rattle.sap_macro.specs.KeptSizes.{levels_kept, nodes_kept}
use Rattle.sap_macro.specs.declared.sizes.Size.{Size}

-- the size of a process, where sizes of two parts are joined so
abbrev pub sized : (ℕ → ℕ → ℕ) → Cost → Written → ℕ
sized j c nil = 1
sized j c (call f ts) = c f
sized j c (parallel p q) = j (sized j c p) (sized j c q) + 1
sized j c (replicated p) = sized j c p + 1
sized j c (act a p) = sized j c p + 1
sized j c (test t u p q) = j (sized j c p) (sized j c q) + 1
sized j c (lookup t x p q) = j (sized j c p) (sized j c q) + 1

-- behind one more definition, and behind these
abbrev pub with_size : (ℕ → ℕ → ℕ) → Cost → Definition → Cost
with_size j c d f = if bytes_eq d.name f then min (sized j c d.body) (2 ^ 64 - 1) else c f

abbrev pub size_after : (ℕ → ℕ → ℕ) → Cost → List Definition → Cost
size_after j c [] = c
size_after j c (d ∷ ds) = size_after j (with_size j c d) ds

-- two parts have their places together, and as many levels as the deeper one
abbrev pub plus : ℕ → ℕ → ℕ
plus a b = a + b

abbrev pub deeper : ℕ → ℕ → ℕ
deeper a b = max a b

abbrev pub with_nodes : Cost → Definition → Cost
with_nodes c d = with_size plus c d

abbrev pub with_levels : Cost → Definition → Cost
with_levels c d = with_size deeper c d

abbrev pub nodes_of : List Definition → Cost
nodes_of ds = size_after plus (λ f. 1) ds

abbrev pub levels_of : List Definition → Cost
levels_of ds = size_after deeper (λ f. 1) ds

-- the size of a process by what is kept
abbrev pub nodes_in : List (List ℕ × Size) → Written → ℕ
nodes_in sizes w = sized plus (λ f. nodes_kept (value_at sizes f)) w

abbrev pub levels_in : List (List ℕ × Size) → Written → ℕ
levels_in sizes w = sized deeper (λ f. levels_kept (value_at sizes f)) w
