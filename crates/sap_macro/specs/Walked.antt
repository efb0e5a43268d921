-- How many steps a walk through a process makes that goes into what its names stand for.
use Rattle.std.specs.Prelude.{ℕ, ◌+◌, List, [], ◌∷◌, if◌then◌else◌}
use Rattle.std.specs.Str.{bytes_eq}
use Rattle.sap_macro.specs.Written.{Written, nil, call, parallel, replicated, act, test, lookup, Definition}

-- how many steps a walk makes behind a name
abbrev pub Cost : Type 0
Cost = List ℕ → ℕ

-- how many it makes in a process
abbrev pub steps : Cost → Written → ℕ
steps c nil = 1
steps c (call f ts) = c f + 1
steps c (parallel p q) = steps c p + steps c q + 1
steps c (replicated p) = steps c p + 1
steps c (act a p) = steps c p + 1
steps c (test t u p q) = steps c p + steps c q + 1
steps c (lookup t x p q) = steps c p + steps c q + 1

-- behind one more definition, and behind these
abbrev pub with_cost : Cost → Definition → Cost
with_cost c d f = if bytes_eq d.name f then steps c d.body else c f

abbrev pub cost_after : Cost → List Definition → Cost
cost_after c [] = c
cost_after c (d ∷ ds) = cost_after (with_cost c d) ds

abbrev pub cost_of : List Definition → Cost
cost_of ds = cost_after (λ f. 0) ds

-- the steps in a process behind these definitions
unfoldable pub steps_in : List Definition → Written → ℕ
steps_in ds w = steps (cost_of ds) w
