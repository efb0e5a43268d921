-- Definitions in an order in which each can be understood.
use Rattle.std.specs.Prelude.{◌≡◌, ℕ, true, false, List, [], ◌∷◌}
use Rattle.sap_terms.specs.Variables.{is_known}
use Rattle.sap_macro.specs.Written.{Written, nil, call, parallel, replicated, act, test, lookup, Definition}

-- each name of a process that is used is one of these
abbrev pub UsesOnly : List (List ℕ) → Written → Type 0
UsesOnly known nil = Unit {0}
UsesOnly known (call f ts) = is_known known f ≡ true
UsesOnly known (parallel p q) = UsesOnly known p × UsesOnly known q
UsesOnly known (replicated p) = UsesOnly known p
UsesOnly known (act a p) = UsesOnly known p
UsesOnly known (test t u p q) = UsesOnly known p × UsesOnly known q
UsesOnly known (lookup t x p q) = UsesOnly known p × UsesOnly known q

-- behind definitions of these names: no name is defined twice, and each body uses names alone that are defined before it
abbrev pub AreInOrder : List (List ℕ) → List Definition → Type 0
AreInOrder known [] = Unit {0}
AreInOrder known (d ∷ ds) =
    (is_known known d.name ≡ false) × (UsesOnly known d.body × AreInOrder (d.name ∷ known) ds)

-- the name in front of these, where there are parameters
abbrev pub where_some : List (List ℕ) → List ℕ → List (List ℕ) → List (List ℕ)
where_some [] f names = names
where_some (x ∷ xs) f names = f ∷ names

-- the names of the definitions that have parameters, the last one first, in front of these
abbrev pub with_parameters : List (List ℕ) → List Definition → List (List ℕ)
with_parameters names [] = names
with_parameters names (d ∷ ds) = with_parameters (where_some d.params d.name names) ds
