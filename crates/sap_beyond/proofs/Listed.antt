-- The places of a process have the paths of its shape, and it has as many places and levels.
use Rattle.std.proofs.Common.{◌≡◌, ℕ, ◌+◌, max, List, [], ◌∷◌, ◌++◌, map, refl, ap, ◌∙◌}
use Rattle.std.proofs.lemmas.List.{map-append}
use Rattle.sap_process.specs.Places.{places_from}
use Rattle.sap_process.specs.Proc.{Proc, nil, parallel, replicated, act, test, lookup, node_count, level_count}
use Rattle.sap_process.specs.Sites.{Above, Site, above_of, scope_below}
use Rattle.sap_beyond.specs.Numbered.{paths}
use Rattle.sap_beyond.specs.code.Shapes.{depth, paths_from, place_count, shape}

abbrev listed : List ℕ → Above → Proc → List (List ℕ)
listed from u x = map (λ (site : Site). site.path) (places_from scope_below from u x)

pub listed_is : (x : Proc) (from : List ℕ) (u : Above) → listed from u x ≡ paths_from from (shape x)
listed_is nil from u = refl
listed_is (parallel p q) from u =
    ap (λ xs. from ∷ xs)
    (map-append (λ (site : Site). site.path) (places_from scope_below (from ++ 1 ∷ []) (scope_below u (parallel p q) 1) p) (places_from scope_below (from ++ 2 ∷ []) (scope_below u (parallel p q) 2) q)
    ∙ (λ i. listed_is p (from ++ 1 ∷ []) (scope_below u (parallel p q) 1) i ++ listed_is q (from ++ 2 ∷ []) (scope_below u (parallel p q) 2) i))
listed_is (replicated p) from u = ap (λ xs. from ∷ xs) (listed_is p (from ++ 1 ∷ []) (scope_below u (replicated p) 1))
listed_is (act a p) from u = ap (λ xs. from ∷ xs) (listed_is p (from ++ 1 ∷ []) (scope_below u (act a p) 1))
listed_is (test t v p q) from u =
    ap (λ xs. from ∷ xs)
    (map-append (λ (site : Site). site.path) (places_from scope_below (from ++ 1 ∷ []) (scope_below u (test t v p q) 1) p) (places_from scope_below (from ++ 2 ∷ []) (scope_below u (test t v p q) 2) q)
    ∙ (λ i. listed_is p (from ++ 1 ∷ []) (scope_below u (test t v p q) 1) i ++ listed_is q (from ++ 2 ∷ []) (scope_below u (test t v p q) 2) i))
listed_is (lookup t x p q) from u =
    ap (λ xs. from ∷ xs)
    (map-append (λ (site : Site). site.path) (places_from scope_below (from ++ 1 ∷ []) (scope_below u (lookup t x p q) 1) p) (places_from scope_below (from ++ 2 ∷ []) (scope_below u (lookup t x p q) 2) q)
    ∙ (λ i. listed_is p (from ++ 1 ∷ []) (scope_below u (lookup t x p q) 1) i ++ listed_is q (from ++ 2 ∷ []) (scope_below u (lookup t x p q) 2) i))

pub paths_are : (x : Proc) → paths x ≡ paths_from [] (shape x)
paths_are x = listed_is x [] (above_of [] 0)

pub nodes_are : (x : Proc) → node_count x ≡ place_count (shape x)
nodes_are nil = refl
nodes_are (parallel p q) = λ i. nodes_are p i + nodes_are q i + 1
nodes_are (replicated p) = ap (λ n. n + 1) (nodes_are p)
nodes_are (act a p) = ap (λ n. n + 1) (nodes_are p)
nodes_are (test t u p q) = λ i. nodes_are p i + nodes_are q i + 1
nodes_are (lookup t x p q) = λ i. nodes_are p i + nodes_are q i + 1

pub levels_are : (x : Proc) → level_count x ≡ depth (shape x)
levels_are nil = refl
levels_are (parallel p q) = λ i. max (levels_are p i) (levels_are q i) + 1
levels_are (replicated p) = ap (λ n. n + 1) (levels_are p)
levels_are (act a p) = ap (λ n. n + 1) (levels_are p)
levels_are (test t u p q) = λ i. max (levels_are p i) (levels_are q i) + 1
levels_are (lookup t x p q) = λ i. max (levels_are p i) (levels_are q i) + 1
