-- The places below a place, and the terms that are used at it.
use Rattle.std.specs.Prelude.{ℕ, List, [], ◌∷◌}
use Rattle.sap_terms.specs.Tree.{Tree}
use Rattle.sap_terms.specs.declared.var.Var.{Var}
use Rattle.sap_process.specs.Proc.{Proc, nil, parallel, replicated, act, test, lookup}
use Rattle.sap_process.specs.Heads.{action_used, locks_set}
use Rattle.sap_process.specs.Places.{place, places_below}
use Rattle.sap_process.specs.Sites.{Site, above_of, scope_below}

-- the terms that are evaluated before anything is bound at the head of a process
abbrev pub used_terms : Proc → List Tree
used_terms nil = []
used_terms (parallel p q) = []
used_terms (replicated p) = []
used_terms (act a p) = action_used a
used_terms (test t u p q) = t ∷ u ∷ []
used_terms (lookup t x p q) = t ∷ []

-- how many locks the head sets
abbrev pub head_locks : Proc → ℕ
head_locks (act a p) = locks_set a
head_locks _ = 0

abbrev pub site : List ℕ → List Var → ℕ → Proc → Site
site path scope k p = place path (above_of scope k) p

-- the places from this one on, but for itself
abbrev pub sites_below : List ℕ → List Var → ℕ → Proc → List Site
sites_below path scope k p = places_below scope_below path (above_of scope k) p
