-- The places below a place, and what the head of a process adds.
use Rattle.std.specs.Prelude.{ℕ, List}
use Rattle.sap_terms.specs.declared.var.Var.{Var}
use Rattle.sap_process.specs.Places.{places_below}
use Rattle.sap_process.specs.Proc.{Proc, act}
use Rattle.sap_process.specs.Scopes.{Spot, lock_scope, lock_scope_below, locks_behind, scope_behind}

-- the places from this one on, but for itself
abbrev pub spots_below : List ℕ → List Var → List ℕ → Proc → List Spot
spots_below path v ls p = places_below lock_scope_below path (lock_scope v ls) p

-- the scope behind the head of a process that one process follows
abbrev pub head_scope : List Var → Proc → List Var
head_scope v (act a p) = scope_behind v a
head_scope v _ = v

-- the labels of the locks that are open behind it
abbrev pub head_locks : List ℕ → Proc → List ℕ
head_locks ls (act a p) = locks_behind ls a
head_locks ls _ = ls
