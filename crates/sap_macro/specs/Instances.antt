-- Instances of definitions by terms, and definitions that use what they bind, and their parameters, alone.
use Rattle.std.specs.Prelude.{◌≡◌, ℕ, true, false, List, [], ◌∷◌, ◌++◌, map}
use Rattle.sap_terms.specs.Choice.{Choice, instance}
use Rattle.sap_terms.specs.Tree.{Tree, variable, trees_of}
use Rattle.sap_terms.specs.Variables.{is_known, tree_vars, trees_vars}
use Rattle.sap_terms.specs.declared.var.Sort.{Sort}
use Rattle.sap_terms.specs.declared.var.Var.{Var}
use Rattle.sap_process.specs.Action.{Action, new, out, send, input, receive, event, insert, delete, lock, unlock, embedded}
use Rattle.sap_process.specs.Instance.{action_instance}
use Rattle.sap_macro.specs.Expansion.{behind, binders, put, unchanged}
use Rattle.sap_macro.specs.Order.{UsesOnly}
use Rattle.sap_macro.specs.UpToNames.{named}
use Rattle.sap_macro.specs.Written.{Written, nil, call, parallel, replicated, act, test, lookup, Definition}

-- the process with each variable replaced, whatever binds it; a use stays a use
abbrev pub written_instance : Choice → Written → Written
written_instance σ nil = nil
written_instance σ (call f ts) = call f (map (instance σ) ts)
written_instance σ (parallel p q) = parallel (written_instance σ p) (written_instance σ q)
written_instance σ (replicated p) = replicated (written_instance σ p)
written_instance σ (act a p) = act (action_instance σ a) (written_instance σ p)
written_instance σ (test t u p q) =
    test (instance σ t) (instance σ u) (written_instance σ p) (written_instance σ q)
written_instance σ (lookup t x p q) =
    lookup (instance σ t) x (written_instance σ p) (written_instance σ q)

-- the instance of a definition by these terms: its body with each parameter replaced
abbrev pub instance_by : Definition → List Tree → Written
instance_by d ts = written_instance (put d.params ts unchanged) d.body

-- the name of each of these variables is in scope
abbrev pub IsOverScope : List (List ℕ) → List Var → Type 0
IsOverScope scope [] = Unit {0}
IsOverScope scope (v ∷ vs) = (is_known scope v.name ≡ true) × IsOverScope scope vs

-- the variables that an action uses before it binds any
abbrev pub used_vars : Action → List Var
used_vars (new x) = []
used_vars (out t) = tree_vars t
used_vars (send t u) = tree_vars t ++ tree_vars u
used_vars (input t) = []
used_vars (receive t u) = tree_vars t
used_vars (event f) = trees_vars (trees_of f.args)
used_vars (insert t u) = tree_vars t ++ tree_vars u
used_vars (delete t) = tree_vars t
used_vars (lock t n) = tree_vars t
used_vars (unlock t n) = tree_vars t
used_vars (embedded l e r) = []

-- `new` binds a name that isn't in scope
abbrev pub BindsNew : List (List ℕ) → Action → Type 0
BindsNew scope (new x) = is_known scope x.name ≡ false
BindsNew scope a = Unit {0}

-- where these are in scope, what the process uses is bound, and no `new` or `lookup` binds again
abbrev pub IsClosed : List (List ℕ) → Written → Type 0
IsClosed scope nil = Unit {0}
IsClosed scope (call f ts) = IsOverScope scope (trees_vars (trees_of ts))
IsClosed scope (parallel p q) = IsClosed scope p × IsClosed scope q
IsClosed scope (replicated p) = IsClosed scope p
IsClosed scope (act a p) =
    IsOverScope scope (used_vars a) × (BindsNew scope a × IsClosed (behind scope a) p)
IsClosed scope (test t u p q) =
    IsOverScope scope (tree_vars t)
    × (IsOverScope scope (tree_vars u) × (IsClosed scope p × IsClosed scope q))
IsClosed scope (lookup t x p q) =
    IsOverScope scope (tree_vars t)
    × ((is_known scope x.name ≡ false) × (IsClosed (x.name ∷ scope) p × IsClosed scope q))

-- so is each of these definitions that has one of the names, and it uses these names alone
abbrev pub AreClosedAmong : List (List ℕ) → List Definition → Type 0
AreClosedAmong names [] = Unit {0}
AreClosedAmong names (d ∷ ds) =
    (is_known names d.name ≡ true → IsClosed d.params d.body × UsesOnly names d.body)
    × AreClosedAmong names ds

-- the choice replaces taken names alone
pub record Keeps (σ : Choice) (taken : List (List ℕ)) : Type 0 where
  pub keeps : (x : List ℕ) (s : Sort) → is_known taken x ≡ false
      → σ (named x s) ≡ variable (named x s)

-- what the process binds, where these are in scope, is taken
pub record AreTaken (taken scope : List (List ℕ)) (p : Written) : Type 0 where
  pub holds : (x : List ℕ) → is_known (binders scope p) x ≡ true → is_known taken x ≡ true
