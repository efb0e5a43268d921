-- The binders that come to a scope.
use Rattle.std.specs.Prelude.{List, ◌++◌}
use Rattle.sap_terms.specs.Variables.{new_vars}
use Rattle.sap_terms.specs.declared.var.Var.{Var}
use Rattle.sap_process.specs.Sites.{var_names}

-- the first occurrences of names that are not in scope come to it
abbrev pub with_new : List Var → List Var → List Var
with_new scope vs = scope ++ new_vars (var_names scope) vs
