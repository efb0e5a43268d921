-- The binders round a part of a formula, as the code hands them down.
use Rattle.std.specs.Prelude.{List, [], ◌++◌}
use Rattle.sap_formula.specs.declared.binder.Binder.{Binder}
use Rattle.sap_formula.specs.declared.scope.Scope.{Scope}
use Rattle.sap_formula.specs.declared.scope.Scope.TheVariants.{Outside, Inside'}

-- the innermost first
abbrev pub binders : Scope → List Binder
binders Outside = []
binders (Inside' turned a scope) = turned.now ++ binders scope
