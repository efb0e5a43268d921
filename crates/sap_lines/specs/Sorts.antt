-- Where each variable has the sort of its binder, no name has two.
use Rattle.std.specs.Prelude.{◌≡◌, List, ◌++◌}
use Rattle.sap_terms.specs.Choice.{instance}
use Rattle.sap_terms.specs.Modulo.{instance_facts}
use Rattle.sap_terms.specs.Tree.{Tree}
use Rattle.sap_terms.specs.Variables.{tree_vars, facts_vars, new_vars}
use Rattle.sap_terms.specs.declared.fact.Fact.{Fact}
use Rattle.sap_terms.specs.declared.var.Var.{Var}
use Rattle.sap_rewrite.specs.Match.{HaveOneSort}
use Rattle.sap_process.specs.Action.{embedded}
use Rattle.sap_process.specs.Sites.{var_names, bound_by}
use Rattle.sap_process.specs.Sorted.{by_binder}

-- a pattern to whose variables the scope and the pattern's own new ones give sorts has no name with two
abbrev pub PatternsHaveOneSort : Type 0
PatternsHaveOneSort = (scope : List Var) (n : Tree) → instance (by_binder (scope ++ new_vars (var_names scope) (tree_vars n))) n ≡ n → HaveOneSort (tree_vars n)

-- nor has an embedded rule
abbrev pub RulesHaveOneSort : Type 0
RulesHaveOneSort = (scope : List Var) (l e r : List Fact) → instance_facts (by_binder (scope ++ bound_by scope (embedded l e r))) (l ++ (e ++ r)) ≡ l ++ (e ++ r) → HaveOneSort (facts_vars (l ++ (e ++ r)))
