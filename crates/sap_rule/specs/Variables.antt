-- The variables of a rule, and which of them are open: what the facts that the rule takes don't determine.
use Rattle.std.specs.Prelude.{List, ◌++◌, map}
use Rattle.std.specs.List.{flat_map}
use Rattle.sap_terms.specs.Signature.{Sig}
use Rattle.sap_terms.specs.Tree.{trees_of}
use Rattle.sap_terms.specs.Variables.{facts_vars, new_vars}
use Rattle.sap_terms.specs.declared.fact.Fact.{Fact}
use Rattle.sap_terms.specs.declared.var.Var.{Var}
use Rattle.sap_rewrite.specs.Around.{all_outer_vars}
use Rattle.sap_rule.specs.declared.rule.Rule.{Rule}

-- those outside the subterms that a destructor heads
abbrev pub facts_outer_vars : Sig → List Fact → List Var
facts_outer_vars g fs = flat_map (λ (f : Fact). all_outer_vars g (trees_of f.args)) fs

-- each occurrence in a rule: on its left, in its acts, on its right
abbrev pub rule_vars : Rule → List Var
rule_vars r = facts_vars r.left ++ (facts_vars r.acts ++ facts_vars r.right)

-- the first occurrences of those variables that the left side has nowhere outside a destructor
abbrev pub open_variables : Sig → Rule → List Var
open_variables g r = new_vars (map (λ (v : Var). v.name) (facts_outer_vars g r.left)) (rule_vars r)
