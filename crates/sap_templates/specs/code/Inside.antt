-- The rules of a process, cut at its root.
use Rattle.std.specs.Prelude.{ℕ, List, [], ◌++◌}
use Rattle.sap_terms.specs.declared.var.Var.{Var}
use Rattle.sap_process.specs.Proc.{Proc, nil, parallel, replicated, act, test, lookup}
use Rattle.sap_rule.specs.declared.rule.Rule.{Rule}
use Rattle.sap_outlines.specs.Templates.{first_of, second_of, place_rules}

-- the rules of the places below the one with this path, in preorder; the inner scope is that at its first child
abbrev pub rules_below : List ℕ → List Var → List Var → Proc → List Rule
rules_below path v inner nil = []
rules_below path v inner (parallel p q) = place_rules (first_of path) inner p ++ place_rules (second_of path) v q
rules_below path v inner (replicated p) = place_rules (first_of path) inner p
rules_below path v inner (act a p) = place_rules (first_of path) inner p
rules_below path v inner (test t u p q) = place_rules (first_of path) inner p ++ place_rules (second_of path) v q
rules_below path v inner (lookup t x p q) = place_rules (first_of path) inner p ++ place_rules (second_of path) v q
