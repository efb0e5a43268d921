-- How rules are written.
use Rattle.std.specs.Prelude.{ℕ, codes, List, ◌++◌}
use Rattle.std.specs.List.{flat_map}
use Rattle.sap_rule.specs.declared.rule.Rule.{Rule}
use Rattle.sap_grammar.specs.FactText.{facts_text, arrow_text}

-- a blank line, the line of the name, and a line of the two sides with the arrow between them
abbrev pub rule_text : Rule → List ℕ
rule_text r = codes "\nrule "
    ++ (r.name ++ (codes ":\n  " ++ (facts_text r.left ++ (arrow_text r.acts ++ (facts_text r.right ++ codes "\n")))))

-- one behind the other
abbrev pub rules_text : List Rule → List ℕ
rules_text rs = flat_map rule_text rs
