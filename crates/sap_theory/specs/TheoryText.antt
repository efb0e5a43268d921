-- How theories are written.
use Rattle.std.specs.Prelude.{ℕ, codes, List, ◌++◌}
use Rattle.sap_rule.specs.declared.theory.Theory.{Theory}
use Rattle.sap_theory.specs.RuleText.{rules_text}
use Rattle.sap_theory.specs.SignatureText.{builtins_text, functions_text}
use Rattle.sap_theory.specs.StatementText.{restrictions_text, lemmas_text}

-- builtins, functions, rules, restrictions and lemmas in this order, each behind a blank line
abbrev pub items_text : Theory → List ℕ
items_text t =
    builtins_text t.signature
    ++ (functions_text t.signature ++ (rules_text t.rules ++ (restrictions_text t.restrictions ++ lemmas_text t.lemmas)))

-- the theory under its name
abbrev pub theory_text : Theory → List ℕ
theory_text t = codes "theory "
    ++ (t.name ++ (codes "\nbegin\n" ++ (items_text t ++ codes "\nend\n")))
