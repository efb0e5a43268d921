-- Rules by their names.
use Rattle.std.specs.Prelude.{◌≡◌, ℕ, List, [], ◌∷◌, Option, Some, None, if◌then◌else◌}
use Rattle.std.specs.Str.{bytes_eq}
use Rattle.sap_rule.specs.declared.rule.Rule.{Rule}

-- the first rule of this name
abbrev pub rule_named : List Rule → List ℕ → Option Rule
rule_named [] n = None
rule_named (r ∷ rs) n = if bytes_eq r.name n then Some r else rule_named rs n

-- no two rules have one name
abbrev pub HaveNamesOfTheirOwn : List Rule → Type 0
HaveNamesOfTheirOwn [] = Unit {0}
HaveNamesOfTheirOwn (r ∷ rs) = (rule_named rs r.name ≡ None) × HaveNamesOfTheirOwn rs
