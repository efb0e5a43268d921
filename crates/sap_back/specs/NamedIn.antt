-- The names, symbols and bindings in lines of the process are those of lines of the rules.
use Rattle.std.specs.Prelude.{ℕ, List, Contains}
use Rattle.sap_runs.specs.declared.process_step.PStep.{PStep}
use Rattle.sap_runs.specs.declared.process_step.PStep.TheVariants as line
use Rattle.sap_runs.specs.declared.rule_step.RStep.{RStep}
use Rattle.sap_runs.specs.declared.rule_step.RStep.TheVariants.{Public, Apply, Rule as RuleLine}

-- What a line of the process names stands in a line of the rules: the public name that is written down, the symbol that is applied,
-- or the bindings of an embedded rule. Lines of other kinds name numbers alone.
abbrev pub IsNamedIn : List RStep → PStep → Type 0
IsNamedIn rule_lines (line.Public a) = Contains rule_lines (Public a)
IsNamedIn rule_lines (line.Apply f entries) = (others : List ℕ) × Contains rule_lines (Apply f others)
IsNamedIn rule_lines (line.Embedded t facts bindings) = (name others : List ℕ) × Contains rule_lines (RuleLine name others bindings)
IsNamedIn rule_lines _ = Unit {0}
