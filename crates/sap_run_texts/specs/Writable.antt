-- What a step needs so that it can be written: numbers of 64 bits, and names and bindings that can be written.
use Rattle.std.specs.Prelude.{List, [], ◌∷◌}
use Rattle.sap_runs.specs.declared.process_step.PStep.{PStep}
use Rattle.sap_runs.specs.declared.process_step.PStep.TheVariants as step
use Rattle.sap_runs.specs.declared.rule_step.RStep.{RStep}
use Rattle.sap_runs.specs.declared.rule_step.RStep.TheVariants as rstep
use Rattle.sap_run_lines.specs.RunTerms.{IsNumber, IsRunName, IsRunContent}
use Rattle.sap_run_lines.specs.LineWords.{LineWord, identifier, number, fresh_name, public_name, bound}
use Rattle.sap_run_lines.specs.StepLines.{with_words}
use Rattle.sap_run_lines.specs.Spellable.{AreWritableWords}

-- a number that a word writes by itself is one of 64 bits; the term of a binding isn't looked at
abbrev pub IsNumbered : LineWord → Type 0
IsNumbered (number n) = IsNumber n
IsNumbered (fresh_name n) = IsNumber n
IsNumbered (identifier x) = Unit {0}
IsNumbered (public_name s) = Unit {0}
IsNumbered (bound v t) = Unit {0}

-- each of these words
abbrev pub AreNumbered : List LineWord → Type 0
AreNumbered [] = Unit {0}
AreNumbered (w ∷ ws) = IsNumbered w × AreNumbered ws

-- what a step of a process takes from elsewhere can be written: the public name that is written down, the symbol that is
-- applied, the bindings of an embedded rule with their terms; other steps have numbers alone
abbrev pub CanBeNamed : PStep → Type 0
CanBeNamed (step.Public a) = IsRunContent a
CanBeNamed (step.Apply f entries) = IsRunName f
CanBeNamed (step.Embedded t facts bindings) = AreWritableWords (with_words bindings)
CanBeNamed _ = Unit {0}

-- so it is with a step of rules: the public name, the symbol, the name of the rule that is used, with its bindings
abbrev pub RuleCanBeNamed : RStep → Type 0
RuleCanBeNamed (rstep.Public a) = IsRunContent a
RuleCanBeNamed (rstep.Apply f entries) = IsRunName f
RuleCanBeNamed (rstep.Rule name facts bindings) = IsRunName name
    × AreWritableWords (with_words bindings)
RuleCanBeNamed _ = Unit {0}
