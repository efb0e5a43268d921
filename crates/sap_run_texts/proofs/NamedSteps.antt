-- A step can be written whose names may stand so, and whose numbers are of 64 bits.
use Rattle.std.proofs.Common.{ℕ, List, [], ◌∷◌, ◌++◌, map, refl}
use Rattle.sap_text.specs.Tokens.{ident}
use Rattle.sap_runs.specs.declared.process_step.PStep.{PStep}
use Rattle.sap_runs.specs.declared.process_step.PStep.TheVariants as step
use Rattle.sap_runs.specs.declared.rule_step.RStep.{RStep}
use Rattle.sap_runs.specs.declared.rule_step.RStep.TheVariants as rstep
use Rattle.sap_run_lines.specs.LineWords.{LineWord, number}
use Rattle.sap_run_lines.specs.StepLines.{process_words, rule_words, with_words, NamesSymbol, NamesRule}
use Rattle.sap_run_lines.specs.Spellable.{AreWritableWords, IsWritableProcess, IsWritableRule}
use Rattle.sap_run_texts.specs.Writable.{AreNumbered, CanBeNamed, RuleCanBeNamed}

-- numbers alone
numbers_written : (ns : List ℕ) → AreNumbered (map number ns) → AreWritableWords (map number ns)
numbers_written [] h = tt
numbers_written (n ∷ ns) h = (h.0, numbers_written ns h.1)

-- numbers before words
numbers_before : (ns : List ℕ) (ws : List LineWord) → AreNumbered (map number ns ++ ws) → AreWritableWords ws → AreWritableWords (map number ns ++ ws)
numbers_before [] ws h w = w
numbers_before (n ∷ ns) ws h w = (h.0, numbers_before ns ws h.1 w)

-- the word of the step is an identifier
words_written : (s : PStep) → CanBeNamed s → AreNumbered (process_words s) → AreWritableWords (process_words s)
words_written (step.Nil t) c h = (ident refl refl, h.1)
words_written (step.Par t) c h = (ident refl refl, h.1)
words_written (step.Rep t) c h = (ident refl refl, h.1)
words_written (step.New t n) c h = (ident refl refl, h.1)
words_written (step.Out t) c h = (ident refl refl, h.1)
words_written (step.Send t k) c h = (ident refl refl, h.1)
words_written (step.In t k) c h = (ident refl refl, h.1)
words_written (step.Sync s r) c h = (ident refl refl, h.1)
words_written (step.Then t) c h = (ident refl refl, h.1)
words_written (step.Else t) c h = (ident refl refl, h.1)
words_written (step.Event t) c h = (ident refl refl, h.1)
words_written (step.Insert t) c h = (ident refl refl, h.1)
words_written (step.Delete t) c h = (ident refl refl, h.1)
words_written (step.Found t) c h = (ident refl refl, h.1)
words_written (step.Missing t) c h = (ident refl refl, h.1)
words_written (step.Lock t) c h = (ident refl refl, h.1)
words_written (step.Unlock t) c h = (ident refl refl, h.1)
words_written (step.Embedded t facts bindings) c h = (ident refl refl, (h.1.0, numbers_before facts (with_words bindings) h.1.1 c))
words_written (step.Name n) c h = (ident refl refl, h.1)
words_written (step.Public a) c h = (ident refl refl, (c, tt))
words_written (step.Apply f entries) c h = (ident refl refl, (c.is, numbers_written entries h.1.1))
words_written (step.Know k) c h = (ident refl refl, h.1)

-- the symbol that it applies is a name
symbol_named : (s : PStep) → CanBeNamed s → NamesSymbol s
symbol_named (step.Nil t) c = tt
symbol_named (step.Par t) c = tt
symbol_named (step.Rep t) c = tt
symbol_named (step.New t n) c = tt
symbol_named (step.Out t) c = tt
symbol_named (step.Send t k) c = tt
symbol_named (step.In t k) c = tt
symbol_named (step.Sync s r) c = tt
symbol_named (step.Then t) c = tt
symbol_named (step.Else t) c = tt
symbol_named (step.Event t) c = tt
symbol_named (step.Insert t) c = tt
symbol_named (step.Delete t) c = tt
symbol_named (step.Found t) c = tt
symbol_named (step.Missing t) c = tt
symbol_named (step.Lock t) c = tt
symbol_named (step.Unlock t) c = tt
symbol_named (step.Embedded t facts bindings) c = tt
symbol_named (step.Name n) c = tt
symbol_named (step.Public a) c = tt
symbol_named (step.Apply f entries) c = c
symbol_named (step.Know k) c = tt

pub named_written : (s : PStep) → CanBeNamed s → AreNumbered (process_words s) → IsWritableProcess s
named_written s c h = record { named = symbol_named s c; words = words_written s c h }

-- a step of rules
rule_words_written : (s : RStep) → RuleCanBeNamed s → AreNumbered (rule_words s) → AreWritableWords (rule_words s)
rule_words_written (rstep.Fresh n) c h = (ident refl refl, h.1)
rule_words_written (rstep.Learn f) c h = (ident refl refl, h.1)
rule_words_written (rstep.Own f) c h = (ident refl refl, h.1)
rule_words_written (rstep.Public a) c h = (ident refl refl, (c, tt))
rule_words_written (rstep.Apply f entries) c h = (ident refl refl, (c.is, numbers_written entries h.1.1))
rule_words_written (rstep.Know k) c h = (ident refl refl, h.1)
rule_words_written (rstep.Rule name facts bindings) c h = (ident refl refl, (c.0.is, numbers_before facts (with_words bindings) h.1.1 c.1))

rule_named : (s : RStep) → RuleCanBeNamed s → NamesRule s
rule_named (rstep.Fresh n) c = tt
rule_named (rstep.Learn f) c = tt
rule_named (rstep.Own f) c = tt
rule_named (rstep.Public a) c = tt
rule_named (rstep.Apply f entries) c = c
rule_named (rstep.Know k) c = tt
rule_named (rstep.Rule name facts bindings) c = c.0

pub named_rule_written : (s : RStep) → RuleCanBeNamed s → AreNumbered (rule_words s) → IsWritableRule s
named_rule_written s c h = record { named = rule_named s c; words = rule_words_written s c h }
