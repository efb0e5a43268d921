-- A small short run, and steps that are refused, to be tried by hand.
use Rattle.std.specs.Prelude.{List, [], ◌∷◌, codes}
use Rattle.sap_terms.specs.AdversaryFacts.{k_fact}
use Rattle.sap_terms.specs.Equations.{app1}
use Rattle.sap_terms.specs.Signature.{Sig, no_builtins}
use Rattle.sap_terms.specs.Trace.{Trace}
use Rattle.sap_terms.specs.Tree.{Tree}
use Rattle.sap_terms.specs.View.{term}
use Rattle.sap_process.specs.StepExamples.{a}
use Rattle.sap_runs.specs.declared.process_step.PStep.{PStep}
use Rattle.sap_runs.specs.declared.process_step.PStep.TheVariants as line
use Rattle.sap_runs.specs.declared.short_step.SStep.{SStep}
use Rattle.sap_runs.specs.declared.short_step.SStep.TheVariants as short

-- a signature without symbols
abbrev pub bare : Sig
bare = record { symbols = []; builtins = no_builtins }

-- q('a'), of a symbol that isn't held
abbrev pub unheld : Tree
unheld = app1 (codes "q") a

-- the step `know 'a'`, alone
abbrev pub know_a : List SStep
know_a = short.Know (term a) ∷ []

-- the lines `pub 'a'` and `know 0`
abbrev pub know_a_lines : List PStep
know_a_lines = line.Public (codes "a") ∷ line.Know 0 ∷ []

-- what both show
abbrev pub know_a_trace : Trace
know_a_trace = (k_fact a ∷ []) ∷ []
