-- Which names stand in a run that fills a short run without idle lines, and how many entries it has.
use Rattle.std.specs.Prelude.{◌≤◌, Bool, List, [], ◌∷◌, length}
use Rattle.sap_terms.specs.Signature.{Sig, HoldsBuiltins}
use Rattle.sap_terms.specs.Trace.{Trace}
use Rattle.sap_terms.specs.Tree.{Tree}
use Rattle.sap_terms.specs.View.{tree}
use Rattle.sap_process.specs.Configuration.{Config}
use Rattle.sap_process.specs.Proc.{Proc}
use Rattle.sap_process.specs.Ready.{IsReady}
use Rattle.sap_runs.specs.Marks.{Mark}
use Rattle.sap_runs.specs.declared.process_step.PStep.{PStep}
use Rattle.sap_runs.specs.declared.short_step.SStep.{SStep}
use Rattle.sap_runs.specs.declared.short_step.SStep.TheVariants as short
use Rattle.sap_lines.specs.NamesPass.{NamesPass, ProcessPasses, LinePasses, LinesPass}
use Rattle.sap_lines.specs.Runs.{IsLegalProcessRun}
use Rattle.sap_intruder.specs.FilledRuns.{IsSparingRun}

-- the names in the step pass the test: those in its term, or those that a line brings which stands as it is
abbrev pub ShortStepPasses : (Tree → Bool) → SStep → Type 0
ShortStepPasses test (short.Act step) = LinePasses test step
ShortStepPasses test (short.In t u) = NamesPass test (tree u)
ShortStepPasses test (short.Send t) = Unit {0}
ShortStepPasses test (short.Know u) = NamesPass test (tree u)

-- so it is with each of these steps
abbrev pub ShortStepsPass : (Tree → Bool) → List SStep → Type 0
ShortStepsPass test [] = Unit {0}
ShortStepsPass test (s ∷ ss) = ShortStepPasses test s × ShortStepsPass test ss

-- A test that the names in a ready process pass, and those in the steps of a short run, those pass that a run brings which fills it without
-- idle lines: what it writes down stands in the process or in the short run.
abbrev pub SparingRunsBringNoName : Type 0
SparingRunsBringNoName =
    (test : Tree → Bool) (g : Sig) (p : Proc) (ss : List SStep) (lines : List PStep) (c : Config)
    (es : List Tree) (tr : Trace) (marks : List Mark) → HoldsBuiltins g → IsReady g p
    → ProcessPasses test p → ShortStepsPass test ss → IsSparingRun g p ss lines c es tr marks
    → LinesPass test lines

-- each entry comes of a line of its own
abbrev pub EntriesAreFew : (Tree → Type 0) → Type 0
EntriesAreFew W =
    (g : Sig) (p : Proc) (lines : List PStep) (c : Config) (es : List Tree) (tr : Trace)
    (marks : List Mark) → IsLegalProcessRun g W p lines c es tr marks
    → length es ≤ length lines
