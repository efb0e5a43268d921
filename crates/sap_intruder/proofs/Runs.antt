-- Steps of short runs are lines behind some entries, which the adversary can give; so a legal short run is a run.
use Rattle.std.proofs.Common.{◌≡◌, List, [], ◌∷◌, subst, ◌⊎◌, inl, inr, arith}
use Rattle.std.specs.Prelude.{Contains}
use Rattle.std.proofs.lemmas.List.Elements.{Contains-push_cases}
use Rattle.sap_terms.specs.Signature.{Sig}
use Rattle.sap_terms.specs.Trace.{Trace}
use Rattle.sap_terms.specs.Tree.{Tree}
use Rattle.sap_terms.specs.declared.fact.Fact.{Fact}
use Rattle.sap_process.specs.Configuration.{Config, initial, CanGive}
use Rattle.sap_process.specs.Proc.{Proc}
use Rattle.sap_process.specs.ProcessSteps.{ProcessStep, ProcessRun}
use Rattle.sap_runs.specs.Inner.{InnerAction}
use Rattle.sap_runs.specs.Marks.{Mark}
use Rattle.sap_runs.specs.Short.{MayStand}
use Rattle.sap_runs.specs.declared.process_step.PStep.{PStep}
use Rattle.sap_runs.specs.declared.process_step.PStep.TheVariants as line
use Rattle.sap_runs.specs.declared.short_step.SStep.{SStep}
use Rattle.sap_lines.specs.Runs.{IsStepOf, CanGiveEach, ProcessLinesAreSteps}
use Rattle.sap_intruder.specs.ShortLines.{IsShortLine, acts, takes, sends, knows}
use Rattle.sap_intruder.specs.ShortRuns.{IsLegalShortRun, starts, further, ShortRunsAreRuns}

-- no entries, or one that can be given
gives_none : (g : Sig) (c : Config) → CanGiveEach g c []
gives_none g c x m = absurd (omega (arith, m.1))

gives_one : (g : Sig) (c : Config) (y : Tree) → CanGive g c y → CanGiveEach g c (y ∷ [])
gives_one g c y h x m = at (Contains-push_cases [] y x m) where
  at : Contains {X = Tree} [] x ⊎ (y ≡ x) → CanGive g c x
  at (inl none) = absurd (omega (arith, none.1))
  at (inr is) = subst (CanGive g c) is h

-- a line that may stand in a short run is a step
stands_step : (g : Sig) (c d : Config) (s : PStep) (label : List Fact) → MayStand s → IsStepOf g c s label d → ProcessStep g c label d
stands_step g c d (line.Nil t) label m h = h
stands_step g c d (line.Par t) label m h = h
stands_step g c d (line.Rep t) label m h = h
stands_step g c d (line.New t n) label m h = h
stands_step g c d (line.Out t) label m h = h
stands_step g c d (line.Send t k) label m h = h
stands_step g c d (line.In t k) label m h = h
stands_step g c d (line.Sync s t) label m h = h
stands_step g c d (line.Then t) label m h = h
stands_step g c d (line.Else t) label m h = h
stands_step g c d (line.Event t) label m h = h
stands_step g c d (line.Insert t) label m h = h
stands_step g c d (line.Delete t) label m h = h
stands_step g c d (line.Found t) label m h = h
stands_step g c d (line.Missing t) label m h = h
stands_step g c d (line.Lock t) label m h = h
stands_step g c d (line.Unlock t) label m h = h
stands_step g c d (line.Embedded t ks b) label m h = h
stands_step g c d (line.Name n) label m h = h
stands_step g c d (line.Public a) label m h = absurd m
stands_step g c d (line.Apply f ks) label m h = absurd m
stands_step g c d (line.Know k) label m h = h

module _ (W : Tree → Type 0) (steps : ProcessLinesAreSteps W) (g : Sig) where
  short_step : (c d : Config) (s : SStep) (inner : List InnerAction) (label : List Fact) → IsShortLine g W c s inner label d → ProcessStep g c label d
  short_step c d _ inner label (acts {s = s} {fs = fs} m h) = stands_step g c d s label m ((steps g c d [] fs s inner label (gives_none g c) h).0)
  short_step c d _ inner label (takes {t = t} {x = x} {fs = fs} given h) = (steps g c d (x ∷ []) fs (line.In t 0) inner label (gives_one g c x given.gives) h).0
  short_step c d _ inner label (sends {t = t} {x = x} {fs = fs} gives h) = (steps g c d (x ∷ []) fs (line.Send t 0) inner label (gives_one g c x gives) h).0
  short_step c d _ inner label (knows {x = x} given) = ProcessStep.knows x given.gives

  short_run : (p : Proc) (ss : List SStep) (c : Config) (tr : Trace) (marks : List Mark) → IsLegalShortRun g W p ss c tr marks → ProcessRun g (initial p) c tr
  short_run p ss c tr marks starts = ProcessRun.starts
  short_run p ss d full all (further {ss = before} {c = c} {tr = tr} {marks = marks} s inner label run h) =
      ProcessRun.further (short_run p before c tr marks run) (short_step c d s inner label h)

pub short_runs_are_runs : (W : Tree → Type 0) → ProcessLinesAreSteps W → ShortRunsAreRuns W
short_runs_are_runs W steps g p ss c tr marks h = short_run W steps g p ss c tr marks h
