-- The runs of a process that a short run stands for.
use Rattle.std.specs.Prelude.{◌≡◌, ℕ, List, [], ◌∷◌, ◌++◌, Some, map, slice_get, All}
use Rattle.sap_terms.specs.Equations.{equations}
use Rattle.sap_terms.specs.Message.{IsOver}
use Rattle.sap_terms.specs.Normal.{IsNormalForm}
use Rattle.sap_terms.specs.Signature.{Sig, HoldsBuiltins}
use Rattle.sap_terms.specs.Trace.{Trace, shown}
use Rattle.sap_terms.specs.Tree.{Tree}
use Rattle.sap_terms.specs.View.{tree}
use Rattle.sap_terms.specs.declared.fact.Fact.{Fact}
use Rattle.sap_terms.specs.declared.term.Term.{Term}
use Rattle.sap_derive.specs.Found.{IsFoundBy}
use Rattle.sap_derive.specs.declared.derivation.Derivation.{Derivation}
use Rattle.sap_derive.specs.declared.line.Line.{Line}
use Rattle.sap_derive.specs.declared.line.Line.TheVariants.{Public, Apply}
use Rattle.sap_process.specs.Configuration.{Config, initial}
use Rattle.sap_process.specs.Proc.{Proc}
use Rattle.sap_runs.specs.Inner.{InnerAction}
use Rattle.sap_runs.specs.Limits.{AnySize, HasFewNodes}
use Rattle.sap_runs.specs.Marks.{Mark, marks_of}
use Rattle.sap_runs.specs.Short.{MayStand, IsShortStep}
use Rattle.sap_runs.specs.declared.process_step.PStep.{PStep}
use Rattle.sap_runs.specs.declared.process_step.PStep.TheVariants as line
use Rattle.sap_runs.specs.declared.short_step.SStep.{SStep}
use Rattle.sap_runs.specs.declared.short_step.SStep.TheVariants as short
use Rattle.sap_lines.specs.Channels.{SendsOn}
use Rattle.sap_lines.specs.Lines.{IsProcessLine}
use Rattle.sap_lines.specs.Runs.{IsLegalProcessRun}
use Rattle.sap_intruder.specs.ShortRuns.{IsLegalShortRun}

-- the line cites the entry of this number, whose term is the normal form of the written term
pub record Cites (g : Sig) (es : List Tree) (u : Term) (k : ℕ) : Type 0 where
  pub term : Tree
  pub entry : slice_get es k ≡ Some term
  pub over : IsOver g (tree u)
  pub form : IsNormalForm (equations g) (tree u) term

-- behind these entries the line is what the step stands for
pub data Fills (g : Sig) (es : List Tree) : SStep → PStep → Type 0 where
  same : {s : PStep} → MayStand s → Fills g es (short.Act s) s
  input : {t k : ℕ} {u : Term} → Cites g es u k → Fills g es (short.In t u) (line.In t k)
  sending : {t k : ℕ} → Fills g es (short.Send t) (line.Send t k)
  knowing : {u : Term} {k : ℕ} → Cites g es u k → Fills g es (short.Know u) (line.Know k)

-- a line that a short run leaves out: it writes down a public name, or applies a symbol
abbrev pub IsLeftOut : PStep → Type 0
IsLeftOut (line.Public a) = Unit {0}
IsLeftOut (line.Apply f entries) = Unit {0}
IsLeftOut _ = ⊥

-- The lines are possible in turn, from the start of the process on, and without those that write down
-- public names and apply symbols they are the steps of the short run, line by line. The last leads to
-- this configuration with these entries, and these are the trace and the marks.
pub data IsFilledRun (g : Sig) (W : Tree → Type 0) (p : Proc)
    : List SStep → List PStep → Config → List Tree → Trace → List Mark → Type 0 where
  starts : IsFilledRun g W p [] [] (initial p) [] [] []
  finds : {ss : List SStep} {lines : List PStep} {c : Config} {es fs : List Tree} {tr : Trace}
      {marks : List Mark} (step : PStep) → IsFilledRun g W p ss lines c es tr marks → IsLeftOut step
      → IsProcessLine g W c es step [] [] c fs
      → IsFilledRun g W p ss (lines ++ step ∷ []) c fs tr marks
  follows : {ss : List SStep} {lines : List PStep} {c d : Config} {es fs : List Tree} {tr : Trace}
      {marks : List Mark} (s : SStep) (step : PStep) (inner : List InnerAction) (label : List Fact)
      → IsFilledRun g W p ss lines c es tr marks → Fills g es s step
      → IsProcessLine g W c es step inner label d fs
      → IsFilledRun g W p (ss ++ s ∷ []) (lines ++ step ∷ []) d fs (tr ++ shown label)
      (marks ++ marks_of inner label)

-- what a step asks the adversary for: what its term is, or the channel on which the thread sends
pub data AsksFor (g : Sig) (c : Config) : SStep → Tree → Type 0 where
  to_take : {t : ℕ} {u : Term} {x : Tree} → IsNormalForm (equations g) (tree u) x
      → AsksFor g c (short.In t u) x
  to_send : {t : ℕ} {x : Tree} → SendsOn g c t x → AsksFor g c (short.Send t) x
  to_show : {u : Term} {x : Tree} → IsNormalForm (equations g) (tree u) x
      → AsksFor g c (short.Know u) x

-- Behind these entries these lines are found for the step, and give these terms: for one that asks for a term, lines that find it, none
-- of which gives an entry, or a term that stands in no entry and not in what is asked for; for any other none.
pub data AreFoundFor (g : Sig) (c : Config) (es : List Tree)
    : SStep → List Line → List Tree → Type 0 where
  none_found : {s : PStep} → AreFoundFor g c es (short.Act s) [] []
  all_found : {s : SStep} {x : Tree} {d : Derivation} {given : List Tree} → AsksFor g c s x
      → IsFoundBy g es x d given → AreFoundFor g c es s d.lines given

-- the line of a process that a line of a derivation is
abbrev pub line_step : Line → PStep
line_step (Public a) = line.Public a
line_step (Apply f ks) = line.Apply f ks

-- The same with no idle lines: before each line that a step stands for come those that are found for it, within the limit, and no others.
pub data IsSparingRun (g : Sig) (p : Proc)
    : List SStep → List PStep → Config → List Tree → Trace → List Mark → Type 0 where
  begins : IsSparingRun g p [] [] (initial p) [] [] []
  goes_on : {ss : List SStep} {before : List PStep} {c d : Config} {es fs : List Tree} {tr : Trace}
      {marks : List Mark} (s : SStep) (step : PStep) (found : List Line) (given : List Tree)
      (inner : List InnerAction) (label : List Fact)
      → IsSparingRun g p ss before c es tr marks → AreFoundFor g c es s found given
      → Fills g (es ++ given) s step
      → IsProcessLine g HasFewNodes c (es ++ given) step inner label d fs
      → IsSparingRun g p (ss ++ s ∷ []) (before ++ (map line_step found ++ step ∷ [])) d fs
      (tr ++ shown label) (marks ++ marks_of inner label)

-- so it is such a run
abbrev pub SparingRunsFill : Type 0
SparingRunsFill =
    (g : Sig) (p : Proc) (ss : List SStep) (lines : List PStep) (c : Config) (es : List Tree)
    (tr : Trace) (marks : List Mark) → IsSparingRun g p ss lines c es tr marks
    → IsFilledRun g HasFewNodes p ss lines c es tr marks

-- a run that fills a short run is legal, and the short run is
abbrev pub FilledRunsAreLegal : (Tree → Type 0) → Type 0
FilledRunsAreLegal W =
    (g : Sig) (p : Proc) (ss : List SStep) (lines : List PStep) (c : Config) (es : List Tree)
    (tr : Trace) (marks : List Mark) → IsFilledRun g W p ss lines c es tr marks
    → IsLegalProcessRun g W p lines c es tr marks × IsLegalShortRun g W p ss c tr marks

-- and each legal short run is filled by some run, limits aside
abbrev pub LegalShortRunsCanBeFilled : Type 0
LegalShortRunsCanBeFilled =
    (g : Sig) (p : Proc) (ss : List SStep) (c : Config) (tr : Trace) (marks : List Mark)
    → IsLegalShortRun g AnySize p ss c tr marks
    → (lines : List PStep) × (es : List Tree) × IsFilledRun g AnySize p ss lines c es tr marks

-- and one within the limit by a run within it, if its steps may stand in a short run
abbrev pub SmallShortRunsCanBeFilled : Type 0
SmallShortRunsCanBeFilled =
    (g : Sig) (p : Proc) (ss : List SStep) (c : Config) (tr : Trace) (marks : List Mark)
    → HoldsBuiltins g → All IsShortStep ss → IsLegalShortRun g HasFewNodes p ss c tr marks
    → (lines : List PStep) × (es : List Tree) × IsFilledRun g HasFewNodes p ss lines c es tr marks

-- the lines are a run that fills the short run within the limit, without idle lines
pub record IsFilled (g : Sig) (p : Proc) (ss : List SStep) (lines : List PStep) : Type 0 where
  pub config : Config
  pub entries : List Tree
  pub trace : Trace
  pub marks : List Mark
  pub run : IsSparingRun g p ss lines config entries trace marks
