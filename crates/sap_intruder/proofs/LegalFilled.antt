-- A run that fills a short run is legal, and the short run is.
use Rattle.std.proofs.Common.{◌≡◌, ℕ, List, [], ◌∷◌, ◌++◌, Some, slice_get, refl, subst, append-nil}
use Rattle.sap_terms.specs.AdversaryFacts.{k_fact}
use Rattle.sap_terms.specs.Signature.{Sig}
use Rattle.sap_terms.specs.Trace.{Trace}
use Rattle.sap_terms.specs.Tree.{Tree}
use Rattle.sap_terms.specs.declared.fact.Fact.{Fact}
use Rattle.sap_terms.specs.declared.term.Term.{Term}
use Rattle.sap_terms.proofs.PlainLaws.Items.{contains_got}
use Rattle.sap_process.specs.Configuration.{Config}
use Rattle.sap_process.specs.Proc.{Proc}
use Rattle.sap_runs.specs.Inner.{InnerAction}
use Rattle.sap_runs.specs.Marks.{Mark}
use Rattle.sap_runs.specs.declared.process_step.PStep.{PStep}
use Rattle.sap_runs.specs.declared.process_step.PStep.TheVariants as line
use Rattle.sap_runs.specs.declared.short_step.SStep.{SStep}
use Rattle.sap_runs.specs.declared.short_step.SStep.TheVariants as short
use Rattle.sap_lines.specs.Lines.{IsProcessLine}
use Rattle.sap_lines.specs.OtherEntries.{AskTheSame, ask_nothing, send_on, take_in, LinesThatAskTheSameDoTheSame}
use Rattle.sap_lines.specs.Runs.{IsLegalProcessRun, CanGiveEach, ProcessLinesAreRuns}
use Rattle.sap_intruder.specs.ShortLines.{IsGiven, IsShortLine, acts, takes, sends, knows}
use Rattle.sap_intruder.specs.ShortRuns.{IsLegalShortRun}
use Rattle.sap_intruder.specs.FilledRuns.{Cites, Fills, same, input, sending, knowing, IsFilledRun, FilledRunsAreLegal}

module _ (W : Tree → Type 0) (runs : ProcessLinesAreRuns W) (alike : LinesThatAskTheSameDoTheSame W) (g : Sig) where
  -- the term of a cited entry can be given
  cited_given : (c : Config) (es : List Tree) (u : Term) (k : ℕ) → CanGiveEach g c es → (h : Cites g es u k) → IsGiven g c u h.term
  cited_given c es u k gives h = record { over = h.over; form = h.form; gives = gives h.term (contains_got es h.term k h.entry) }

  -- the line of the step, behind the one entry that it cites or behind none
  acted : (c d : Config) (es fs : List Tree) (s : PStep) (inner : List InnerAction) (label : List Fact) → AskTheSame es [] s s → IsProcessLine g W c es s inner label d fs
      → (added : List Tree) × IsProcessLine g W c [] s inner label d added
  acted c d es fs s inner label ask h = let too = alike g c d es [] fs s s inner label ask h in (too.added, too.second)

  filled_sending : (c d : Config) (es fs : List Tree) (t k : ℕ) (inner : List InnerAction) (label : List Fact) → CanGiveEach g c es → IsProcessLine g W c es (line.Send t k) inner label d fs
      → IsShortLine g W c (short.Send t) inner label d
  filled_sending c d es fs t k inner label gives h = go (entry_of d fs inner label h) where
    entry_of : (d : Config) (fs : List Tree) (inner : List InnerAction) (label : List Fact) → IsProcessLine g W c es (line.Send t k) inner label d fs → (x : Tree) × (slice_get es k ≡ Some x)
    entry_of d fs inner label (IsProcessLine.outputs_on {x = x} _ _ r here f n v) = (x, here)

    go : (x : Tree) × (slice_get es k ≡ Some x) → IsShortLine g W c (short.Send t) inner label d
    go e =
        let too = alike g c d es (e.0 ∷ []) fs (line.Send t k) (line.Send t 0) inner label (send_on t k 0 e.0 e.1 refl) h in
        sends (gives e.0 (contains_got es e.0 k e.1)) too.second

  filled_knowing : (c d : Config) (es fs : List Tree) (u : Term) (k : ℕ) (inner : List InnerAction) (label : List Fact) → CanGiveEach g c es → Cites g es u k
      → IsProcessLine g W c es (line.Know k) inner label d fs → IsShortLine g W c (short.Know u) inner label d
  filled_knowing c d es fs u k inner label gives h (IsProcessLine.knows _ y here) =
      let is : h.term ≡ y = cc (h.entry, here) in
      subst (λ (x : Tree). IsShortLine g W c (short.Know u) [] (k_fact x ∷ []) c) is (knows (cited_given c es u k gives h))

  filled_step : (c d : Config) (es fs : List Tree) (s : SStep) (step : PStep) (inner : List InnerAction) (label : List Fact) → CanGiveEach g c es → Fills g es s step
      → IsProcessLine g W c es step inner label d fs → IsShortLine g W c s inner label d
  filled_step c d es fs _ _ inner label gives (same {s = s} m) h = let a = acted c d es fs s inner label (ask_nothing s m) h in acts m a.1
  filled_step c d es fs _ _ inner label gives (input {t = t} {k = k} {u = u} cites) h =
      let too = alike g c d es (cites.term ∷ []) fs (line.In t k) (line.In t 0) inner label (take_in t k 0 cites.term cites.entry refl) h in
      takes (cited_given c es u k gives cites) too.second
  filled_step c d es fs _ _ inner label gives (sending {t = t} {k = k}) h = filled_sending c d es fs t k inner label gives h
  filled_step c d es fs _ _ inner label gives (knowing {u = u} {k = k} cites) h = filled_knowing c d es fs u k inner label gives cites h

  filled_run : (p : Proc) (ss : List SStep) (lines : List PStep) (c : Config) (es : List Tree) (tr : Trace) (marks : List Mark) → IsFilledRun g W p ss lines c es tr marks
      → IsLegalProcessRun g W p lines c es tr marks × IsLegalShortRun g W p ss c tr marks
  filled_run p ss lines c es tr marks IsFilledRun.starts = (IsLegalProcessRun.starts, IsLegalShortRun.starts)
  filled_run p ss _ c fs tr marks (IsFilledRun.finds {lines = lines} {es = es} step run out h) =
      let before = filled_run p ss lines c es tr marks run in
      let more : IsLegalProcessRun g W p (lines ++ step ∷ []) c fs (tr ++ []) (marks ++ []) = IsLegalProcessRun.further step [] [] before.0 h in
      let trace : IsLegalProcessRun g W p (lines ++ step ∷ []) c fs tr (marks ++ []) =
      subst (λ (t : Trace). IsLegalProcessRun g W p (lines ++ step ∷ []) c fs t (marks ++ [])) (append-nil tr) more in
      (subst (λ (m : List Mark). IsLegalProcessRun g W p (lines ++ step ∷ []) c fs tr m) (append-nil marks) trace, before.1)
  filled_run p _ _ d fs _ _ (IsFilledRun.follows {ss = ss} {lines = lines} {c = c} {es = es} {tr = tr} {marks = marks} s step inner label run fills h) =
      let before = filled_run p ss lines c es tr marks run in
      let gives : CanGiveEach g c es = (runs g p lines c es tr marks before.0).1 in
      (IsLegalProcessRun.further step inner label before.0 h, IsLegalShortRun.further s inner label before.1 (filled_step c d es fs s step inner label gives fills h))

pub filled_runs_are_legal : (W : Tree → Type 0) → ProcessLinesAreRuns W → LinesThatAskTheSameDoTheSame W → FilledRunsAreLegal W
filled_runs_are_legal W runs alike g p ss lines c es tr marks h = filled_run W runs alike g p ss lines c es tr marks h
