-- A run of a process that is legal within the limit has no line that is refused.
use Rattle.std.proofs.Common.{◌≡◌, ℕ, List, [], ◌∷◌, ◌++◌, inl, inr, refl, sym, subst}
use Rattle.sap_terms.specs.Signature.{Sig, HoldsBuiltins}
use Rattle.sap_terms.specs.Trace.{Trace, shown}
use Rattle.sap_terms.specs.Tree.{Tree}
use Rattle.sap_terms.specs.declared.fact.Fact.{Fact}
use Rattle.sap_process.specs.Configuration.{Config}
use Rattle.sap_process.specs.Proc.{Proc}
use Rattle.sap_process.specs.Ready.{IsReady}
use Rattle.sap_runs.specs.Inner.{InnerAction}
use Rattle.sap_runs.specs.Limits.{HasFewNodes}
use Rattle.sap_runs.specs.Marks.{Mark}
use Rattle.sap_runs.specs.declared.process_step.PStep.{PStep}
use Rattle.sap_lines.specs.Answers.{MatchesExactly, ProcessLinesHaveOneOutcome, ProcessLinesHaveOneAnswer, RunsMatchExactly}
use Rattle.sap_lines.specs.Faults.{IsRefused}
use Rattle.sap_lines.specs.Lines.{IsProcessLine}
use Rattle.sap_lines.specs.Runs.{IsLegalProcessRun, starts, further, SmallProcessLinesAreLines, SmallProcessRunsAreLegal}
use Rattle.sap_lines.specs.declared.fault.PFault.{PFault}
use Rattle.sap_lines.specs.FirstRefused.{IsFirstRefusedOfProcess}
use Rattle.sap_replay.proofs.Ends.{same_ends, at_end, none_inside}

-- the laws of lines of processes
pub record Laws : Type 0 where
  pub outcome : ProcessLinesHaveOneOutcome
  pub answer : ProcessLinesHaveOneAnswer
  pub exactly : RunsMatchExactly
  pub small_lines : SmallProcessLinesAreLines
  pub small_runs : SmallProcessRunsAreLegal

-- the lines are a legal run within the limit, behind which the line is possible
pub record Reached (g : Sig) (p : Proc) (before : List PStep) (line : PStep) : Type 0 where
  pub config : Config
  pub entries : List Tree
  pub trace : Trace
  pub marks : List Mark
  pub legal : IsLegalProcessRun g HasFewNodes p before config entries trace marks
  pub inner : List InnerAction
  pub label : List Fact
  pub next : Config
  pub more : List Tree
  pub possible : IsProcessLine g HasFewNodes config entries line inner label next more

-- so it is with each line of a legal run
reached : (g : Sig) (p : Proc) {lines : List PStep} {c : Config} {es : List Tree} {tr : Trace} {ms : List Mark} (before after : List PStep) (line : PStep)
    → IsLegalProcessRun g HasFewNodes p lines c es tr ms → lines ≡ before ++ line ∷ after → Reached g p before line
reached g p before after line starts e = absurd (none_inside before after line e)
reached g p before after line (further {lines = lines} {c = c} {d = d} {es = es} {fs = fs} {tr = tr} {marks = ms} last inner label run possible) e =
    elim (at_end lines before after last line e) [
      | inl h ↦ record {
        config = c;
        entries = es;
        trace = tr;
        marks = ms;
        legal = subst (λ (ls : List PStep). IsLegalProcessRun g HasFewNodes p ls c es tr ms) h.0 run;
        inner = inner;
        label = label;
        next = d;
        more = fs;
        possible = subst (λ (l : PStep). IsProcessLine g HasFewNodes c es l inner label d fs) h.1 possible;
      }
      | inr h ↦ reached g p before h.0 line run h.1
    ]

-- what two runs lead to and show is the same
pub record AreSame (c d : Config) (es fs : List Tree) (tr other : Trace) : Type 0 where
  pub configs : c ≡ d
  pub entries : es ≡ fs
  pub traces : tr ≡ other

module _ (laws : Laws) (g : Sig) (p : Proc) (hold : HoldsBuiltins g) (ready : IsReady g p) where
  exactly : {lines : List PStep} {c : Config} {es : List Tree} {tr : Trace} {ms : List Mark} → IsLegalProcessRun g HasFewNodes p lines c es tr ms → MatchesExactly g c es
  exactly run = laws.exactly g p _ _ _ _ _ hold ready (laws.small_runs g p _ _ _ _ _ run)

  -- legal runs with the same lines lead to the same, and show the same
  pub one_run : {lines others : List PStep} {c d : Config} {es fs : List Tree} {tr other : Trace} {ms ns : List Mark} → IsLegalProcessRun g HasFewNodes p lines c es tr ms
      → IsLegalProcessRun g HasFewNodes p others d fs other ns → lines ≡ others → AreSame c d es fs tr other
  one_run starts starts e = record { configs = refl; entries = refl; traces = refl }
  one_run starts (further {lines = ls} line inner label run possible) e = absurd (none_inside ls [] line e)
  one_run (further {lines = ls} line inner label run possible) starts e = absurd (none_inside ls [] line (sym e))
  one_run (further {lines = ls} {c = c} {es = es} line inner label run possible) (further {lines = ks} {c = c_too} {d = d_too} {es = es_too} {fs = fs_too} line_too inner_too label_too run_too possible_too) e =
      let ends = same_ends ls ks line line_too e in
      let behind = one_run run run_too ends.0 in
      let moved : IsProcessLine g HasFewNodes c es line inner_too label_too d_too fs_too =
      subst (λ (l : PStep). IsProcessLine g HasFewNodes c es l inner_too label_too d_too fs_too) (sym ends.1)
      (subst (λ (x : List Tree). IsProcessLine g HasFewNodes c x line_too inner_too label_too d_too fs_too) (sym behind.entries)
      (subst (λ (x : Config). IsProcessLine g HasFewNodes x es_too line_too inner_too label_too d_too fs_too) (sym behind.configs) possible_too)) in
      let one = laws.outcome g c _ d_too es _ fs_too line inner inner_too label label_too (exactly run)
      (laws.small_lines g c _ es _ line inner label possible) (laws.small_lines g c d_too es fs_too line inner_too label_too moved) in
      record { configs = one.configurations; entries = one.entries; traces = λ i. behind.traces i ++ shown (one.labels i) }

  -- no line of a legal run is the first that is refused
  pub never_refused : {lines : List PStep} {c : Config} {es : List Tree} {tr : Trace} {ms : List Mark} (number : ℕ) (e : PFault) → IsLegalProcessRun g HasFewNodes p lines c es tr ms
      → IsFirstRefusedOfProcess g p lines number e → ⊥
  never_refused number e run r =
      let there = reached g p r.before r.after r.line run r.cut in
      let same = one_run there.legal r.legal refl in
      let refused : IsRefused g there.config there.entries r.line e =
      subst (λ (x : List Tree). IsRefused g there.config x r.line e) (sym same.entries) (subst (λ (x : Config). IsRefused g x r.entries r.line e) (sym same.configs) r.refused) in
      r.cause (laws.answer g there.config there.next there.entries there.more r.line there.inner there.label e (exactly there.legal) there.possible refused)
