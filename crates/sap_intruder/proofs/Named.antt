-- A run without idle lines brings no name that stands neither in the process nor in the short run.
use Rattle.std.proofs.Common.{◌≡◌, ◌≤◌, ◌+◌, ℕ, Bool, List, [], ◌∷◌, ◌++◌, length, map, sym, ap, subst, arith, inl, inr}
use Rattle.std.specs.Prelude.{All, Contains}
use Rattle.std.proofs.lemmas.List.{length-append}
use Rattle.std.proofs.lemmas.List.Elements.{All-contains, Contains-push, Contains-append_left}
use Rattle.sap_terms.specs.Equations.{equations}
use Rattle.sap_terms.specs.Laws.{LeavesAreNormal}
use Rattle.sap_terms.specs.Signature.{Sig, HoldsBuiltins}
use Rattle.sap_terms.specs.Trace.{Trace}
use Rattle.sap_terms.specs.Tree.{Tree, public}
use Rattle.sap_terms.specs.View.{tree}
use Rattle.sap_terms.proofs.PlainLaws.Items.{cons_cases}
use Rattle.sap_rewrite.specs.Laws.{EqualityIsKept, FormIsOne, SymbolsReduceOnce}
use Rattle.sap_derive.specs.Lines.{Give, no_lines, one_more, IsLine, writes, applies}
use Rattle.sap_derive.specs.Near.{IsNear}
use Rattle.sap_derive.specs.declared.line.Line.{Line}
use Rattle.sap_process.specs.Configuration.{Config}
use Rattle.sap_process.specs.Proc.{Proc}
use Rattle.sap_process.specs.Ready.{IsReady}
use Rattle.sap_runs.specs.Limits.{HasFewNodes}
use Rattle.sap_runs.specs.Marks.{Mark}
use Rattle.sap_runs.specs.declared.process_step.PStep.{PStep}
use Rattle.sap_runs.specs.declared.short_step.SStep.{SStep}
use Rattle.sap_lines.specs.Lines.{IsProcessLine}
use Rattle.sap_lines.specs.NamesPass.{NamesPass, ProcessPasses, LinePasses, LinesPass, ConfigPasses, NamesStandInRuns}
use Rattle.sap_lines.specs.Runs.{IsLegalProcessRun}
use Rattle.sap_intruder.specs.FilledNames.{ShortStepPasses, ShortStepsPass, SparingRunsBringNoName, EntriesAreFew}
use Rattle.sap_intruder.specs.FilledRuns.{Fills, input, sending, knowing, FilledRunsAreLegal, AsksFor, to_take, to_send, to_show, AreFoundFor, none_found, all_found, line_step, IsSparingRun, begins, goes_on}
use Rattle.sap_intruder.specs.FilledRuns.{same as as_it_is}
use Rattle.sap_intruder.specs.code.Filled.{AddsOne}
use Rattle.sap_intruder.proofs.Entering.{adds_one}
use Rattle.sap_intruder.proofs.Sizes.{forms_pass, subterm_passes}
use Rattle.sap_intruder.proofs.Sparing.{mapped_more, sparing_runs_fill}

module _ (test : Tree → Bool) where
  lines_join : (xs ys : List PStep) → LinesPass test xs → LinesPass test ys → LinesPass test (xs ++ ys)
  lines_join [] ys h k = k
  lines_join (x ∷ xs) ys h k = (h.0, lines_join xs ys h.1 k)

  steps_parts : (xs : List SStep) (s : SStep) → ShortStepsPass test (xs ++ s ∷ []) → ShortStepsPass test xs × ShortStepPasses test s
  steps_parts [] s h = (tt, h.0)
  steps_parts (x ∷ xs) s h = let rest = steps_parts xs s h.1 in ((h.0, rest.0), rest.1)

  -- a line that gives a term whose names pass
  line_passes : (g : Sig) (es : List Tree) (l : Line) (u : Tree) → IsLine g es l u → NamesPass test u → LinePasses test (line_step l)
  line_passes g es _ _ (writes a) h = h
  line_passes g es _ _ (applies f ks us u free arity at form size) h = tt

  found_pass : (g : Sig) (es : List Tree) (ls : List Line) (us : List Tree) → Give g es ls us → ((u : Tree) → Contains us u → NamesPass test u) → LinesPass test (map line_step ls)
  found_pass g es _ _ no_lines h = tt
  found_pass g es _ _ (one_more ls us l u gives is) h =
      subst (LinesPass test) (sym (mapped_more line_step ls l))
      (lines_join (map line_step ls) (line_step l ∷ []) (found_pass g es ls us gives (λ v m. h v (Contains-append_left us (u ∷ []) v m)))
      (line_passes g (es ++ us) l u is (h u (Contains-push us u)), tt))

  -- what stands in an entry, or in what is asked for
  near_passes : (es : List Tree) (x : Tree) → ((y : Tree) → Contains es y → NamesPass test y) → NamesPass test x → (u : Tree) → IsNear es x u → NamesPass test u
  near_passes es x entries own u a = subterm_passes test u a.above a.stands (elim (cons_cases x es a.above a.among) [ inl is ↦ subst (NamesPass test) is own | inr m ↦ entries a.above m ])

  -- the line that a step stands for
  own_passes : (g : Sig) (es : List Tree) (s : SStep) (step : PStep) → Fills g es s step → ShortStepPasses test s → LinePasses test step
  own_passes g es _ step (as_it_is stands) h = h
  own_passes g es _ _ (input cited) h = tt
  own_passes g es _ _ sending h = tt
  own_passes g es _ _ (knowing cited) h = tt

module _ (kept : EqualityIsKept) (once : SymbolsReduceOnce) (leaves : LeavesAreNormal) (one : FormIsOne) (names : NamesStandInRuns) (legal : FilledRunsAreLegal HasFewNodes) where
  asked_passes : (test : Tree → Bool) (g : Sig) (c : Config) (es : List Tree) (s : SStep) (x : Tree) → ConfigPasses test c es → ShortStepPasses test s → AsksFor g c s x → NamesPass test x
  asked_passes test g c es _ x config h (to_take {u = u} form) = forms_pass kept once leaves (equations g) one test (tree u) x h form
  asked_passes test g c es _ x config h (to_send {t = t} on) =
      forms_pass kept once leaves (equations g) one test on.channel x (config.threads t _ on.runs).0.0 on.form
  asked_passes test g c es _ x config h (to_show {u = u} form) = forms_pass kept once leaves (equations g) one test (tree u) x h form

  all_pass : (test : Tree → Bool) (g : Sig) (c : Config) (es : List Tree) (s : SStep) (found : List Line) (given : List Tree) → ConfigPasses test c es → ShortStepPasses test s
      → AreFoundFor g c es s found given → LinesPass test (map line_step found)
  all_pass test g c es _ _ _ config h none_found = tt
  all_pass test g c es s _ _ config h (all_found {x = x} {d = d} {given = given} asks is) =
      found_pass test g es d.lines given is.lines
      (λ u m. near_passes test es x config.entries (asked_passes test g c es s x config h asks) u (All-contains (IsNear es x) given u is.near m))

  pub sparing_runs_bring_no_name : SparingRunsBringNoName
  sparing_runs_bring_no_name test g p _ _ _ _ _ _ hold ready process steps begins = tt
  sparing_runs_bring_no_name test g p _ _ _ _ _ _ hold ready process steps (goes_on {ss = ss} {before = before} {c = c} {es = es} {tr = tr} {marks = marks} s step found given inner label run are fills is) =
      let parts = steps_parts test ss s steps in
      let so_far = sparing_runs_bring_no_name test g p ss before c es tr marks hold ready process parts.0 run in
      let config = names test g p before c es tr marks hold ready process so_far (legal g p ss before c es tr marks (sparing_runs_fill g p ss before c es tr marks run)).0 in
      lines_join test before (map line_step found ++ step ∷ []) so_far
      (lines_join test (map line_step found) (step ∷ []) (all_pass test g c es s found given config parts.1 are) (own_passes test g (es ++ given) s step fills parts.1, tt))

-- one entry for a line at most
one_at_most : (es fs : List Tree) → AddsOne es fs → length fs ≤ length es + 1
one_at_most es fs (inl e) = let same = ap length e in omega (arith, same)
one_at_most es fs (inr (x, e)) = let same = ap length e in let count = length-append es (x ∷ []) in omega (arith, same, count)

pub entries_are_few : (W : Tree → Type 0) → EntriesAreFew W
entries_are_few W g p _ _ _ _ _ IsLegalProcessRun.starts = omega arith
entries_are_few W g p _ _ _ _ _ (IsLegalProcessRun.further {lines = lines} {c = c} {d = d} {es = es} {fs = fs} {tr = tr} {marks = marks} step inner label run is) =
    let before = entries_are_few W g p lines c es tr marks run in
    let one = one_at_most es fs (adds_one g W c d es fs step inner label is) in
    let count = length-append lines (step ∷ []) in
    omega (arith, before, one, count)
