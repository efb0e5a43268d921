-- The text of lines that fill a short run without idle lines is read as these lines, where they are few.
use Rattle.std.proofs.Common.{◌≡◌, ◌<◌, ◌≤◌, ◌+◌, ◌^◌, ℕ, List, [], ◌∷◌, ◌++◌, length, map, Some, slice_get, Ok, arith}
use Rattle.std.specs.Prelude.{All}
use Rattle.std.proofs.lemmas.List.{length-append}
use Rattle.std.proofs.lemmas.Option.{slice_get_within}
use Rattle.sap_terms.specs.Signature.{Sig}
use Rattle.sap_terms.specs.Trace.{Trace}
use Rattle.sap_terms.specs.Tree.{Tree, public}
use Rattle.sap_terms.specs.View.{tree}
use Rattle.sap_terms.specs.declared.limits.TheConstants.{MOST_FILE_NAME_BYTES}
use Rattle.sap_terms.specs.declared.fact.Fact.{Fact}
use Rattle.sap_process.specs.Configuration.{Config}
use Rattle.sap_process.specs.Proc.{Proc}
use Rattle.sap_process.specs.Ready.{IsReady}
use Rattle.sap_intruder.specs.FilledNames.{ShortStepPasses, ShortStepsPass, SparingRunsBringNoName, EntriesAreFew}
use Rattle.sap_intruder.specs.FilledRuns.{Fills, input, sending, knowing, FilledRunsAreLegal, IsFilledRun, starts, finds, follows, IsLeftOut, IsFilled, SparingRunsFill}
use Rattle.sap_intruder.specs.FilledRuns.{same as as_it_is}
use Rattle.sap_lines.specs.Lines.{IsProcessLine}
use Rattle.sap_lines.specs.NamesPass.{LinePasses, LinesPass}
use Rattle.sap_read.specs.Files.{FileContent, IsRunnable}
use Rattle.sap_read.specs.Printable.{IsDeclarable, IsPrintableFile}
use Rattle.sap_read.specs.declared.limits.TheConstants.{MOST_NEW_NAME_BYTES}
use Rattle.sap_run_lines.specs.LineWords.{LineWord, number, IsLineWord, word_identifier, word_number, word_fresh, word_public, word_bound, AreLineWords, words_last, words_more}
use Rattle.sap_run_lines.specs.RunTerms.{IsNumber, IsRunTerm}
use Rattle.sap_run_lines.specs.ShortLines.{AreWordsAndTerm, term_last, word_before, IsShortStepLine}
use Rattle.sap_run_lines.specs.Spellable.{IsWritable, IsWritableWord, AreWritableWords, IsWritableProcess}
use Rattle.sap_run_lines.specs.StepLines.{process_words}
use Rattle.sap_run_texts.specs.RunPrinted.{Each, process_run_text}
use Rattle.sap_run_texts.specs.RunTexts.{AreStepLines, no_lines, lines_more, IsBody, all_steps, IsText, headed, IsProcessRunText}
use Rattle.sap_run_texts.specs.ShortTexts.{IsShortRunText}
use Rattle.sap_run_texts.specs.Writable.{CanBeNamed, AreNumbered}
use Rattle.sap_run_texts.specs.declared.limits.TheConstants.{MOST_PROCESS_STEPS}
use Rattle.sap_runs.specs.Limits.{HasFewNodes}
use Rattle.sap_runs.specs.Inner.{InnerAction}
use Rattle.sap_runs.specs.Marks.{Mark}
use Rattle.sap_runs.specs.declared.process_step.PStep.{PStep}
use Rattle.sap_runs.specs.declared.process_step.PStep.TheVariants as step
use Rattle.sap_runs.specs.declared.short_step.SStep.{SStep}
use Rattle.sap_runs.specs.declared.short_step.SStep.TheVariants as short
use Rattle.sap_replay.specs.ShortRuns.{IsAcceptedShort}
use Rattle.sap_replay.proofs.WrittenNames.{spellable, passing_content, process_passes, line_passes, written_passes, symbol_written}

-- what is so of texts of runs, and of runs that fill short ones
pub record Laws : Type 0 where
  pub spelled : (t : Tree) (z k : List ℕ) → IsRunTerm t z k → IsWritable t
  pub named : (s : PStep) → CanBeNamed s → AreNumbered (process_words s) → IsWritableProcess s
  pub printed : (ss : List PStep) → Each IsWritableProcess ss → length ss ≤ MOST_PROCESS_STEPS → IsProcessRunText (process_run_text ss) (Ok ss)
  pub fill : SparingRunsFill
  pub names : SparingRunsBringNoName
  pub few : EntriesAreFew HasFewNodes
  pub legal : FilledRunsAreLegal HasFewNodes

-- a step of a short run whose numbers and terms can be written
abbrev IsSpelled : SStep → Type 0
IsSpelled (short.Act line) = IsWritableProcess line
IsSpelled (short.In t u) = IsNumber t × IsWritable (tree u)
IsSpelled (short.Send t) = IsNumber t
IsSpelled (short.Know u) = IsWritable (tree u)

-- so is each step of one that was read

module _ (laws : Laws) where
  word_written : (w : LineWord) (x k : List ℕ) → IsLineWord w x k → IsWritableWord w
  word_written _ _ _ (word_identifier i) = i
  word_written _ _ _ (word_number n) = n
  word_written _ _ _ (word_fresh n) = n
  word_written _ _ _ (word_public c) = c
  word_written _ _ _ (word_bound {t = t} v r small) = (v, laws.spelled t _ _ r, small)

  words_written : (ws : List LineWord) (z : List ℕ) → AreLineWords ws z → AreWritableWords ws
  words_written _ _ (words_last {w = w} r) = (word_written w _ _ r, tt)
  words_written _ _ (words_more {w = w} {ws = ws} r s) = (word_written w _ _ r, words_written ws _ s)

  both_written : (t : Tree) (ws : List LineWord) (z : List ℕ) → AreWordsAndTerm t ws z → AreWritableWords ws × IsWritable t
  both_written t _ _ (term_last whole) = (tt, laws.spelled t _ _ whole.0)
  both_written t _ _ (word_before {w = w} {ws = ws} r s) = let rest = both_written t ws _ s in ((word_written w _ _ r, rest.0), rest.1)

  step_spelled : (s : SStep) (z : List ℕ) → IsShortStepLine s z → IsSpelled s
  step_spelled (short.Act line) z l = record { named = l.1.named; words = words_written _ z l.1.words }
  step_spelled (short.In t u) z l = let both = both_written (tree u) _ z l in (both.0.1.0, both.1)
  step_spelled (short.Send t) z l = (words_written _ z l).1.0
  step_spelled (short.Know u) z l = (both_written (tree u) _ z l).1

  lines_spelled : (ss : List SStep) (zs : List (List ℕ)) → AreStepLines IsShortStepLine ss zs → Each IsSpelled ss
  lines_spelled _ _ no_lines = tt
  lines_spelled _ _ (lines_more {s = s} {ss = ss} {line = line} {lines = zs} here more) = (step_spelled s line here, lines_spelled ss zs more)

  body_spelled : (most : ℕ) (z : List ℕ) (ss : List SStep) → IsBody IsShortStepLine most z (Ok ss) → Each IsSpelled ss
  body_spelled most _ ss (all_steps {lines = zs} steps few) = lines_spelled ss zs steps

  text_spelled : (head : List ℕ) (most : ℕ) (z : List ℕ) (ss : List SStep) → IsText head IsShortStepLine most z (Ok ss) → Each IsSpelled ss
  text_spelled head most z ss (headed {body = body} at is) = body_spelled most body ss is

  -- and its names pass the test
  step_passes : (s : SStep) → IsSpelled s → ShortStepPasses spellable s
  step_passes (short.Act line) h = line_passes line h
  step_passes (short.In t u) h = written_passes (tree u) h.1
  step_passes (short.Send t) h = tt
  step_passes (short.Know u) h = written_passes (tree u) h

  steps_pass : (ss : List SStep) → Each IsSpelled ss → ShortStepsPass spellable ss
  steps_pass [] h = tt
  steps_pass (s ∷ ss) h = (step_passes s h.0, steps_pass ss h.1)

-- lists in parts

each_parts : (xs : List SStep) (x : SStep) → Each IsSpelled (xs ++ x ∷ []) → Each IsSpelled xs × IsSpelled x
each_parts [] x h = (tt, h.0)
each_parts (y ∷ xs) x h = let rest = each_parts xs x h.1 in ((h.0, rest.0), rest.1)

each_join : (xs : List PStep) (x : PStep) → Each IsWritableProcess xs → IsWritableProcess x → Each IsWritableProcess (xs ++ x ∷ [])
each_join [] x h k = (k, tt)
each_join (y ∷ xs) x h k = (h.0, each_join xs x h.1 k)

pass_parts : (xs : List PStep) (x : PStep) → LinesPass spellable (xs ++ x ∷ []) → LinesPass spellable xs × LinePasses spellable x
pass_parts [] x h = (tt, h.0)
pass_parts (y ∷ xs) x h = let rest = pass_parts xs x h.1 in ((h.0, rest.0), rest.1)

-- a number of one of few entries is of 64 bits
few_number : (n : ℕ) → n ≤ MOST_PROCESS_STEPS → IsNumber n
few_number n h = omega (arith, h)

entry_number : (es : List Tree) (k : ℕ) (x : Tree) → slice_get es k ≡ Some x → length es ≤ MOST_PROCESS_STEPS → IsNumber k
entry_number es k x at few = let within = slice_get_within es k x at in few_number k (omega (arith, within, few))

entry_numbers : (es : List Tree) (ks : List ℕ) (us : List Tree) → map (slice_get es) ks ≡ map Some us → length es ≤ MOST_PROCESS_STEPS → AreNumbered (map number ks)
entry_numbers es [] us e few = tt
entry_numbers es (k ∷ ks) [] e few = absurd (cc)
entry_numbers es (k ∷ ks) (u ∷ us) e few =
    let head : slice_get es k ≡ Some u = cc in
    let tail : map (slice_get es) ks ≡ map Some us = cc in
    (entry_number es k u head few, entry_numbers es ks us tail few)

module _ (laws : Laws) (g : Sig) (declarable : All (IsDeclarable MOST_FILE_NAME_BYTES) g.symbols) where
  applied_line : (c d : Config) (es fs : List Tree) (f ks : List ℕ) (inner : List InnerAction) (label : List Fact) → length es ≤ MOST_PROCESS_STEPS → IsProcessLine g HasFewNodes c es (step.Apply f ks) inner label d fs
      → IsWritableProcess (step.Apply f ks)
  applied_line c d es fs f ks inner label few (IsProcessLine.applies _ _ us u free arity at form size) =
      laws.named (step.Apply f ks) (symbol_written g declarable f _ arity) (tt, (tt, entry_numbers es ks us at few))

  -- a line that the short run leaves out
  left_out : (c d : Config) (es fs : List Tree) (line : PStep) (inner : List InnerAction) (label : List Fact) → IsLeftOut line → LinePasses spellable line → length es ≤ MOST_PROCESS_STEPS
      → IsProcessLine g HasFewNodes c es line inner label d fs → IsWritableProcess line
  left_out c d es fs (step.Public a) inner label out pass few is = laws.named (step.Public a) (passing_content a pass) (tt, (tt, tt))
  left_out c d es fs (step.Apply f ks) inner label out pass few is = applied_line c d es fs f ks inner label few is
  left_out c d es fs (step.Nil t) inner label out pass few is = absurd out
  left_out c d es fs (step.Par t) inner label out pass few is = absurd out
  left_out c d es fs (step.Rep t) inner label out pass few is = absurd out
  left_out c d es fs (step.New t n) inner label out pass few is = absurd out
  left_out c d es fs (step.Out t) inner label out pass few is = absurd out
  left_out c d es fs (step.Send t k) inner label out pass few is = absurd out
  left_out c d es fs (step.In t k) inner label out pass few is = absurd out
  left_out c d es fs (step.Sync s r) inner label out pass few is = absurd out
  left_out c d es fs (step.Then t) inner label out pass few is = absurd out
  left_out c d es fs (step.Else t) inner label out pass few is = absurd out
  left_out c d es fs (step.Event t) inner label out pass few is = absurd out
  left_out c d es fs (step.Insert t) inner label out pass few is = absurd out
  left_out c d es fs (step.Delete t) inner label out pass few is = absurd out
  left_out c d es fs (step.Found t) inner label out pass few is = absurd out
  left_out c d es fs (step.Missing t) inner label out pass few is = absurd out
  left_out c d es fs (step.Lock t) inner label out pass few is = absurd out
  left_out c d es fs (step.Unlock t) inner label out pass few is = absurd out
  left_out c d es fs (step.Embedded t ks b) inner label out pass few is = absurd out
  left_out c d es fs (step.Name n) inner label out pass few is = absurd out
  left_out c d es fs (step.Know k) inner label out pass few is = absurd out

  sent_number : (c d : Config) (es fs : List Tree) (t k : ℕ) (inner : List InnerAction) (label : List Fact) → length es ≤ MOST_PROCESS_STEPS → IsProcessLine g HasFewNodes c es (step.Send t k) inner label d fs → IsNumber k
  sent_number c d es fs t k inner label few (IsProcessLine.outputs_on {x = x} _ _ r at f n v) = entry_number es k x at few

  -- the line that a step stands for
  own_line : (c d : Config) (es fs : List Tree) (s : SStep) (line : PStep) (inner : List InnerAction) (label : List Fact) → Fills g es s line → IsSpelled s → length es ≤ MOST_PROCESS_STEPS
      → IsProcessLine g HasFewNodes c es line inner label d fs → IsWritableProcess line
  own_line c d es fs _ line inner label (as_it_is stands) h few is = h
  own_line c d es fs _ _ inner label (input {t = t} {k = k} cites) h few is = laws.named (step.In t k) tt (tt, (h.0, (entry_number es k cites.term cites.entry few, tt)))
  own_line c d es fs _ _ inner label (sending {t = t} {k = k}) h few is = laws.named (step.Send t k) tt (tt, (h, (sent_number c d es fs t k inner label few is, tt)))
  own_line c d es fs _ _ inner label (knowing {k = k} cites) h few is = laws.named (step.Know k) tt (tt, (entry_number es k cites.term cites.entry few, tt))

  module _ (p : Proc) where
    few_entries : (ss : List SStep) (lines : List PStep) (line : PStep) (c : Config) (es : List Tree) (tr : Trace) (marks : List Mark) → IsFilledRun g HasFewNodes p ss lines c es tr marks
        → length (lines ++ line ∷ []) ≤ MOST_PROCESS_STEPS → length es ≤ MOST_PROCESS_STEPS
    few_entries ss lines line c es tr marks run few =
        let known = laws.few g p lines c es tr marks (laws.legal g p ss lines c es tr marks run).0 in
        let count = length-append lines (line ∷ []) in
        omega (arith, few, known, count)

    fewer : (lines : List PStep) (line : PStep) → length (lines ++ line ∷ []) ≤ MOST_PROCESS_STEPS → length lines ≤ MOST_PROCESS_STEPS
    fewer lines line few = let count = length-append lines (line ∷ []) in omega (arith, few, count)

    -- each line can be written
    all_lines : (ss : List SStep) (lines : List PStep) (c : Config) (es : List Tree) (tr : Trace) (marks : List Mark) → IsFilledRun g HasFewNodes p ss lines c es tr marks → LinesPass spellable lines → Each IsSpelled ss
        → length lines ≤ MOST_PROCESS_STEPS → Each IsWritableProcess lines
    all_lines _ _ _ _ _ _ starts pass spelled few = tt
    all_lines _ _ _ _ _ _ (finds {ss = ss} {lines = lines} {c = c} {es = es} {fs = fs} {tr = tr} {marks = marks} line run out is) pass spelled few =
        let parts = pass_parts lines line pass in
        each_join lines line (all_lines ss lines c es tr marks run parts.0 spelled (fewer lines line few))
        (left_out c c es fs line [] [] out parts.1 (few_entries ss lines line c es tr marks run few) is)
    all_lines _ _ _ _ _ _ (follows {ss = ss} {lines = lines} {c = c} {d = d} {es = es} {fs = fs} {tr = tr} {marks = marks} s line inner label run fills is) pass spelled few =
        let parts = pass_parts lines line pass in
        let steps = each_parts ss s spelled in
        each_join lines line (all_lines ss lines c es tr marks run parts.0 steps.0 (fewer lines line few))
        (own_line c d es fs s line inner label fills steps.1 (few_entries ss lines line c es tr marks run few) is)

-- what fills an accepted short run of a file that can be printed is read from its text
pub filled_is_read : Laws → (f : FileContent) (z : List ℕ) (run : List SStep) (lines : List PStep) → IsRunnable f → IsReady f.signature f.process → IsPrintableFile MOST_FILE_NAME_BYTES MOST_NEW_NAME_BYTES f
    → IsAcceptedShort z run → IsFilled f.signature f.process run lines → length lines ≤ MOST_PROCESS_STEPS → IsProcessRunText (process_run_text lines) (Ok lines)
filled_is_read laws f z run lines runnable ready printable accepted filled few =
    let g = f.signature in
    let p = f.process in
    let spelled = text_spelled laws _ _ z run accepted.read in
    let pass = laws.names spellable g p run lines filled.config filled.entries filled.trace filled.marks runnable.builtins ready (process_passes g p printable.process printable.contents) (steps_pass laws run spelled) filled.run in
    let fills = laws.fill g p run lines filled.config filled.entries filled.trace filled.marks filled.run in
    laws.printed lines (all_lines laws g printable.symbols p run lines filled.config filled.entries filled.trace filled.marks fills pass spelled few) few
