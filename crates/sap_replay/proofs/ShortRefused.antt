-- Short runs are refused for one cause, and none that is legal is refused.
use Rattle.std.proofs.Common.{◌≡◌, ℕ, List, Result, Ok, Err, refl, ap, subst, arith}
use Rattle.sap_terms.specs.Signature.{HoldsBuiltins}
use Rattle.sap_process.specs.Ready.{IsReady}
use Rattle.sap_intruder.specs.OneAnswer.{LegalShortRunsAreNotRefused, FirstShortRefusalsAreOne, IsFirstRefusedOfShort}
use Rattle.sap_intruder.specs.ShortRuns.{IsLegalShortRun}
use Rattle.sap_intruder.specs.declared.fill_at.FillAt.{FillAt}
use Rattle.sap_intruder.specs.declared.fill_at.FillAt.TheVariants as at
use Rattle.sap_intruder.specs.declared.fill_fault.FillFault.{FillFault}
use Rattle.sap_read.specs.Files.{FileContent}
use Rattle.sap_refusals.specs.RunFaultTexts.{at_step}
use Rattle.sap_refusals.specs.ShortFaultTexts.{fill_fault_text, short_fault_text}
use Rattle.sap_run_texts.specs.ShortTexts.{IsShortRunText}
use Rattle.sap_run_texts.specs.RunTexts.{IsTold}
use Rattle.sap_run_texts.specs.declared.run_fault.RunFault.{RunFault}
use Rattle.sap_run_texts.specs.declared.run_fault.RunFault.TheVariants as fault
use Rattle.sap_runs.specs.Limits.{HasFewNodes}
use Rattle.sap_runs.specs.declared.short_step.SStep.{SStep}
use Rattle.sap_replay.specs.ShortRuns.{IsAcceptedShort, IsShortRefusedWith, too_long, no_run, illegal}
use Rattle.sap_replay.specs.code.Filled.{IsFillLine, IsFirstRefusedWith, first}
use Rattle.sap_replay.specs.RunRefusals.{IsLineOf}
use Rattle.sap_process.specs.Configuration.{Config}
use Rattle.sap_runs.specs.Marks.{Mark}
use Rattle.sap_terms.specs.Trace.{Trace}

-- what is so of short runs
pub record Laws : Type 0 where
  pub one : (z : List ℕ) (o r : Result (List SStep) RunFault) → IsShortRunText z o → IsShortRunText z r → o ≡ r
  pub apart : LegalShortRunsAreNotRefused
  pub first : FirstShortRefusalsAreOne

module _ (laws : Laws) where
  module _ (z : List ℕ) where
    clash : (run : List SStep) (e : RunFault) → IsShortRunText z (Ok run) → IsShortRunText z (Err e) → ⊥
    clash run e a b = let same : ◌≡◌ {A = Result (List SStep) RunFault} (Ok run) (Err e) = laws.one z (Ok run) (Err e) a b in cc (same)

    same_short : (run other : List SStep) → IsShortRunText z (Ok run) → IsShortRunText z (Ok other) → run ≡ other
    same_short run other a b = let same : ◌≡◌ {A = Result (List SStep) RunFault} (Ok run) (Ok other) = laws.one z (Ok run) (Ok other) a b in cc

    same_fault : (e d : RunFault) → IsShortRunText z (Err e) → IsShortRunText z (Err d) → e ≡ d
    same_fault e d a b = let same : ◌≡◌ {A = Result (List SStep) RunFault} (Err e) (Err d) = laws.one z (Err e) (Err d) a b in cc

    module _ (f : FileContent) (hold : HoldsBuiltins f.signature) (ready : IsReady f.signature f.process) where
      -- one cause refuses the bytes
      pub one_short_cause : (why other : List ℕ) → IsShortRefusedWith f z why → IsShortRefusedWith f z other → why ≡ other
      one_short_cause _ _ (too_long l) (too_long m) = refl
      one_short_cause _ _ (too_long l) (no_run m b) = absurd (omega (arith, l, m))
      one_short_cause _ _ (too_long l) (illegal n e read b) = let m = read.few in absurd (omega (arith, l, m))
      one_short_cause _ _ (no_run l a) (too_long m) = absurd (omega (arith, l, m))
      one_short_cause _ _ (no_run {e = e} l a) (no_run {e = d} m b) = ap short_fault_text (same_fault e d a b)
      one_short_cause _ _ (no_run {e = e} l a) (illegal {run = run} n d read b) = absurd (clash run e read.read a)
      one_short_cause _ _ (illegal n e read a) (too_long m) = let l = read.few in absurd (omega (arith, l, m))
      one_short_cause _ _ (illegal {run = run} n e read a) (no_run {e = d} m b) = absurd (clash run d read.read b)
      one_short_cause _ _ (illegal {run = run} n e read a) (illegal {run = other} m d too b) =
          let same : other ≡ run = same_short other run too.read read.read in
          let there = subst (λ (x : List SStep). IsFirstRefusedOfShort f.signature f.process x m d) same b in
          let one = laws.first f.signature f.process run n m e d hold ready a there in
          λ i. at_step (one.0 i) (fill_fault_text (one.1 i))

      -- a short run that is legal isn't refused
      pub legal_not_refused : (run : List SStep) (c : Config) (tr : Trace) (ms : List Mark) → IsAcceptedShort z run
          → IsLegalShortRun f.signature HasFewNodes f.process run c tr ms → (why : List ℕ) → IsShortRefusedWith f z why → ⊥
      legal_not_refused run c tr ms read legal _ (too_long l) = let m = read.few in omega (arith, l, m)
      legal_not_refused run c tr ms read legal _ (no_run {e = e} l a) = clash run e read.read a
      legal_not_refused run c tr ms read legal _ (illegal {run = other} n e too a) =
          let same : other ≡ run = same_short other run too.read read.read in
          let there = subst (λ (x : List SStep). IsFirstRefusedOfShort f.signature f.process x n e) same a in
          laws.apart f.signature f.process run c tr ms n e hold ready legal there

-- what is told of bytes that are no short run, but for want of memory, is why they are none
pub told_of : (z : List ℕ) (e : RunFault) → IsTold (IsShortRunText z) (Err e) → (e ≡ fault.Mem → ⊥) → IsShortRunText z (Err e)
told_of z fault.Mem told other = absurd (other refl)
told_of z fault.BadHead told other = told
told_of z (fault.BadLine line) told other = told
told_of z fault.TooManySteps told other = told

-- a step that is the first that is refused refuses the bytes that are the short run
first_refuses : (f : FileContent) (z : List ℕ) (run : List SStep) (why : List ℕ) → IsAcceptedShort z run → IsFirstRefusedWith f run why → IsShortRefusedWith f z why
first_refuses f z run _ read (first n e r) = illegal n e read r

pub short_stops : (f : FileContent) (z : List ℕ) (run : List SStep) (line : List ℕ) → IsAcceptedShort z run → IsLineOf (IsFirstRefusedWith f run) line
    → IsLineOf (IsShortRefusedWith f z) line
short_stops f z run line read l = record { why = l.why; cause = first_refuses f z run l.why read l.cause; layout = l.layout }

-- a line that says where a short run stops refuses it
pub fill_stops : (f : FileContent) (run : List SStep) (x : FillAt) (line : List ℕ) → IsFillLine x line
    → ((step : ℕ) (e : FillFault) → x ≡ at.Step step e → IsFirstRefusedOfShort f.signature f.process run step e) → IsLineOf (IsFirstRefusedWith f run) line
fill_stops f run at.Mem line is refused = absurd is
fill_stops f run (at.Step step e) line is refused = record { why = at_step step (fill_fault_text e); cause = first step e (refused step e refl); layout = is }
