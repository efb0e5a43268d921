-- Bytes are one run as JSON, or refused for one cause.
use Rattle.std.proofs.Common.{◌≡◌, ℕ, List, Result, Ok, Err, refl, ap, arith}
use Rattle.sap_run_texts.specs.declared.run.Run.{Run}
use Rattle.sap_json.specs.RunValues.{IsJsonRead, IsTold}
use Rattle.sap_json.specs.declared.json_fault.JsonFault.{JsonFault}
use Rattle.sap_json.specs.declared.json_fault.JsonFault.TheVariants as fault
use Rattle.sap_refusals.specs.RunFaultTexts.{json_fault_text}
use Rattle.sap_replay.specs.JsonRuns.{IsAcceptedJson, IsJsonRefusedWith, too_long, no_run}

-- bytes are read as one run, or refused for one cause
abbrev pub OneJson : Type 0
OneJson = (z : List ℕ) (o u : Result Run JsonFault) → IsJsonRead z o → IsJsonRead z u → o ≡ u

-- what is told of bytes that are no run, but for want of memory, is why they are none
pub told_of : (z : List ℕ) (e : JsonFault) → IsTold (IsJsonRead z) (Err e) → (e ≡ fault.Mem → ⊥) → IsJsonRead z (Err e)
told_of z fault.Mem told other = absurd (other refl)
told_of z fault.NotJson told other = told
told_of z fault.NotRun told other = told
told_of z (fault.BadStep step) told other = told
told_of z (fault.TooManySteps most) told other = told

module _ (one : OneJson) (z : List ℕ) where
  same_fault : (e f : JsonFault) → IsJsonRead z (Err e) → IsJsonRead z (Err f) → e ≡ f
  same_fault e f r s = let same : ◌≡◌ {A = Result Run JsonFault} (Err e) (Err f) = one z (Err e) (Err f) r s in cc

  not_both : (r : Run) (e : JsonFault) → IsJsonRead z (Ok r) → IsJsonRead z (Err e) → ⊥
  not_both r e a b = let same : ◌≡◌ {A = Result Run JsonFault} (Ok r) (Err e) = one z (Ok r) (Err e) a b in cc (same)

  -- one run at most is accepted
  pub same_json : (r s : Run) → IsJsonRead z (Ok r) → IsJsonRead z (Ok s) → r ≡ s
  same_json r s a b = let same : ◌≡◌ {A = Result Run JsonFault} (Ok r) (Ok s) = one z (Ok r) (Ok s) a b in cc

  -- one cause refuses them
  pub one_json_cause : (a b : List ℕ) → IsJsonRefusedWith z a → IsJsonRefusedWith z b → a ≡ b
  one_json_cause _ _ (too_long l) (too_long m) = refl
  one_json_cause _ _ (too_long l) (no_run m s) = absurd (omega (arith, l, m))
  one_json_cause _ _ (no_run l r) (too_long m) = absurd (omega (arith, l, m))
  one_json_cause _ _ (no_run {e = e} l r) (no_run {e = f} m s) = ap json_fault_text (same_fault e f r s)

  -- what is refused isn't accepted
  pub json_not_refused : (why : List ℕ) (r : Run) → IsJsonRefusedWith z why → IsAcceptedJson z r → ⊥
  json_not_refused _ r (too_long l) file = omega (arith, l, file.short)
  json_not_refused _ r (no_run {e = e} l a) file = not_both r e file.read a
