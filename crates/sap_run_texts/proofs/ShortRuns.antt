-- A text is one short run or has one fault, and lines behind its head are taken one after another.
use Rattle.std.proofs.Common.{◌≡◌, ◌≤◌, ◌<◌, ◌+◌, ℕ, zero, suc, Bool, true, false, List, [], ◌∷◌, ◌++◌, append_assoc, length, take, drop, refl, sym, ap, subst, ◌∙◌, ◌⊎◌, inl, inr, arith}
use Rattle.std.specs.Prelude.{Result, Ok, Err, ◌==◌, not, if◌then◌else◌}
use Rattle.std.specs.List.{list_all, prefix_len}
use Rattle.std.proofs.lemmas.Bool.{eqb-true}
use Rattle.std.proofs.lemmas.List.{length-append, append-nil}
use Rattle.sap_text.specs.Tokens.{is_not_feed}
use Rattle.sap_terms.proofs.PlainLaws.Tests.{and_true}
use Rattle.sap_runs.specs.declared.limits.TheConstants.{MOST_SHORT_STEPS}
use Rattle.sap_runs.specs.declared.short_step.SStep.{SStep}
use Rattle.sap_run_lines.specs.StepLines.{IsOpenLine}
use Rattle.sap_run_lines.specs.ShortLines.{IsShortStepLine}
use Rattle.sap_run_texts.specs.declared.run_fault.RunFault.{RunFault}
use Rattle.sap_run_texts.specs.declared.run_fault.RunFault.TheVariants as fault
use Rattle.sap_run_texts.specs.RunTexts.{lines_text, no_lines, no_step, not_ended, IsBody, all_steps, bad_line, too_many, IsHeaded, IsTold, headed}
use Rattle.sap_run_texts.specs.ShortTexts.{short_head, IsShortRunText}
use Rattle.sap_run_texts.specs.code.ShortReading.{IsBehind}
use Rattle.sap_run_texts.proofs.Begun.{one_line_more, one_step_more}
use Rattle.sap_run_texts.proofs.OneText.{one_text}
use Rattle.sap_run_texts.proofs.SomeText.{headed_or_not, text_headed, text_headless}

pub one_short_run : ((s u : SStep) (z : List ℕ) → IsShortStepLine s z → IsShortStepLine u z → s ≡ u) → ((s : SStep) (z : List ℕ) → IsShortStepLine s z → IsOpenLine z)
    → (z : List ℕ) (o r : Result (List SStep) RunFault) → IsShortRunText z o → IsShortRunText z r → o ≡ r
one_short_run one opened z o r p q = one_text IsShortStepLine MOST_SHORT_STEPS one opened short_head z o r refl p q

pub some_short_run : ((z : List ℕ) → ((s : SStep) × IsShortStepLine s z) ⊎ ((s : SStep) → IsShortStepLine s z → ⊥)) → (z : List ℕ)
    → (o : Result (List SStep) RunFault) × IsShortRunText z o
some_short_run decided z = elim (headed_or_not short_head z refl) [
  | inl at ↦ text_headed IsShortStepLine MOST_SHORT_STEPS decided short_head at.0 z at.1
  | inr none ↦ text_headless IsShortStepLine MOST_SHORT_STEPS decided short_head z none
]

-- ---- lines, one after another

-- where the first line feed stands
pub feed_at : (z : List ℕ) (n : ℕ) → n ≡ prefix_len is_not_feed z → n < length z → z ≡ take n z ++ (10 ∷ drop (n + 1) z)
feed_at [] n e l = absurd (omega (arith, l))
feed_at (x ∷ z) zero e l = at (x == 10) refl e where
  at : (b : Bool) → (x == 10) ≡ b → 0 ≡ (if not b then 1 + prefix_len is_not_feed z else 0) → x ∷ z ≡ 10 ∷ z
  at true h f = ap (λ c. c ∷ z) (eqb-true x 10 h)
  at false h f = absurd (omega (arith, f))
feed_at (x ∷ z) (suc n) e l = at (x == 10) refl e (feed_at z n) where
  at : (b : Bool) → (x == 10) ≡ b → suc n ≡ (if not b then 1 + prefix_len is_not_feed z else 0)
      → (n ≡ prefix_len is_not_feed z → n < length z → z ≡ take n z ++ (10 ∷ drop (n + 1) z)) → x ∷ z ≡ take (suc n) (x ∷ z) ++ (10 ∷ drop (suc n + 1) (x ∷ z))
  at true h f later = absurd (omega (arith, f))
  at false h f later =
      let one : suc n + 1 ≡ suc (n + 1) = omega arith in
      rw one (ap (λ y. x ∷ y) (later (omega (arith, f)) (omega (arith, l))))

-- no line feed stands in bytes all of which stand before the first
pub no_feed : (z : List ℕ) → length z ≤ prefix_len is_not_feed z → IsOpenLine z
no_feed [] l = refl
no_feed (x ∷ z) l = at (is_not_feed x) refl l (no_feed z) where
  at : (b : Bool) → is_not_feed x ≡ b → length (x ∷ z) ≤ (if b then 1 + prefix_len is_not_feed z else 0) → (length z ≤ prefix_len is_not_feed z → IsOpenLine z) → IsOpenLine (x ∷ z)
  at true h f later = and_true (is_not_feed x) (list_all is_not_feed z) h (later (omega (arith, f)))
  at false h f later = absurd (omega (arith, f))

-- what the body is told as, the text is
pub told_headed : (body z : List ℕ) (r : Result (List SStep) RunFault) → IsHeaded short_head body z → IsTold (IsBody IsShortStepLine MOST_SHORT_STEPS body) r
    → IsTold (IsShortRunText z) r
told_headed body z (Ok ss) h t = headed h t
told_headed body z (Err fault.Mem) h t = tt
told_headed body z (Err fault.BadHead) h t = headed h t
told_headed body z (Err (fault.BadLine n)) h t = headed h t
told_headed body z (Err fault.TooManySteps) h t = headed h t

pub behind_none : (body : List ℕ) → IsBehind [] body body
behind_none body = record { lines = []; whole = refl; steps = no_lines; within = omega arith }

module _ (ss : List SStep) (rest body : List ℕ) (b : IsBehind ss rest body) where
  pub behind_step : (s : SStep) (line more : List ℕ) → length ss < MOST_SHORT_STEPS → IsShortStepLine s line → rest ≡ line ++ (10 ∷ more) → IsBehind (ss ++ s ∷ []) more body
  behind_step s line more few here is = record {
    lines = b.lines ++ line ∷ [];
    whole = b.whole ∙ (ap (λ y. lines_text b.lines ++ y) (is ∙ sym (append_assoc line (10 ∷ []) more))
        ∙ (sym (append_assoc (lines_text b.lines) (line ++ 10 ∷ []) more) ∙ ap (λ y. y ++ more) (sym (one_line_more b.lines line))));
    steps = one_step_more IsShortStepLine ss b.lines s line b.steps here;
    within = omega (arith, few, length-append ss (s ∷ []));
  }

  told : (o : Result (List SStep) RunFault) → IsBody IsShortStepLine MOST_SHORT_STEPS (lines_text b.lines ++ rest) o → IsBody IsShortStepLine MOST_SHORT_STEPS body o
  told o h = subst (λ (y : List ℕ). IsBody IsShortStepLine MOST_SHORT_STEPS y o) (sym b.whole) h

  pub behind_all : rest ≡ [] → IsBody IsShortStepLine MOST_SHORT_STEPS body (Ok ss)
  behind_all none =
      let whole : body ≡ lines_text b.lines = b.whole ∙ (ap (λ y. lines_text b.lines ++ y) none ∙ append-nil (lines_text b.lines)) in
      subst (λ (y : List ℕ). IsBody IsShortStepLine MOST_SHORT_STEPS y (Ok ss)) (sym whole) (all_steps b.steps b.within)

  pub behind_many : MOST_SHORT_STEPS ≤ length ss → 0 < length rest → IsBody IsShortStepLine MOST_SHORT_STEPS body (Err fault.TooManySteps)
  behind_many many some = told (Err fault.TooManySteps) (too_many rest b.steps (omega (arith, many, b.within)) some)

  pub behind_bad : (line more : List ℕ) → length ss < MOST_SHORT_STEPS → IsOpenLine line → ((s : SStep) → IsShortStepLine s line → ⊥) → rest ≡ line ++ (10 ∷ more)
      → IsBody IsShortStepLine MOST_SHORT_STEPS body (Err (fault.BadLine (length ss + 2)))
  behind_bad line more few opened none is =
      told (Err (fault.BadLine (length ss + 2)))
      (subst (λ (y : List ℕ). IsBody IsShortStepLine MOST_SHORT_STEPS (lines_text b.lines ++ y) (Err (fault.BadLine (length ss + 2)))) (sym is) (bad_line b.steps few (no_step line more opened none)))

  pub behind_open : length ss < MOST_SHORT_STEPS → IsOpenLine rest → 0 < length rest → IsBody IsShortStepLine MOST_SHORT_STEPS body (Err (fault.BadLine (length ss + 2)))
  behind_open few opened some = told (Err (fault.BadLine (length ss + 2))) (bad_line b.steps few (not_ended rest opened some))
