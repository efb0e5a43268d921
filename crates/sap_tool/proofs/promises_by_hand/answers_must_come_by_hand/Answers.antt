use Rattle.std.proofs.Common.{◌≡◌, ◌<◌, ◌≤◌, ℕ, List, [], refl, inl, inr, ◌⊎◌, arith}
use Rattle.std.specs.Prelude.{codes}
use Rattle.sap_outside.specs.Pieces.{pieces}
use Rattle.sap_outside.specs.Stream.{Gained}
use Rattle.sap_pages.specs.Texts.{version_text}
use Rattle.sap_replay.specs.declared.way.Way.TheVariants.{Plain}
use Rattle.sap_run_texts.specs.declared.run.Run.TheVariants as run
use Rattle.sap_tool.specs.Commands.{explain, to_json, alone, run_alone}
use Rattle.sap_tool.specs.PromisesExamples.{run_bytes, got}
use Rattle.sap_tool.proofs.HandCalls.{version_told, x_unknown}
use Rattle.sap_tool.proofs.HandRuns.{one_line, line_is_read, run_is_answered}
use Rattle.sap_tool.proofs.promises_by_hand.answers_must_come_by_hand.Goals as goal

-- a status is another one
abbrev IsNumber : ℕ → ℕ → Type 0
IsNumber n k = n ≡ k

-- 4, 5, 1 and 2 are neither 0 nor 6
neither : (n : ℕ) → 0 < n → n < 6 → IsNumber n 0 ⊎ IsNumber n 6 → ⊥
neither n some few (inl e) = omega (arith, e, some)
neither n some few (inr e) = omega (arith, e, few)

not_given : (n : ℕ) (A : Type 0) → 0 < n → n < 6 → (IsNumber n 0 × A) ⊎ IsNumber n 6 → ⊥
not_given n A some few (inl h) = let e = h.0 in omega (arith, e, some)
not_given n A some few (inr e) = omega (arith, e, few)

-- no count of faults rose
never_rose : 1 ≤ 0 → ⊥
never_rose l = omega (arith, l)

pub returns-clause-tell_usage : goal.returns-clause-tell_usage
returns-clause-tell_usage c = λ p. at (p.must_tell_usage x_unknown) where
  at : IsNumber 4 3 ⊎ (IsNumber 4 5 × (1 ≤ 0)) ⊎ IsNumber 4 6 → ⊥
  at (inl e) = omega (arith, e)
  at (inr (inl h)) = never_rose h.1
  at (inr (inr e)) = omega (arith, e)

pub returns-clause-tell : goal.returns-clause-tell
returns-clause-tell c = λ p. not_given 5 _ (omega arith) (omega arith) (p.must_tell version_text version_told never_rose)

-- `why` refuses no file
pub returns-clause-answer : goal.returns-clause-answer
returns-clause-answer c = λ held is p. neither 1 (omega arith) (omega arith) (p.must_answer (explain (codes "f")) (alone []) refl (is, refl) (λ why r. no_cause r) no_fault never_rose) where
  no_cause : ⊥ ⊎ ⊥ → ⊥
  no_cause (inl r) = r
  no_cause (inr r) = r

  no_fault : (1 ≤ 0) ⊎ ⊥ → ⊥
  no_fault (inl l) = never_rose l
  no_fault (inr none) = none

-- a run that is one is taken
pub returns-clause-take : goal.returns-clause-take
returns-clause-take c = λ held is p.
    let read = line_is_read c.named_steps_can_be_written.ensures.process c.printed_runs_are_read.ensures.process in
    neither 2 (omega arith) (omega arith) (p.must_take (to_json (codes "r")) (run_alone run_bytes) refl (refl, is) (run.Process one_line, run_is_answered read) no_fault never_rose) where
      no_fault : ⊥ ⊎ (1 ≤ 0) → ⊥
      no_fault (inl none) = none
      no_fault (inr l) = never_rose l

-- what a file with a theory is given
given_as : (other text : List ℕ) (puts : ℕ) → (other ≡ text → ⊥) → (IsNumber 0 0 × Gained (got other puts) (pieces text) text) ⊎ IsNumber 0 6 → ⊥
given_as other text puts differs (inl h) = differs h.1.0
given_as other text puts differs (inr e) = omega (arith, e)

pub returns-clause-give : goal.returns-clause-give
returns-clause-give c = λ held bytes text other puts is theory differs p. given_as other text puts differs (p.must_give Plain (codes "f") bytes text refl is theory never_rose never_rose)

pub returns-clause-give_too : goal.returns-clause-give_too
returns-clause-give_too c = λ held bytes text is theory p. not_given 1 _ (omega arith) (omega arith) (p.must_give Plain (codes "f") bytes text refl is theory never_rose never_rose)
