-- Lines that are counted one by one.
use Rattle.std.proofs.Common.{◌≡◌, ℕ, zero, suc, ◌+◌, Bool, true, false, cond, List, [], ◌∷◌, ◌++◌, length, take, drop, Some, refl, sym, ap, ◌∙◌, append_assoc}
use Rattle.std.specs.List.{count_by}
use Rattle.std.specs.Prelude.{if◌then◌else◌, slice_get}
use Rattle.std.proofs.lemmas.List.Sums.{sum_by_more}
use Rattle.std.proofs.lemmas.Option.{get_or_from_slice_get, slice_get_within}
use Rattle.sap_terms.proofs.PlainLaws.Lists.{drop_got, take_got}
use Rattle.sap_runs.specs.declared.process_step.PStep.{PStep}
use Rattle.sap_runs.specs.declared.rule_step.RStep.{RStep}
use Rattle.sap_opposite.specs.Steps.{numbers_where, opposite_step, opposite_steps, steps_behind}

-- ---- lines of rules

module _ (p : RStep → Bool) (run : List RStep) (k : ℕ) (step : RStep) (is : slice_get run k ≡ Some step) where
  -- the numbers so far, and those of the lines from here on
  abbrev pub AreSoFar : ℕ → List ℕ → Type 0
  AreSoFar j ns = ns ++ numbers_where p (j + 1) (drop j run) ≡ numbers_where p 1 run

  next : numbers_where p (k + 1) (drop k run) ≡ (if p step then (k + 1) ∷ numbers_where p (k + 1 + 1) (drop (k + 1) run) else numbers_where p (k + 1 + 1) (drop (k + 1) run))
  next = ap (numbers_where p (k + 1)) (drop_got run k step is)

  pub one_more : (ns : List ℕ) → AreSoFar k ns → p step ≡ true → AreSoFar (k + 1) (ns ++ (k + 1) ∷ [])
  one_more ns h here =
      let rest = numbers_where p (k + 1 + 1) (drop (k + 1) run) in
      append_assoc ns ((k + 1) ∷ []) rest ∙ ap (λ (ms : List ℕ). ns ++ ms) (sym (next ∙ ap (λ (b : Bool). if b then (k + 1) ∷ rest else rest) here)) ∙ h

  pub none_more : (ns : List ℕ) → AreSoFar k ns → p step ≡ false → AreSoFar (k + 1) ns
  none_more ns h other =
      let rest = numbers_where p (k + 1 + 1) (drop (k + 1) run) in
      ap (λ (ms : List ℕ). ns ++ ms) (sym (next ∙ ap (λ (b : Bool). if b then (k + 1) ∷ rest else rest) other)) ∙ h

-- ---- lines of the process

pub counted_more : (p : PStep → Bool) (lines : List PStep) (k : ℕ) (step : PStep) → slice_get lines k ≡ Some step → count_by p (take (k + 1) lines) ≡ count_by p (take k lines) + cond (p step) 1 0
counted_more p lines k step is =
    sum_by_more (λ (x : PStep). cond (p x) 1 0) lines k step (slice_get_within lines k step is)
    ∙ ap (λ (x : PStep). count_by p (take k lines) + cond (p x) 1 0) (get_or_from_slice_get lines k step step is)

module _ (run : List RStep) (lines : List PStep) where
  -- the steps so far, and those of the lines from here on
  abbrev pub AreStepsSoFar : ℕ → List ℕ → Type 0
  AreStepsSoFar k ns = ns ++ steps_behind run (take k lines) (drop k lines) ≡ opposite_steps run lines

  pub step_more : (k : ℕ) (step : PStep) (ns : List ℕ) → slice_get lines k ≡ Some step → AreStepsSoFar k ns → AreStepsSoFar (k + 1) (ns ++ opposite_step run (take k lines) step ∷ [])
  step_more k step ns is h =
      append_assoc ns (opposite_step run (take k lines) step ∷ []) (steps_behind run (take (k + 1) lines) (drop (k + 1) lines))
      ∙ ap (λ (ms : List ℕ). ns ++ ms)
      (ap (λ (before : List PStep). opposite_step run (take k lines) step ∷ steps_behind run before (drop (k + 1) lines)) (take_got lines k step is)
      ∙ sym (ap (steps_behind run (take k lines)) (drop_got lines k step is)))
      ∙ h

-- ---- each line

pub as_many : (run : List RStep) (before lines : List PStep) → length (steps_behind run before lines) ≡ length lines
as_many run before [] = refl
as_many run before (step ∷ lines) = ap suc (as_many run (before ++ step ∷ []) lines)

pub each_behind : (run : List RStep) (before lines : List PStep) (k : ℕ) (step : PStep) → slice_get lines k ≡ Some step
    → slice_get (steps_behind run before lines) k ≡ Some (opposite_step run (before ++ take k lines) step)
each_behind run before [] k step is = absurd (cc (is))
each_behind run before (l ∷ lines) zero step is =
    let same : l ≡ step = cc (is) in
    ap Some (ap (opposite_step run before) same ∙ ap (λ (ls : List PStep). opposite_step run ls step) (sym (nothing before)))
  where
    nothing : (ls : List PStep) → ls ++ [] ≡ ls
    nothing [] = refl
    nothing (x ∷ ls) = ap (λ (ys : List PStep). x ∷ ys) (nothing ls)
each_behind run before (l ∷ lines) (suc k) step is =
    each_behind run (before ++ l ∷ []) lines k step is
    ∙ ap (λ (ls : List PStep). Some (opposite_step run ls step)) (append_assoc before (l ∷ []) (take k lines))
