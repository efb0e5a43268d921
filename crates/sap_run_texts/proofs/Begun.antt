-- What more bytes make of what was begun, and what the end does.
use Rattle.std.proofs.Common.{◌≡◌, ◌≤◌, ◌<◌, ◌+◌, ℕ, List, [], ◌∷◌, ◌++◌, append_assoc, length, refl, sym, ap, subst, ◌∙◌, inl, inr, arith}
use Rattle.std.specs.Prelude.{Result, Ok, Err}
use Rattle.std.proofs.lemmas.List.{length-append, append-nil}
use Rattle.sap_text.specs.Tokens.{is_not_feed}
use Rattle.sap_runs.specs.declared.process_step.PStep.{PStep}
use Rattle.sap_runs.specs.declared.rule_step.RStep.{RStep}
use Rattle.sap_run_texts.specs.declared.run_fault.RunFault.{RunFault}
use Rattle.sap_run_texts.specs.declared.run_fault.RunFault.TheVariants as fault
use Rattle.sap_run_texts.specs.declared.run.Kinds.{Kinds}
use Rattle.sap_run_texts.specs.declared.run.Kinds.TheVariants as kinds
use Rattle.sap_run_texts.specs.declared.run.Run.{Run}
use Rattle.sap_run_texts.specs.declared.run.Run.TheVariants as run
use Rattle.sap_run_texts.specs.declared.limits.TheConstants.{MOST_PROCESS_STEPS, MOST_RULE_STEPS}
use Rattle.sap_run_lines.specs.StepLines.{IsProcessStepLine, IsRuleStepLine, IsOpenLine}
use Rattle.sap_run_texts.specs.RunTexts.{lines_text, AreStepLines, no_lines, lines_more, no_step, not_ended, all_steps, bad_line, too_many, IsHeaded, IsHeadless, IsText, headed, headless, process_head, rule_head, IsProcessRunText, IsRuleRunText, process_answer, rule_answer, IsTold, IsRunRead, as_process, as_rules, told_process, told_rules, told_neither}
use Rattle.sap_run_texts.specs.RunReading.{faulty, in_head, in_process, in_rules, TakesProcess, TakesRules, IsBegun, HoldsFor}
use Rattle.sap_run_texts.proofs.Fronts.{one_front, no_longer, both_pass, below_or_not}

-- a text that is read as a run of a process, where one may be
pub read_process : (k : Kinds) (body z : List ℕ) (o : Result (List PStep) RunFault) → TakesProcess k → IsHeaded process_head body z
    → IsProcessRunText z o → IsRunRead k z (process_answer o)
read_process kinds.Process body z o t h r = as_process r
read_process kinds.Rules body z o t h r = absurd t
read_process kinds.Either body z o t h r = told_process h r

pub read_rules : (k : Kinds) (body z : List ℕ) (o : Result (List RStep) RunFault) → TakesRules k → IsHeaded rule_head body z
    → IsRuleRunText z o → IsRunRead k z (rule_answer o)
read_rules kinds.Process body z o t h r = absurd t
read_rules kinds.Rules body z o t h r = as_rules r
read_rules kinds.Either body z o t h r = told_rules h r

-- a text without any head that may be
pub read_headless : (k : Kinds) (z : List ℕ) → (TakesProcess k → IsHeadless process_head z) → (TakesRules k → IsHeadless rule_head z)
    → IsRunRead k z (Err fault.BadHead)
read_headless kinds.Process z p r = as_process (headless (p tt))
read_headless kinds.Rules z p r = as_rules (headless (r tt))
read_headless kinds.Either z p r = told_neither (p tt) (r tt)

-- a first line that is another has not this head
pub other_head : (head line more : List ℕ) → IsOpenLine head → IsOpenLine line → (line ≡ head → ⊥) → IsHeadless head (line ++ (10 ∷ more))
other_head head line more h l not body e = not ((one_front is_not_feed line head (10 ∷ more) (10 ∷ body) l h refl refl e).0)

-- so it is with one that is longer
pub long_head : (head line more : List ℕ) → IsOpenLine line → length head < length line → IsHeadless head (line ++ more)
long_head head line more l longer body e = omega (arith, no_longer line more head body l e)

-- and with one that hasn't ended
pub open_head : (head line : List ℕ) → IsOpenLine line → IsHeadless head line
open_head head line l body e =
    let all : line ++ [] ≡ head ++ (10 ∷ body) = append-nil line ∙ e in
    let long : length line ≡ length (head ++ (10 ∷ body)) = ap length e in
    let parts : length (head ++ (10 ∷ body)) ≡ length head + (length body + 1) = length-append head (10 ∷ body) ∙ (omega arith) in
    omega (arith, no_longer line [] head body l all, long, parts)

-- one more line
pub one_line_more : (lines : List (List ℕ)) (line : List ℕ) → lines_text (lines ++ line ∷ []) ≡ lines_text lines ++ (line ++ 10 ∷ [])
one_line_more [] line = refl
one_line_more (l ∷ lines) line =
    ap (λ y. l ++ (10 ∷ y)) (one_line_more lines line) ∙ sym (append_assoc l (10 ∷ lines_text lines) (line ++ 10 ∷ []))

module _ {A : Type 0} (IsStepLine : A → List ℕ → Type 0) where
  pub one_step_more : (ss : List A) (lines : List (List ℕ)) (s : A) (line : List ℕ) → AreStepLines IsStepLine ss lines → IsStepLine s line
      → AreStepLines IsStepLine (ss ++ s ∷ []) (lines ++ line ∷ [])
  one_step_more _ _ s line no_lines here = lines_more here no_lines
  one_step_more _ _ s line (lines_more {ss = ss} {lines = lines} first later) here = lines_more first (one_step_more ss lines s line later here)

module _ {A : Type 0} (head : List ℕ) (IsStepLine : A → List ℕ → Type 0) (most : ℕ) (ss : List A) (line z : List ℕ) where
  -- the body goes on
  pub whole_on : (b : IsBegun head IsStepLine most ss line z) (more : List ℕ) → IsHeaded head (lines_text b.lines ++ (line ++ more)) (z ++ more)
  whole_on b more =
      ap (λ y. y ++ more) b.whole ∙ (append_assoc head (10 ∷ (lines_text b.lines ++ line)) more ∙ ap (λ y. head ++ (10 ∷ y)) (append_assoc (lines_text b.lines) line more))

  -- more bytes of the line
  pub begun_with : (y : List ℕ) → IsOpenLine y → length ss < most → IsBegun head IsStepLine most ss line z
      → IsBegun head IsStepLine most ss (line ++ y) (z ++ y)
  begun_with y plain few b = record {
    lines = b.lines;
    whole = whole_on b y;
    steps = b.steps;
    within = b.within;
    opened = both_pass is_not_feed line y b.opened plain;
    full = λ all. absurd (omega (arith, all, few));
  }

  -- the line's end, where it is a step's
  pub begun_step : (s : A) → IsStepLine s line → length ss < most → IsBegun head IsStepLine most ss line z
      → IsBegun head IsStepLine most (ss ++ s ∷ []) [] (z ++ 10 ∷ [])
  begun_step s here few b =
      let more : lines_text b.lines ++ (line ++ 10 ∷ []) ≡ lines_text (b.lines ++ line ∷ []) ++ [] =
      sym (one_line_more b.lines line) ∙ sym (append-nil (lines_text (b.lines ++ line ∷ []))) in
      record {
        lines = b.lines ++ line ∷ [];
        whole = whole_on b (10 ∷ []) ∙ ap (λ y. head ++ (10 ∷ y)) more;
        steps = one_step_more IsStepLine ss b.lines s line b.steps here;
        within = omega (arith, few, length-append ss (s ∷ []));
        opened = refl;
        full = λ all. refl;
      }

  -- the line's end, where it is no step's
  pub begun_bad : ((s : A) → IsStepLine s line → ⊥) → length ss < most → (b : IsBegun head IsStepLine most ss line z) (more : List ℕ)
      → IsText head IsStepLine most (z ++ (10 ∷ more)) (Err (fault.BadLine (length ss + 2)))
  begun_bad none few b more = headed (whole_on b (10 ∷ more)) (bad_line b.steps few (no_step line more b.opened none))

  -- bytes behind the last line that may come
  pub begun_many : most ≤ length ss → (b : IsBegun head IsStepLine most ss line z) (y more : List ℕ) → 0 < length y
      → IsText head IsStepLine most (z ++ (y ++ more)) (Err fault.TooManySteps)
  begun_many many b y more some =
      let all : length ss ≡ most = omega (arith, many, b.within) in
      let none : line ≡ [] = b.full all in
      let whole : IsHeaded head (lines_text b.lines ++ (y ++ more)) (z ++ (y ++ more)) =
      whole_on b (y ++ more) ∙ ap (λ x. head ++ (10 ∷ (lines_text b.lines ++ (x ++ (y ++ more))))) none in
      headed whole (too_many (y ++ more) b.steps all (omega (arith, some, length-append y more)))

  -- the text's end behind the end of a line
  pub begun_end : line ≡ [] → (b : IsBegun head IsStepLine most ss line z) → IsText head IsStepLine most z (Ok ss)
  begun_end none b =
      let body : lines_text b.lines ++ line ≡ lines_text b.lines = ap (λ y. lines_text b.lines ++ y) none ∙ append-nil (lines_text b.lines) in
      headed (b.whole ∙ ap (λ y. head ++ (10 ∷ y)) body) (all_steps b.steps b.within)

  -- the text's end in a line
  pub begun_open : 0 < length line → (b : IsBegun head IsStepLine most ss line z)
      → IsText head IsStepLine most z (Err (fault.BadLine (length ss + 2)))
  begun_open some b = headed b.whole (bad_line b.steps few (not_ended line b.opened some))
    where
      few : length ss < most
      few = elim (below_or_not (length ss) most) [
        | inl lt ↦ lt
        | inr ge ↦ let none : length line ≡ 0 = ap length (b.full (omega (arith, ge, b.within))) in absurd (omega (arith, none, some))
      ]

-- the first line, with more bytes or ended
pub head_process : (k : Kinds) (line z : List ℕ) → line ≡ process_head → TakesProcess k → HoldsFor k (in_head line) z
    → HoldsFor k (in_process [] []) (z ++ 10 ∷ [])
head_process k line z e t h = (
  t,
  record {
    lines = [];
    whole = ap (λ y. y ++ 10 ∷ []) (h.0 ∙ e);
    steps = no_lines;
    within = omega arith;
    opened = refl;
    full = λ all. refl;
  },
)

pub head_rules : (k : Kinds) (line z : List ℕ) → line ≡ rule_head → TakesRules k → HoldsFor k (in_head line) z
    → HoldsFor k (in_rules [] []) (z ++ 10 ∷ [])
head_rules k line z e t h = (
  t,
  record {
    lines = [];
    whole = ap (λ y. y ++ 10 ∷ []) (h.0 ∙ e);
    steps = no_lines;
    within = omega arith;
    opened = refl;
    full = λ all. refl;
  },
)

pub head_other : (k : Kinds) (line z : List ℕ) → (TakesProcess k × (line ≡ process_head) → ⊥) → (TakesRules k × (line ≡ rule_head) → ⊥)
    → HoldsFor k (in_head line) z → HoldsFor k (faulty fault.BadHead) (z ++ 10 ∷ [])
head_other k line z p r h more =
    let same : line ++ (10 ∷ more) ≡ (z ++ 10 ∷ []) ++ more = ap (λ y. y ++ (10 ∷ more)) (sym h.0) ∙ sym (append_assoc z (10 ∷ []) more) in
    subst (λ (y : List ℕ). IsRunRead k y (Err fault.BadHead)) same
    (read_headless k (line ++ (10 ∷ more)) (λ t. other_head process_head line more refl h.1 (λ e. p (t, e)))
    (λ t. other_head rule_head line more refl h.1 (λ e. r (t, e))))

pub head_long : (k : Kinds) (line z y : List ℕ) → IsOpenLine y → 11 < length (line ++ y) → HoldsFor k (in_head line) z
    → HoldsFor k (faulty fault.BadHead) (z ++ y)
head_long k line z y plain longer h more =
    let same : (line ++ y) ++ more ≡ (z ++ y) ++ more = ap (λ x. (x ++ y) ++ more) (sym h.0) in
    let opened : IsOpenLine (line ++ y) = both_pass is_not_feed line y h.1 plain in
    subst (λ (x : List ℕ). IsRunRead k x (Err fault.BadHead)) same
    (read_headless k ((line ++ y) ++ more) (λ t. long_head process_head (line ++ y) more opened longer)
    (λ t. long_head rule_head (line ++ y) more opened (omega (arith, longer))))

pub head_more : (k : Kinds) (line z y : List ℕ) → IsOpenLine y → HoldsFor k (in_head line) z
    → HoldsFor k (in_head (line ++ y)) (z ++ y)
head_more k line z y plain h = (ap (λ x. x ++ y) h.0, both_pass is_not_feed line y h.1 plain)

pub head_open : (k : Kinds) (line z : List ℕ) → HoldsFor k (in_head line) z → IsRunRead k z (Err fault.BadHead)
head_open k line z h =
    subst (λ (y : List ℕ). IsRunRead k y (Err fault.BadHead)) (sym h.0)
    (read_headless k line (λ t. open_head process_head line h.1) (λ t. open_head rule_head line h.1))

-- a fault stays
pub fault_stays : (k : Kinds) (e : RunFault) (z y : List ℕ) → HoldsFor k (faulty e) z → HoldsFor k (faulty e) (z ++ y)
fault_stays k e z y h more = subst (λ (x : List ℕ). IsRunRead k x (Err e)) (sym (append_assoc z y more)) (h (y ++ more))

pub fault_told : (k : Kinds) (e : RunFault) (z : List ℕ) → HoldsFor k (faulty e) z → IsRunRead k z (Err e)
fault_told k e z h = subst (λ (y : List ℕ). IsRunRead k y (Err e)) (append-nil z) (h [])

-- an answer is told
pub told_of : (k : Kinds) (z : List ℕ) (r : Result Run RunFault) → IsRunRead k z r → IsTold (IsRunRead k z) r
told_of k z (Ok x) is = is
told_of k z (Err fault.Mem) is = tt
told_of k z (Err fault.BadHead) is = is
told_of k z (Err (fault.BadLine line)) is = is
told_of k z (Err fault.TooManySteps) is = is

-- a run of a process: with more bytes, with a line more, and at the end
module _ (k : Kinds) (ss : List PStep) (line z : List ℕ) where
  pub many_process : (y : List ℕ) → 0 < length y → MOST_PROCESS_STEPS ≤ length ss → HoldsFor k (in_process ss line) z → HoldsFor k (faulty fault.TooManySteps) (z ++ y)
  many_process y some many h more =
      subst (λ (x : List ℕ). IsRunRead k x (Err fault.TooManySteps)) (sym (append_assoc z y more))
      (read_process k (lines_text h.1.lines ++ (line ++ (y ++ more))) (z ++ (y ++ more)) (Err fault.TooManySteps) h.0
      (whole_on process_head IsProcessStepLine MOST_PROCESS_STEPS ss line z h.1 (y ++ more)) (begun_many process_head IsProcessStepLine MOST_PROCESS_STEPS ss line z many h.1 y more some))

  pub with_process : (y : List ℕ) → IsOpenLine y → length ss < MOST_PROCESS_STEPS → HoldsFor k (in_process ss line) z
      → HoldsFor k (in_process ss (line ++ y)) (z ++ y)
  with_process y plain few h = (h.0, begun_with process_head IsProcessStepLine MOST_PROCESS_STEPS ss line z y plain few h.1)

  pub step_process : (s : PStep) → IsProcessStepLine s line → length ss < MOST_PROCESS_STEPS → HoldsFor k (in_process ss line) z
      → HoldsFor k (in_process (ss ++ s ∷ []) []) (z ++ 10 ∷ [])
  step_process s here few h = (h.0, begun_step process_head IsProcessStepLine MOST_PROCESS_STEPS ss line z s here few h.1)

  pub bad_process : ((s : PStep) → IsProcessStepLine s line → ⊥) → length ss < MOST_PROCESS_STEPS → HoldsFor k (in_process ss line) z
      → HoldsFor k (faulty (fault.BadLine (length ss + 2))) (z ++ 10 ∷ [])
  bad_process none few h more =
      subst (λ (y : List ℕ). IsRunRead k y (Err (fault.BadLine (length ss + 2)))) (sym (append_assoc z (10 ∷ []) more))
      (read_process k (lines_text h.1.lines ++ (line ++ (10 ∷ more))) (z ++ (10 ∷ more)) (Err (fault.BadLine (length ss + 2))) h.0
      (whole_on process_head IsProcessStepLine MOST_PROCESS_STEPS ss line z h.1 (10 ∷ more)) (begun_bad process_head IsProcessStepLine MOST_PROCESS_STEPS ss line z none few h.1 more))

  pub end_process : line ≡ [] → HoldsFor k (in_process ss line) z → IsRunRead k z (Ok (run.Process ss))
  end_process none h =
      read_process k (lines_text h.1.lines ++ line) z (Ok ss) h.0 h.1.whole (begun_end process_head IsProcessStepLine MOST_PROCESS_STEPS ss line z none h.1)

  pub open_process : 0 < length line → HoldsFor k (in_process ss line) z → (length ss ≤ MOST_PROCESS_STEPS) × IsRunRead k z (Err (fault.BadLine (length ss + 2)))
  open_process some h =
      (h.1.within, read_process k (lines_text h.1.lines ++ line) z (Err (fault.BadLine (length ss + 2))) h.0 h.1.whole (begun_open process_head IsProcessStepLine MOST_PROCESS_STEPS ss line z some h.1))

-- a run of rules: with more bytes, with a line more, and at the end
module _ (k : Kinds) (ss : List RStep) (line z : List ℕ) where
  pub many_rules : (y : List ℕ) → 0 < length y → MOST_RULE_STEPS ≤ length ss → HoldsFor k (in_rules ss line) z → HoldsFor k (faulty fault.TooManySteps) (z ++ y)
  many_rules y some many h more =
      subst (λ (x : List ℕ). IsRunRead k x (Err fault.TooManySteps)) (sym (append_assoc z y more))
      (read_rules k (lines_text h.1.lines ++ (line ++ (y ++ more))) (z ++ (y ++ more)) (Err fault.TooManySteps) h.0
      (whole_on rule_head IsRuleStepLine MOST_RULE_STEPS ss line z h.1 (y ++ more)) (begun_many rule_head IsRuleStepLine MOST_RULE_STEPS ss line z many h.1 y more some))

  pub with_rules : (y : List ℕ) → IsOpenLine y → length ss < MOST_RULE_STEPS → HoldsFor k (in_rules ss line) z
      → HoldsFor k (in_rules ss (line ++ y)) (z ++ y)
  with_rules y plain few h = (h.0, begun_with rule_head IsRuleStepLine MOST_RULE_STEPS ss line z y plain few h.1)

  pub step_rules : (s : RStep) → IsRuleStepLine s line → length ss < MOST_RULE_STEPS → HoldsFor k (in_rules ss line) z
      → HoldsFor k (in_rules (ss ++ s ∷ []) []) (z ++ 10 ∷ [])
  step_rules s here few h = (h.0, begun_step rule_head IsRuleStepLine MOST_RULE_STEPS ss line z s here few h.1)

  pub bad_rules : ((s : RStep) → IsRuleStepLine s line → ⊥) → length ss < MOST_RULE_STEPS → HoldsFor k (in_rules ss line) z
      → HoldsFor k (faulty (fault.BadLine (length ss + 2))) (z ++ 10 ∷ [])
  bad_rules none few h more =
      subst (λ (y : List ℕ). IsRunRead k y (Err (fault.BadLine (length ss + 2)))) (sym (append_assoc z (10 ∷ []) more))
      (read_rules k (lines_text h.1.lines ++ (line ++ (10 ∷ more))) (z ++ (10 ∷ more)) (Err (fault.BadLine (length ss + 2))) h.0
      (whole_on rule_head IsRuleStepLine MOST_RULE_STEPS ss line z h.1 (10 ∷ more)) (begun_bad rule_head IsRuleStepLine MOST_RULE_STEPS ss line z none few h.1 more))

  pub end_rules : line ≡ [] → HoldsFor k (in_rules ss line) z → IsRunRead k z (Ok (run.Rules ss))
  end_rules none h =
      read_rules k (lines_text h.1.lines ++ line) z (Ok ss) h.0 h.1.whole (begun_end rule_head IsRuleStepLine MOST_RULE_STEPS ss line z none h.1)

  pub open_rules : 0 < length line → HoldsFor k (in_rules ss line) z → (length ss ≤ MOST_RULE_STEPS) × IsRunRead k z (Err (fault.BadLine (length ss + 2)))
  open_rules some h =
      (h.1.within, read_rules k (lines_text h.1.lines ++ line) z (Err (fault.BadLine (length ss + 2))) h.0 h.1.whole (begun_open rule_head IsRuleStepLine MOST_RULE_STEPS ss line z some h.1))
