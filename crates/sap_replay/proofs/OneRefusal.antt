-- A run is refused for one cause.
use Rattle.std.proofs.Common.{◌≡◌, ◌≤◌, ◌<◌, ℕ, List, [], ◌∷◌, ◌++◌, length, Result, Ok, Err, refl, sym, ap, subst, ◌∙◌, ◌⊎◌, inl, inr, arith}
use Rattle.std.specs.Prelude.{◌+◌, All}
use Rattle.sap_terms.specs.Signature.{HoldsBuiltins}
use Rattle.sap_read.specs.Files.{FileContent}
use Rattle.sap_rule.specs.WellMade.{IsWellMade}
use Rattle.sap_rule.specs.declared.theory.Theory.{Theory}
use Rattle.sap_runs.specs.declared.rule_step.RStep.{RStep}
use Rattle.sap_run_texts.specs.RunTexts.{IsRunRead, IsHeaded, process_head, rule_head}
use Rattle.sap_run_texts.specs.declared.limits.TheConstants.{MOST_PROCESS_STEPS, MOST_RULE_STEPS}
use Rattle.sap_run_texts.specs.declared.run.Kinds.{Kinds}
use Rattle.sap_run_texts.specs.declared.run.Run.{Run}
use Rattle.sap_run_texts.specs.declared.run_fault.RunFault.{RunFault}
use Rattle.sap_run_texts.specs.declared.run_fault.RunFault.TheVariants as fault
use Rattle.sap_steps.specs.Answers.{RefusalsAreOne}
use Rattle.sap_steps.specs.Faults.{IsLineFault}
use Rattle.sap_steps.specs.declared.fault.RFault.{RFault}
use Rattle.sap_forward.specs.Answers.{HasOneFirst}
use Rattle.sap_back.specs.Answers.{HaveOneAnswer}
use Rattle.sap_refusals.specs.RunFaultTexts.{at_step, process_fault_text, rule_fault_text, broken_text, run_refusal_text}
use Rattle.sap_outside.specs.RunPieces.{most_run_bytes, IsRunAnswer, too_long, bad_head, bad_line, too_many_of_process, too_many_of_rules}
use Rattle.sap_replay.specs.RunRefusals.{IsIllegal, of_process, of_rules, breaks, IsFirstRefusedOfTheory, IsIllegalOfTheory, of_theory, IsRunRefusedWith, no_run, illegal}
use Rattle.sap_outside.specs.declared.run_refusal.RunRefusal.{RunRefusal}
use Rattle.sap_outside.specs.declared.run_refusal.RunRefusal.TheVariants as refusal
use Rattle.sap_replay.proofs.OneRun.{OneRun, not_both, same_run}
use Rattle.sap_replay.proofs.RuleRuns as rules

-- the first byte, or 0
abbrev first_byte : List ℕ → ℕ
first_byte [] = 0
first_byte (b ∷ z) = b

-- no bytes have both heads
two_heads : (body other z : List ℕ) → IsHeaded process_head body z → IsHeaded rule_head other z → ⊥
two_heads body other z e f =
    let both : process_head ++ (10 ∷ body) ≡ rule_head ++ (10 ∷ other) = sym e ∙ f in
    let first : first_byte (process_head ++ (10 ∷ body)) ≡ first_byte (rule_head ++ (10 ∷ other)) = ap first_byte both in
    omega (arith, first)

-- bytes are no run for one reason
module _ (one : OneRun) (k : Kinds) (z : List ℕ) where
  -- what is answered where their reader says this
  abbrev Says : RunFault → RunRefusal → Type 0
  Says fault.Mem e = ⊥
  Says fault.BadHead e = e ≡ refusal.BadHead
  Says (fault.BadLine line) e = e ≡ refusal.BadLine line
  Says fault.TooManySteps e =
      ((body : List ℕ) × IsHeaded process_head body z × (e ≡ refusal.TooManySteps MOST_PROCESS_STEPS))
      ⊎ ((body : List ℕ) × IsHeaded rule_head body z × (e ≡ refusal.TooManySteps MOST_RULE_STEPS))

  says_one : (f : RunFault) (e d : RunRefusal) → Says f e → Says f d → e ≡ d
  says_one fault.Mem e d a b = absurd a
  says_one fault.BadHead e d a b = a ∙ sym b
  says_one (fault.BadLine line) e d a b = a ∙ sym b
  says_one fault.TooManySteps e d (inl a) (inl b) = a.2 ∙ sym b.2
  says_one fault.TooManySteps e d (inl a) (inr b) = absurd (two_heads a.0 b.0 z a.1 b.1)
  says_one fault.TooManySteps e d (inr a) (inl b) = absurd (two_heads b.0 a.0 z b.1 a.1)
  says_one fault.TooManySteps e d (inr a) (inr b) = a.2 ∙ sym b.2

  -- they are too many, or their reader says why
  abbrev Reason : RunRefusal → Type 0
  Reason e = ((most_run_bytes < length z) × (e ≡ refusal.TooLong)) ⊎ ((length z ≤ most_run_bytes) × (f : RunFault) × IsRunRead k z (Err f) × Says f e)

  reason : (e : RunRefusal) → IsRunAnswer k z (Err e) → Reason e
  reason e (too_long l) = inl (l, refl)
  reason e (bad_head l r) = inr (l, fault.BadHead, r, refl)
  reason e (bad_line {line = line} l r) = inr (l, fault.BadLine line, r, refl)
  reason e (too_many_of_process {body = body} l h r) = inr (l, fault.TooManySteps, r, inl (body, h, refl))
  reason e (too_many_of_rules {body = body} l h r) = inr (l, fault.TooManySteps, r, inr (body, h, refl))

  reasons_one : (e d : RunRefusal) → Reason e → Reason d → e ≡ d
  reasons_one e d (inl a) (inl b) = a.1 ∙ sym b.1
  reasons_one e d (inl a) (inr b) = absurd (omega (arith, a.0, b.0))
  reasons_one e d (inr a) (inl b) = absurd (omega (arith, a.0, b.0))
  reasons_one e d (inr a) (inr b) =
      let both : ◌≡◌ {A = Result Run RunFault} (Err b.1) (Err a.1) = one k z (Err b.1) (Err a.1) b.2 a.2 in
      let same : b.1 ≡ a.1 = cc in
      says_one a.1 e d a.3 (subst (λ (f : RunFault). Says f d) same b.3)

  -- where a run is illegal for one cause, bytes are refused for one
  pub one_run_cause : (Is : Run → List ℕ → Type 0) → ((r : Run) (why other : List ℕ) → Is r why → Is r other → why ≡ other) → (why other : List ℕ) → IsRunRefusedWith k Is z why
      → IsRunRefusedWith k Is z other → why ≡ other
  one_run_cause Is once _ _ (no_run {e = e} a) (no_run {e = d} b) = ap run_refusal_text (reasons_one e d (reason e a) (reason d b))
  one_run_cause Is once _ other (no_run {e = e} a) (illegal {r = r} b bad) = absurd (not_both one k z r e b a)
  one_run_cause Is once why _ (illegal {r = r} a bad) (no_run {e = e} b) = absurd (not_both one k z r e a b)
  one_run_cause Is once why other (illegal {r = r} a bad) (illegal {r = s} b worse) =
      once r why other bad (subst (λ (x : Run). Is x other) (sym (same_run one k z r s a b)) worse)

  -- and where they are a run that isn't illegal, for none
  pub not_refused : (Is : Run → List ℕ → Type 0) (r : Run) → IsRunAnswer k z (Ok r) → ((why : List ℕ) → Is r why → ⊥) → (why : List ℕ) → IsRunRefusedWith k Is z why → ⊥
  not_refused Is r read never _ (no_run {e = e} a) = not_both one k z r e read a
  not_refused Is r read never why (illegal {r = s} a bad) =
      let same : r ≡ s = same_run one k z r s read a in
      never why (subst (λ (x : Run). Is x why) (sym same) bad)

-- a run of a file is illegal for one cause
pub one_illegal : (f : FileContent) → HasOneFirst f.signature f.process → ((lines : List RStep) → HaveOneAnswer f.signature f.process lines) → (r : Run) (why other : List ℕ) → IsIllegal f r why
    → IsIllegal f r other → why ≡ other
one_illegal f first answer _ _ _ (of_process {lines = lines} n e a) (of_process m d b) =
    let same = first lines n m e d a b in λ i. at_step (same.0 i) (process_fault_text (same.1 i))
one_illegal f first answer _ _ _ (of_rules {lines = lines} n e a) (of_rules m d b) =
    let same = (answer lines).one_refused n m e d a b in λ i. at_step (same.0 i) (rule_fault_text (same.1 i))
one_illegal f first answer _ _ _ (of_rules {lines = lines} n e a) (breaks m w b) = absurd ((answer lines).refused_or_broken n m e w a b)
one_illegal f first answer _ _ _ (breaks {lines = lines} n w a) (of_rules m d b) = absurd ((answer lines).refused_or_broken m n d w b a)
one_illegal f first answer _ _ _ (breaks {lines = lines} n w a) (breaks m v b) =
    let same = (answer lines).one_broken n m w v a b in λ i. at_step (same.0 i) (broken_text (same.1 i))

-- of two cuts of one list, one is no later than the other
two_cuts : {X : Type 0} (b c : List X) (x y : X) (xs ys : List X) → b ++ x ∷ xs ≡ c ++ y ∷ ys
    → ((b ≡ c) × (x ≡ y)) ⊎ (((mid : List X) × (c ≡ b ++ x ∷ mid)) ⊎ ((mid : List X) × (b ≡ c ++ y ∷ mid)))
two_cuts [] [] x y xs ys e = inl (refl, cc)
two_cuts [] (w ∷ c) x y xs ys e = let head : x ≡ w = cc in inr (inl (c, λ i. sym head i ∷ c))
two_cuts (v ∷ b) [] x y xs ys e = let head : v ≡ y = cc in inr (inr (b, λ i. head i ∷ b))
two_cuts (v ∷ b) (w ∷ c) x y xs ys e =
    let head : v ≡ w = cc in
    elim (two_cuts b c x y xs ys (cc)) [
      | inl h ↦ inl ((λ i. head i ∷ h.0 i), h.1)
      | inr o ↦ elim o [ inl h ↦ inr (inl (h.0, λ i. sym head i ∷ h.1 i)) | inr h ↦ inr (inr (h.0, λ i. head i ∷ h.1 i)) ]
    ]

-- so is one of a theory's rules
module _ (laws : rules.Laws) (causes : RefusalsAreOne) (t : Theory) (hold : HoldsBuiltins t.signature) (made : All (IsWellMade t.signature) t.rules) where
  one_first : (lines : List RStep) (n m : ℕ) (e d : RFault) → IsFirstRefusedOfTheory t lines n e → IsFirstRefusedOfTheory t lines m d → (n ≡ m) × (e ≡ d)
  one_first lines n m e d a b = elim (two_cuts a.before b.before a.line b.line a.after b.after (sym a.cut ∙ b.cut)) [
    | inl same ↦
        let states = rules.one_run laws t.signature t.rules hold made a.legal b.legal same.0 in
        let there = subst (λ x. IsLineFault t.signature t.rules x a.line d) (sym states.0) (subst (λ x. IsLineFault t.signature t.rules b.state x d) (sym same.1) b.refused) in (
          a.counts ∙ (ap (λ (x : List RStep). length x + 1) same.0 ∙ sym b.counts),
          elim (causes t.signature t.rules a.state a.line e d made a.refused there) [
            | inl mem ↦ absurd (a.cause mem)
            | inr o ↦ elim o [ inl mem ↦ absurd (b.cause mem) | inr is ↦ is ]
          ],
        )
    | inr o ↦ elim o [
      | inl l ↦ absurd (rules.never_refused laws t.signature t.rules hold made a.before l.0 a.line a.state a.full e b.legal l.1 a.legal a.refused a.cause)
      | inr l ↦ absurd (rules.never_refused laws t.signature t.rules hold made b.before l.0 b.line b.state b.full d a.legal l.1 b.legal b.refused b.cause)
    ]
  ]

  pub one_illegal_of_theory : (r : Run) (why other : List ℕ) → IsIllegalOfTheory t r why → IsIllegalOfTheory t r other → why ≡ other
  one_illegal_of_theory _ _ _ (of_theory {lines = lines} n e a) (of_theory m d b) =
      let same = one_first lines n m e d a b in λ i. at_step (same.0 i) (rule_fault_text (same.1 i))
