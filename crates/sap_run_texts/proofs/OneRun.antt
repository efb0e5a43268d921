-- What a text is as a run, of whichever kind.
use Rattle.std.proofs.Common.{◌≡◌, ℕ, List, [], ◌∷◌, ◌++◌, refl, sym, ap, ◌∙◌, ◌⊎◌, inl, inr, arith}
use Rattle.std.specs.Prelude.{Result, Err}
use Rattle.sap_runs.specs.declared.process_step.PStep.{PStep}
use Rattle.sap_runs.specs.declared.rule_step.RStep.{RStep}
use Rattle.sap_run_texts.specs.declared.run_fault.RunFault.{RunFault}
use Rattle.sap_run_texts.specs.declared.run_fault.RunFault.TheVariants as fault
use Rattle.sap_run_texts.specs.declared.run.Kinds.{Kinds}
use Rattle.sap_run_texts.specs.declared.run.Kinds.TheVariants as kinds
use Rattle.sap_run_texts.specs.declared.run.Run.{Run}
use Rattle.sap_run_texts.specs.declared.limits.TheConstants.{MOST_PROCESS_STEPS, MOST_RULE_STEPS}
use Rattle.sap_run_lines.specs.StepLines.{IsProcessStepLine, IsRuleStepLine, IsOpenLine}
use Rattle.sap_run_texts.specs.RunTexts.{IsHeaded, process_head, rule_head, IsProcessRunText, IsRuleRunText, process_answer, rule_answer, IsRunRead, as_process, as_rules, told_process, told_rules, told_neither}
use Rattle.sap_run_texts.proofs.OneText.{one_text}
use Rattle.sap_run_texts.proofs.SomeText.{headed_or_not, text_headed, text_headless}

-- the first byte, or 0
abbrev first_byte : List ℕ → ℕ
first_byte [] = 0
first_byte (b ∷ z) = b

-- no text has both heads
two_heads : (body other z : List ℕ) → IsHeaded process_head body z → IsHeaded rule_head other z → ⊥
two_heads body other z e f =
    let both : process_head ++ (10 ∷ body) ≡ rule_head ++ (10 ∷ other) = sym e ∙ f in
    let first : first_byte (process_head ++ (10 ∷ body)) ≡ first_byte (rule_head ++ (10 ∷ other)) = ap first_byte both in
    omega (arith, first)

-- where a line is one step's at most
module _ (one_process : (s u : PStep) (z : List ℕ) → IsProcessStepLine s z → IsProcessStepLine u z → s ≡ u)
    (one_rule : (s u : RStep) (z : List ℕ) → IsRuleStepLine s z → IsRuleStepLine u z → s ≡ u)
    (process_line_open : (s : PStep) (z : List ℕ) → IsProcessStepLine s z → IsOpenLine z) (rule_line_open : (s : RStep) (z : List ℕ) → IsRuleStepLine s z → IsOpenLine z) where
  pub one_process_run : (z : List ℕ) (o r : Result (List PStep) RunFault) → IsProcessRunText z o → IsProcessRunText z r → o ≡ r
  one_process_run z o r p q = one_text IsProcessStepLine MOST_PROCESS_STEPS one_process process_line_open process_head z o r refl p q

  pub one_rule_run : (z : List ℕ) (o r : Result (List RStep) RunFault) → IsRuleRunText z o → IsRuleRunText z r → o ≡ r
  one_rule_run z o r p q = one_text IsRuleStepLine MOST_RULE_STEPS one_rule rule_line_open rule_head z o r refl p q

  pub one_read : (k : Kinds) (z : List ℕ) (o r : Result Run RunFault) → IsRunRead k z o → IsRunRead k z r → o ≡ r
  one_read _ z _ _ (as_process {o = o} p) (as_process {o = r} q) = ap process_answer (one_process_run z o r p q)
  one_read _ z _ _ (as_rules {o = o} p) (as_rules {o = r} q) = ap rule_answer (one_rule_run z o r p q)
  one_read _ z _ _ (told_process {o = o} h p) (told_process {o = r} g q) = ap process_answer (one_process_run z o r p q)
  one_read _ z _ _ (told_process {body = body} h p) (told_rules {body = other} g q) = absurd (two_heads body other z h g)
  one_read _ z _ _ (told_process {body = body} h p) (told_neither n m) = absurd (n body h)
  one_read _ z _ _ (told_rules {body = other} h p) (told_process {body = body} g q) = absurd (two_heads body other z g h)
  one_read _ z _ _ (told_rules {o = o} h p) (told_rules {o = r} g q) = ap rule_answer (one_rule_run z o r p q)
  one_read _ z _ _ (told_rules {body = body} h p) (told_neither n m) = absurd (m body h)
  one_read _ z _ _ (told_neither n m) (told_process {body = body} g q) = absurd (n body g)
  one_read _ z _ _ (told_neither n m) (told_rules {body = body} g q) = absurd (m body g)
  one_read _ z _ _ (told_neither n m) (told_neither u v) = refl

-- where each line is a step's or none's
module _ (some_process : (z : List ℕ) → ((s : PStep) × IsProcessStepLine s z) ⊎ ((s : PStep) → IsProcessStepLine s z → ⊥))
    (some_rule : (z : List ℕ) → ((s : RStep) × IsRuleStepLine s z) ⊎ ((s : RStep) → IsRuleStepLine s z → ⊥)) where
  process_headed : (body z : List ℕ) → IsHeaded process_head body z → (o : Result (List PStep) RunFault) × IsProcessRunText z o
  process_headed body z e = text_headed IsProcessStepLine MOST_PROCESS_STEPS some_process process_head body z e

  rule_headed : (body z : List ℕ) → IsHeaded rule_head body z → (o : Result (List RStep) RunFault) × IsRuleRunText z o
  rule_headed body z e = text_headed IsRuleStepLine MOST_RULE_STEPS some_rule rule_head body z e

  pub some_process_run : (z : List ℕ) → (o : Result (List PStep) RunFault) × IsProcessRunText z o
  some_process_run z =
      elim (headed_or_not process_head z refl) [
        | inl at ↦ process_headed at.0 z at.1
        | inr none ↦ text_headless IsProcessStepLine MOST_PROCESS_STEPS some_process process_head z none
      ]

  pub some_rule_run : (z : List ℕ) → (o : Result (List RStep) RunFault) × IsRuleRunText z o
  some_rule_run z =
      elim (headed_or_not rule_head z refl) [
        | inl at ↦ rule_headed at.0 z at.1
        | inr none ↦ text_headless IsRuleStepLine MOST_RULE_STEPS some_rule rule_head z none
      ]

  pub some_read : (k : Kinds) (z : List ℕ) → (o : Result Run RunFault) × IsRunRead k z o
  some_read kinds.Process z = let given = some_process_run z in (process_answer given.0, as_process given.1)
  some_read kinds.Rules z = let given = some_rule_run z in (rule_answer given.0, as_rules given.1)
  some_read kinds.Either z = elim (headed_or_not process_head z refl) [
    | inl at ↦ let given = process_headed at.0 z at.1 in (process_answer given.0, told_process at.1 given.1)
    | inr none ↦ elim (headed_or_not rule_head z refl) [
      | inl at ↦ let given = rule_headed at.0 z at.1 in (rule_answer given.0, told_rules at.1 given.1)
      | inr neither ↦ (Err fault.BadHead, told_neither none neither)
    ]
  ]
