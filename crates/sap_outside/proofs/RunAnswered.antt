-- What is answered of a run with too many steps.
use Rattle.std.proofs.Common.{◌≡◌, ◌≤◌, ℕ, List, length, slice_get, Option, Some, Result, Err, inl, inr, ◌⊎◌, refl, sym, ap, ◌∙◌, arith}
use Rattle.std.specs.Prelude.{unwrap_or}
use Rattle.sap_run_texts.specs.declared.run.Kinds.{Kinds}
use Rattle.sap_run_texts.specs.declared.run.Run.{Run}
use Rattle.sap_run_texts.specs.declared.run_fault.RunFault.{RunFault}
use Rattle.sap_run_texts.specs.declared.run_fault.RunFault.TheVariants as fault
use Rattle.sap_run_texts.specs.declared.limits.TheConstants.{MOST_PROCESS_STEPS, MOST_RULE_STEPS}
use Rattle.sap_run_texts.specs.RunReading.{TakesProcess, TakesRules}
use Rattle.sap_run_texts.specs.RunTexts.{IsHeaded, process_head, rule_head, headed, headless, IsRunRead, as_process, as_rules, told_process, told_rules, told_neither}
use Rattle.sap_outside.specs.declared.run_refusal.RunRefusal.TheVariants as refusal
use Rattle.sap_outside.specs.RunPieces.{most_run_bytes, IsRunAnswer, too_many_of_process, too_many_of_rules}

-- such a run has a head, of a kind that is asked for
abbrev HasHead : Kinds → List ℕ → Type 0
HasHead k z = ((body : List ℕ) × IsHeaded process_head body z × TakesProcess k) ⊎ ((body : List ℕ) × IsHeaded rule_head body z × TakesRules k)

head_of : (k : Kinds) (z : List ℕ) (o : Result Run RunFault) → IsRunRead k z o → o ≡ Err fault.TooManySteps → HasHead k z
head_of _ z _ (as_process (headed {body = body} h b)) e = inl (body, h, tt)
head_of _ z _ (as_process (headless n)) e = cc
head_of _ z _ (as_rules (headed {body = body} h b)) e = inr (body, h, tt)
head_of _ z _ (as_rules (headless n)) e = cc
head_of _ z _ (told_process {body = body} h p) e = inl (body, h, tt)
head_of _ z _ (told_rules {body = body} h p) e = inr (body, h, tt)
head_of _ z _ (told_neither n m) e = cc

-- its first byte tells which
first_of_process : (body z : List ℕ) → IsHeaded process_head body z → slice_get z 0 ≡ Some 112
first_of_process body z h = ap (λ y. slice_get y 0) h

first_of_rules : (body z : List ℕ) → IsHeaded rule_head body z → slice_get z 0 ≡ Some 114
first_of_rules body z h = ap (λ y. slice_get y 0) h

two_firsts : (one other : ℕ) → Some one ≡ Some other → one ≡ 112 → other ≡ 114 → ⊥
two_firsts one other e is_one is_other = let same : one ≡ other = ap (λ o. unwrap_or o 0) e in omega (arith, same, is_one, is_other)

module _ (k : Kinds) (z : List ℕ) (first : Option ℕ) (short : length z ≤ most_run_bytes) (is_first : first ≡ slice_get z 0)
    (read : IsRunRead k z (Err fault.TooManySteps)) where
  pub of_process : (TakesRules k → first ≡ Some 112) → IsRunAnswer k z (Err (refusal.TooManySteps MOST_PROCESS_STEPS))
  of_process begins = elim (head_of k z (Err fault.TooManySteps) read refl) [
    | inl at ↦ too_many_of_process short at.1 read
    | inr at ↦ absurd (two_firsts 112 114 (sym (begins at.2) ∙ is_first ∙ first_of_rules at.0 z at.1) refl refl)
  ]

  pub of_rules : (TakesProcess k → first ≡ Some 112 → ⊥) → IsRunAnswer k z (Err (refusal.TooManySteps MOST_RULE_STEPS))
  of_rules begins_not = elim (head_of k z (Err fault.TooManySteps) read refl) [
    | inl at ↦ absurd (begins_not at.2 (is_first ∙ first_of_process at.0 z at.1))
    | inr at ↦ too_many_of_rules short at.1 read
  ]
