use Rattle.std.proofs.Common.{◌≡◌, ◌≤◌, ◌<◌, ◌+◌, ℕ, List, [], ◌∷◌, ◌++◌, length, sym, subst, arith}
use Rattle.std.specs.Prelude.{Option}
use Rattle.std.proofs.lemmas.Grind.{common_steps}
use Rattle.sap_runs.specs.declared.rule_step.RStep.{RStep}
use Rattle.sap_run_texts.specs.declared.run_fault.RunFault.TheVariants as fault
use Rattle.sap_run_texts.specs.declared.limits.TheConstants.{MOST_RULE_STEPS}
use Rattle.sap_run_lines.specs.StepLines.{IsRuleStepLine, IsLineRead}
use Rattle.sap_run_texts.specs.RunReading.{HoldsFor, faulty, in_rules}
use Rattle.sap_run_texts.proofs.Begun as begun
use Rattle.sap_run_texts.proofs.reader.end_rules.Goals as goal

pub returns-then-len-ge-MOST_RULE_STEPS-clause-holds : goal.returns-then-len-ge-MOST_RULE_STEPS-clause-holds
returns-then-len-ge-MOST_RULE_STEPS-clause-holds c k process z h =
    let many : MOST_RULE_STEPS ≤ length c.args.steps.now = omega (arith, c.if-len-ge-MOST_RULE_STEPS.true, c.len.ensures) in
    begun.many_rules k c.args.steps.now c.args.line.now.items z (10 ∷ []) (omega arith) many h

pub returns-in_ok-push-in-Some-clause-holds : goal.returns-in_ok-push-in-Some-clause-holds
returns-in_ok-push-in-Some-clause-holds c k process z h =
    let few : length c.args.steps.now < MOST_RULE_STEPS = omega (arith, c.if-len-ge-MOST_RULE_STEPS.false, c.len.ensures) in
    let read : IsLineRead IsRuleStepLine c.args.line.now.items c.in_ok-step.step =
    subst (λ (y : List ℕ). IsLineRead IsRuleStepLine y c.in_ok-step.step) c.as_slice.ensures.value c.in_ok-step.ensures in
    let here : IsRuleStepLine c.in-Some.step c.args.line.now.items =
    subst (λ (o : Option RStep). IsLineRead IsRuleStepLine c.args.line.now.items o) c.in-Some.is read in
    let pushed : c.args.steps.now ++ c.in-Some.step ∷ [] ≡ c.push.new.self = grind (arith, common_steps) in
    let cleared : [] ≡ c.clear.new.self.items = sym c.clear.ensures.items in
    let done : HoldsFor k (in_rules (c.args.steps.now ++ c.in-Some.step ∷ []) []) (z ++ 10 ∷ []) =
    begun.step_rules k c.args.steps.now c.args.line.now.items z c.in-Some.step here few h in
    let with_steps : HoldsFor k (in_rules c.push.new.self []) (z ++ 10 ∷ []) =
    subst (λ (ss : List RStep). HoldsFor k (in_rules ss []) (z ++ 10 ∷ [])) pushed done in
    subst (λ (y : List ℕ). HoldsFor k (in_rules c.push.new.self y) (z ++ 10 ∷ [])) cleared with_steps

pub returns-in-None-clause-holds : goal.returns-in-None-clause-holds
returns-in-None-clause-holds c k process z h =
    let few : length c.args.steps.now < MOST_RULE_STEPS = omega (arith, c.if-len-ge-MOST_RULE_STEPS.false, c.len.ensures) in
    let read : IsLineRead IsRuleStepLine c.args.line.now.items c.in_ok-step.step =
    subst (λ (y : List ℕ). IsLineRead IsRuleStepLine y c.in_ok-step.step) c.as_slice.ensures.value c.in_ok-step.ensures in
    let none : (s : RStep) → IsRuleStepLine s c.args.line.now.items → ⊥ =
    subst (λ (o : Option RStep). IsLineRead IsRuleStepLine c.args.line.now.items o) c.in-None.is read in
    let counted : length c.args.steps.now ≡ c.len-in-None.result = sym c.len-in-None.ensures in
    let done : HoldsFor k (faulty (fault.BadLine (length c.args.steps.now + 2))) (z ++ 10 ∷ []) =
    begun.bad_rules k c.args.steps.now c.args.line.now.items z none few h in
    subst (λ (n : ℕ). HoldsFor k (faulty (fault.BadLine (n + 2))) (z ++ 10 ∷ [])) counted done
