use Rattle.std.proofs.Common.{◌≡◌, ◌≤◌, ◌<◌, List, [], ◌∷◌, ◌++◌, length, sym, subst, arith}
use Rattle.std.specs.Prelude.{Option, Err}
use Rattle.sap_runs.specs.declared.limits.TheConstants.{MOST_SHORT_STEPS}
use Rattle.sap_runs.specs.declared.short_step.SStep.{SStep}
use Rattle.sap_run_lines.specs.StepLines.{IsLineRead}
use Rattle.sap_run_lines.specs.ShortLines.{IsShortStepLine}
use Rattle.sap_run_texts.specs.declared.run_fault.RunFault.{RunFault}
use Rattle.sap_run_texts.specs.RunTexts.{IsBody, IsTold}
use Rattle.sap_run_texts.specs.code.ShortReading.{IsBehind}
use Rattle.sap_run_texts.proofs.ShortRuns.{behind_step, behind_many, behind_bad, behind_open}
use Rattle.sap_run_texts.proofs.read_short.take_line.Goals as goal

pub returns-then-len-ge-MOST_SHORT_STEPS-clause-told : goal.returns-then-len-ge-MOST_SHORT_STEPS-clause-told
returns-then-len-ge-MOST_SHORT_STEPS-clause-told c body b =
    let many : MOST_SHORT_STEPS ≤ length c.args.steps.now = omega (arith, c.if-len-ge-MOST_SHORT_STEPS.true, c.len.ensures) in
    behind_many c.args.steps.now c.args.bytes.now body b many c.requires

pub returns-in_default-clause-told : goal.returns-in_default-clause-told
returns-in_default-clause-told c body b =
    let few : length c.args.steps.now < MOST_SHORT_STEPS = omega (arith, c.if-len-ge-MOST_SHORT_STEPS.false, c.len.ensures) in
    subst (λ (e : RunFault). IsTold (IsBody IsShortStepLine MOST_SHORT_STEPS body) (Err e)) (sym (c.bad_line.ensures body c.args.bytes.now b))
    (behind_open c.args.steps.now c.args.bytes.now body b few c.in_default.ensures.none c.requires)

pub returns-in-None-clause-told : goal.returns-in-None-clause-told
returns-in-None-clause-told c body b =
    let few : length c.args.steps.now < MOST_SHORT_STEPS = omega (arith, c.if-len-ge-MOST_SHORT_STEPS.false, c.len.ensures) in
    let none : (s : SStep) → IsShortStepLine s c.in-Some.line.now → ⊥ =
    subst (λ (o : Option SStep). IsLineRead IsShortStepLine c.in-Some.line.now o) c.in-None.is c.in_ok-read_short_line.ensures in
    subst (λ (e : RunFault). IsTold (IsBody IsShortStepLine MOST_SHORT_STEPS body) (Err e)) (sym (c.bad_line-in-None.ensures body c.args.bytes.now b))
    (behind_bad c.args.steps.now c.args.bytes.now body b c.in-Some.line.now c.in-Some.rest.now few c.in-Some.ensures.opened none c.in-Some.ensures.line)

pub returns-in_ok-push-in-Some-2-clause-behind : goal.returns-in_ok-push-in-Some-2-clause-behind
returns-in_ok-push-in-Some-2-clause-behind c body b =
    let few : length c.args.steps.now < MOST_SHORT_STEPS = omega (arith, c.if-len-ge-MOST_SHORT_STEPS.false, c.len.ensures) in
    let here : IsShortStepLine c.in-Some-2.step c.in-Some.line.now =
    subst (λ (o : Option SStep). IsLineRead IsShortStepLine c.in-Some.line.now o) c.in-Some-2.is c.in_ok-read_short_line.ensures in
    let pushed : c.push.new.self ≡ c.args.steps.now ++ c.in-Some-2.step ∷ [] = c.in_ok-push-in-Some-2.ensures.ok in
    subst (λ (ss : List SStep). IsBehind ss c.in-Some.rest.now body) (sym pushed)
    (behind_step c.args.steps.now c.args.bytes.now body b c.in-Some-2.step c.in-Some.line.now c.in-Some.rest.now few here c.in-Some.ensures.line)
