use Rattle.std.proofs.Common.{◌≡◌, ap, Err, List, Some, arith, length, refl, subst}
use Rattle.std.specs.Prelude.{slice_get, All}
use Rattle.std.proofs.lemmas.Grind.{common_steps}
use Rattle.std.proofs.lemmas.Option.{slice_get_read}
use Rattle.sap_rule.specs.declared.rule.Rule.{Rule}
use Rattle.sap_rule.specs.WellMade.{IsRuleOver}
use Rattle.sap_theory.specs.TheoryCauses.{IsFirstWrong}
use Rattle.sap_theory.specs.declared.fault.TheoryFault.TheVariants.{BadFunction}
use Rattle.sap_theory.proofs.Checked.{none_yet, wrong_here, right_here, right_to_the_end}
use Rattle.sap_theory.proofs.checking.rules.check_symbols.Goals as goal

pub loop-rule-init : goal.loop-rule-init
loop-rule-init c = none_yet (IsRuleOver c.args.sig.now) BadFunction c.as_slice-rule-items.result.now

pub returns-in_err-check_over-clause-refused : goal.returns-in_err-check_over-clause-refused
returns-in_err-check_over-clause-refused c = λ e is other.
    let items = c.as_slice-rule-items.result.now in
    let k = c.loop-rule.rule-index in
    let there : slice_get items k ≡ Some c.rule-item.result = slice_get_read items (length items) k c.rule-item.result refl (omega arith) c.rule-item.is in
    let same : c.in_err-check_over.field-0.0 ≡ e = grind (arith, common_steps, is, c.from_residual.ensures) in
    subst (λ (xs : List Rule). IsFirstWrong (IsRuleOver c.args.sig.now) BadFunction xs e) c.as_slice-rule-items.ensures
    (wrong_here (IsRuleOver c.args.sig.now) BadFunction items k c.rule-item.result there c.loop-rule.invariant e (c.in_err-check_over.ensures.refused e (ap Err same) other))

pub loop-rule-preserved : goal.loop-rule-preserved
loop-rule-preserved c =
    let items = c.as_slice-rule-items.result.now in
    let k = c.loop-rule.rule-index in
    let there : slice_get items k ≡ Some c.rule-item.result = slice_get_read items (length items) k c.rule-item.result refl (omega arith) c.rule-item.is in
    right_here (IsRuleOver c.args.sig.now) BadFunction items k c.rule-item.result there c.loop-rule.invariant c.in_ok-check_over.ensures.sound

pub returns-clause-sound : goal.returns-clause-sound
returns-clause-sound c =
    subst (All (IsRuleOver c.args.sig.now)) c.as_slice-rule-items.ensures
    (right_to_the_end (IsRuleOver c.args.sig.now) BadFunction c.as_slice-rule-items.result.now c.loop-rule.rule-index (omega (arith, c.loop-rule-test.false, c.loop-rule.auto)) c.loop-rule.invariant)
