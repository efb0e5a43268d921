-- The worked examples of costs, verdicts and hiding.
use Rattle.std.proofs.Common.{◌≡◌, refl, inl, lit<}
use Rattle.std.proofs.Math.Dec.{lit≤}
use Rattle.std.specs.Prelude.{◌-◌, ◌^◌}
use Rattle.sap_terms.specs.Equal.{same}
use Rattle.sap_terms.specs.Signature.{Sig}
use Rattle.sap_formula.specs.Cost.{form_cost}
use Rattle.sap_formula.specs.Form.{both, negation, truth}
use Rattle.sap_formula.specs.Hide.{hide}
use Rattle.sap_judge.specs.JudgeExamples.{two_and_three, costs, many_times, at_limit, far_beyond, hidden_ones}
use Rattle.sap_formula.specs.Truth.{EachIn, IsTrueOn}
use Rattle.sap_judge.specs.Verdict.{IsVerdict}
use Rattle.sap_judge.specs.declared.verdict.Verdict.TheVariants.{Holds, Fails, TooCostly}

pub cost_each : EachIn (λ e. form_cost two_and_three e.0 ≡ e.1) costs
cost_each = (refl, (refl, (refl, (refl, (refl, (refl, (refl, (refl, (refl, (refl, (refl, (refl, (refl, (refl, (refl, tt)))))))))))))))

true_at_limit : (g : Sig) → IsTrueOn g at_limit (many_times 10)
true_at_limit g =
    let shown = inl (refl, (same, tt)) in
    (0, lit< tt, ((shown, (shown, (shown, (shown, (shown, (shown, tt)))))), (tt, tt)))

pub held_at_limit : (g : Sig) → IsVerdict g at_limit (many_times 10) Holds
held_at_limit g = (lit≤ tt, true_at_limit g)

pub failed_at_limit : (g : Sig) → IsVerdict g (negation at_limit) (many_times 10) Fails
failed_at_limit g = (lit≤ tt, λ h. h (true_at_limit g))

pub above_limit : (g : Sig) → IsVerdict g (both at_limit truth) (many_times 10) (TooCostly 10000001)
above_limit g = (lit< tt, refl)

pub far_above : (g : Sig) → IsVerdict g far_beyond (many_times 10) (TooCostly (2 ^ 64 - 1))
far_above g = (lit< tt, refl)

pub hide_each : EachIn (λ e. hide e.0 ≡ e.1) hidden_ones
hide_each = (refl, (refl, (refl, (refl, (refl, tt)))))
