use Rattle.std.proofs.Common.{map, subst, sym, ◌∙◌}
use Rattle.sap_formula.specs.View.{form}
use Rattle.sap_judge.specs.Reasons.{IsReason}
use Rattle.sap_search.specs.View.{chosen_value}
use Rattle.sap_verdicts.proofs.Silent.{no_choices}
use Rattle.sap_verdicts.proofs.finding.asked.Goals as goal

pub returns-then-is_silent : goal.returns-then-is_silent
returns-then-is_silent c = λ g m k is.
    subst (λ cs. IsReason g (form c.args.f.now) c.args.trace.now c.args.value (map chosen_value cs)) (sym c.new.ensures.items)
    (no_choices g c.args.trace.now (form c.args.f.now) c.args.value (sym c.is_silent.ensures ∙ c.if-is_silent.true))
