use Rattle.std.proofs.Common.{ap, map, ◌++◌, subst, ◌≡◌, Some, slice_get, ◌-◌, ◌∙◌, arith}
use Rattle.sap_match.specs.View.{held}
use Rattle.sap_search.proofs.ExplainSteps.{told_all, told_one, told_start}
use Rattle.sap_search.specs.View.{chosen_value}
use Rattle.sap_search.proofs.explaining.tell.Goals as goal

pub loop-k-init : goal.loop-k-init
loop-k-init c = told_start (map chosen_value c.args.out.now.items) c.args.slots.now (map held c.args.values.now.items)

pub loop-k-preserved : goal.loop-k-preserved
loop-k-preserved c =
    told_one c.args.slots.now c.loop-k.k c.at.result.now (map held c.args.values.now.items) (map chosen_value c.args.out.now.items) (map chosen_value c.loop-k.out.items) (map chosen_value c.tell_one.new.out.items) (omega (arith, c.loop-k-test.true)) (subst (λ n. slice_get c.args.slots.now (n - 1 - c.loop-k.k) ≡ Some c.at.result.now) c.len.ensures c.at.ensures) c.loop-k.invariant c.in_ok-tell_one.ensures

pub returns : goal.returns
returns c = c.loop-k.invariant ∙ ap (λ l. map chosen_value c.args.out.now.items ++ l) (told_all c.args.slots.now c.loop-k.k (map held c.args.values.now.items) (omega (arith, c.loop-k-test.false)))
