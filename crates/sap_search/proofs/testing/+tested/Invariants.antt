use Rattle.std.proofs.Common.{◌≡◌, ◌+◌, ◌-◌, ◌*◌, ◌≤◌, ◌<◌, drop, length, map}
use Rattle.sap_search.specs.code.PlanSize.{plan_size}
use Rattle.sap_search.specs.View.{guard, plan}
use Rattle.sap_match.specs.View.{held, sight}
use Rattle.sap_match.specs.Matched.{StaysInFront}
use Rattle.sap_search.specs.code.Chosen.{chosen}
use Rattle.sap_search.specs.Planned.{any_or_all, planned, searched}
use Rattle.sap_search.proofs.testing.+tested.Given as goal

abbrev pub decreases-test : goal.decreases-test
decreases-test l = plan_size (plan l.p.now)

abbrev pub decreases-joined : goal.decreases-joined
decreases-joined l = plan_size (plan l.p.now) + plan_size (plan l.q.now) + 1

abbrev pub decreases-search : goal.decreases-search
decreases-search l = plan_size (plan l.body.now) + 4 * (length l.guards.now - l.from) + 4

abbrev pub decreases-pass : goal.decreases-pass
decreases-pass l = plan_size (plan l.body.now) + 4 * (length l.guards.now - l.from) + 3

abbrev pub decreases-branch : goal.decreases-branch
decreases-branch l = plan_size (plan l.body.now) + 4 * (length l.guards.now - l.at) + 2

abbrev pub decreases-choose : goal.decreases-choose
decreases-choose l = plan_size (plan l.body.now) + 4 * (length l.guards.now - l.at) + 1

abbrev pub invariant-branch-loop-s : goal.invariant-branch-loop-s
invariant-branch-loop-s l = record {
  rest : any_or_all l.d (λ s. chosen l.d (map guard (drop l.at l.guards)) s (map held l.initial.values.items) (planned l.trace (plan l.body))) (map sight l.facts) ≡ any_or_all l.d (λ s. chosen l.d (map guard (drop l.at l.guards)) s (map held l.initial.values.items) (planned l.trace (plan l.body))) (map sight (drop l.s-index l.facts));
  within : l.at < length l.guards;
  same : l.values.items ≡ l.initial.values.items;
}

abbrev pub invariant-pass-loop-at : goal.invariant-pass-loop-at
invariant-pass-loop-at l = record {
  rest : searched l.d (map guard (drop l.from l.guards)) (map held l.initial.values.items) (planned l.trace (plan l.body)) ≡ searched l.d (map guard (drop l.at l.guards)) (map held l.values.items) (planned l.trace (plan l.body));
  front : StaysInFront l.initial.values.items l.values.items;
  on : l.from ≤ l.at;
}
