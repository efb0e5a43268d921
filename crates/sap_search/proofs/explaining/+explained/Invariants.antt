use Rattle.std.proofs.Common.{◌≡◌, ◌+◌, ◌-◌, ◌*◌, ◌≤◌, ◌<◌, drop, length, map}
use Rattle.sap_search.specs.code.Answers.{claim_size, led_by}
use Rattle.sap_search.specs.View.{chosen_value, claim, guard, slotted}
use Rattle.sap_match.specs.View.{held, sight}
use Rattle.sap_match.specs.Matched.{StaysInFront}
use Rattle.sap_search.specs.Explained.{explained, first_led, first_some, in_front, told}
use Rattle.sap_search.proofs.explaining.+explained.Given as goal

abbrev pub decreases-explain : goal.decreases-explain
decreases-explain l = claim_size (claim l.c.now)

abbrev pub decreases-both : goal.decreases-both
decreases-both l = claim_size (claim l.c.now) + claim_size (claim l.d.now) + 1

abbrev pub decreases-either : goal.decreases-either
decreases-either l = claim_size (claim l.c.now) + claim_size (claim l.d.now) + 1

abbrev pub decreases-under : goal.decreases-under
decreases-under l = claim_size (claim l.c.now) + 1

abbrev pub decreases-search : goal.decreases-search
decreases-search l = claim_size (claim l.c.now) + 4 * (length l.guards.now - l.from) + 5

abbrev pub decreases-pass : goal.decreases-pass
decreases-pass l = claim_size (claim l.c.now) + 4 * (length l.guards.now - l.from) + 4

abbrev pub decreases-branch : goal.decreases-branch
decreases-branch l = claim_size (claim l.c.now) + 4 * (length l.guards.now - l.at) + 3

abbrev pub decreases-choose : goal.decreases-choose
decreases-choose l = claim_size (claim l.c.now) + 4 * (length l.guards.now - l.at) + 2

abbrev pub invariant-branch-loop-s : goal.invariant-branch-loop-s
invariant-branch-loop-s l = record {
  rest : first_some (λ s. led_by (map guard (drop l.at l.guards)) s (map held l.initial.values.items) (λ h. in_front (told (map slotted l.slots) h) (explained l.trace (claim l.c) h))) (map sight l.facts) ≡ first_some (λ s. led_by (map guard (drop l.at l.guards)) s (map held l.initial.values.items) (λ h. in_front (told (map slotted l.slots) h) (explained l.trace (claim l.c) h))) (map sight (drop l.s-index l.facts));
  within : l.at < length l.guards;
  same : l.values.items ≡ l.initial.values.items;
  put : map chosen_value l.out.items ≡ map chosen_value l.initial.out.items;
}

abbrev pub invariant-pass-loop-at : goal.invariant-pass-loop-at
invariant-pass-loop-at l = record {
  rest : first_led (map guard (drop l.from l.guards)) (map held l.initial.values.items) (λ h. in_front (told (map slotted l.slots) h) (explained l.trace (claim l.c) h)) ≡ first_led (map guard (drop l.at l.guards)) (map held l.values.items) (λ h. in_front (told (map slotted l.slots) h) (explained l.trace (claim l.c) h));
  front : StaysInFront l.initial.values.items l.values.items;
  on : l.from ≤ l.at;
  put : l.out.items ≡ l.initial.out.items;
}
