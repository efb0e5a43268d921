use Rattle.std.proofs.Common.{◌≡◌, take}
use Rattle.sap_match.proofs.moment.moments_of.Given as goal

abbrev pub invariant-loop-facts : goal.invariant-loop-facts
invariant-loop-facts l = l.moments ≡ take l.facts-index l.facts-items
