use Rattle.std.proofs.Common.{◌≡◌, take}
use Rattle.sap_nodes.proofs.trail.at_start.Given as goal

abbrev pub invariant-loop-v : goal.invariant-loop-v
invariant-loop-v l = l.known ≡ take l.v-index l.v-items
