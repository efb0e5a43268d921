use Rattle.std.proofs.Common.{◌≡◌, take}
use Rattle.sap_nodes.proofs.site.copies.Given as goal

abbrev pub invariant-loop-v : goal.invariant-loop-v
invariant-loop-v l = l.copies ≡ take l.v-index l.vars
