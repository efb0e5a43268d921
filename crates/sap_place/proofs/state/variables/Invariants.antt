use Rattle.std.proofs.Common.{◌≡◌, map, take}
use Rattle.sap_terms.specs.Tree.{variable}
use Rattle.sap_place.proofs.state.variables.Given as goal

abbrev pub invariant-loop-v : goal.invariant-loop-v
invariant-loop-v l = l.args ≡ map variable (take l.v-index l.v-items)
