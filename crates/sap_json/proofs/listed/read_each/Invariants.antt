use Rattle.std.proofs.Common.{map, drop}
use Rattle.serde_json.specs.View.{view}
use Rattle.sap_json.proofs.StepLists.{IsSoFar}
use Rattle.sap_json.proofs.listed.read_each.Given as goal

abbrev pub invariant-loop-value : goal.invariant-loop-value
invariant-loop-value g l = IsSoFar g.T.Listed.is l.items (map view l.values) (map view (drop l.value-index l.values))
