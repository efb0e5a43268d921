use Rattle.std.proofs.Common.{◌≤◌, length, map, drop}
use Rattle.serde_json.specs.View.{view}
use Rattle.sap_json.proofs.StepLists.{IsSoFar}
use Rattle.sap_json.proofs.listed.read_steps.Given as goal

abbrev pub invariant-loop-value : goal.invariant-loop-value
invariant-loop-value g l = record {
  so_far : IsSoFar g.T.Listed.is l.steps (map view l.values) (map view (drop l.value-index l.values));
  few : length l.steps ≤ l.most;
}
