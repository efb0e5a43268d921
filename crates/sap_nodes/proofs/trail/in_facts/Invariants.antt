use Rattle.std.proofs.Common.{◌≡◌, drop}
use Rattle.sap_nodes.specs.HeadNodes.{facts_nodes}
use Rattle.sap_nodes.specs.code.Trails.{met_all}
use Rattle.sap_nodes.proofs.trail.in_facts.Given as goal

abbrev pub invariant-loop-f : goal.invariant-loop-f
invariant-loop-f l =
    met_all l.how l.trail (facts_nodes l.part (drop l.f-index l.f-items)) ≡ met_all l.how l.initial.trail (facts_nodes l.part l.fs)
