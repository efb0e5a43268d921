use Rattle.std.proofs.Common.{◌≡◌, drop}
use Rattle.sap_nodes.specs.HeadNodes.{facts_nodes}
use Rattle.sap_nodes.specs.code.Clashes.{clash_met_all}
use Rattle.sap_nodes.proofs.clash.in_facts.Given as goal

abbrev pub invariant-loop-f : goal.invariant-loop-f
invariant-loop-f l =
    clash_met_all l.facts (facts_nodes l.part (drop l.f-index l.f-items)) ≡ clash_met_all l.initial.facts (facts_nodes l.part l.fs)
