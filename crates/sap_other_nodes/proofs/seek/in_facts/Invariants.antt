use Rattle.std.proofs.Common.{◌≡◌, drop}
use Rattle.sap_nodes.specs.HeadNodes.{facts_nodes}
use Rattle.sap_other_nodes.specs.code.Seeks.{after}
use Rattle.sap_other_nodes.proofs.seek.in_facts.Given as goal

abbrev pub invariant-loop-f : goal.invariant-loop-f
invariant-loop-f l =
    after l.wanted l.seek (facts_nodes l.part (drop l.f-index l.f-items)) ≡ after l.wanted l.initial.seek (facts_nodes l.part l.fs)
