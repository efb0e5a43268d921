use Rattle.std.proofs.Common.{◌≡◌, drop}
use Rattle.sap_nodes.specs.HeadNodes.{facts_nodes}
use Rattle.sap_nodes.specs.code.NodeTests.{is_such}
use Rattle.sap_nodes.specs.code.Searches.{after}
use Rattle.sap_nodes.proofs.finding.in_facts.Given as goal

abbrev pub invariant-loop-f : goal.invariant-loop-f
invariant-loop-f l =
    after (is_such l.sig l.which) l.search (facts_nodes l.part (drop l.f-index l.f-items))
    ≡ after (is_such l.sig l.which) l.initial.search (facts_nodes l.part l.fs)
