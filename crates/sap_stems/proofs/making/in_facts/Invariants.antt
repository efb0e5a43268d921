use Rattle.std.proofs.Common.{◌≡◌, drop}
use Rattle.sap_nodes.specs.HeadNodes.{facts_nodes}
use Rattle.sap_stems.specs.code.Makings.{made_all}
use Rattle.sap_stems.proofs.making.in_facts.Given as goal

abbrev pub invariant-loop-f : goal.invariant-loop-f
invariant-loop-f l =
    made_all l.puts l.making (facts_nodes l.part (drop l.f-index l.f-items)) ≡ made_all l.puts l.initial.making (facts_nodes l.part l.fs)
