use Rattle.std.proofs.Common.{◌+◌, drop, ap, ◌∙◌, arith}
use Rattle.sap_nodes.specs.HeadNodes.{facts_nodes}
use Rattle.sap_nodes.specs.code.NodeTests.{is_such}
use Rattle.sap_nodes.specs.code.Searches.{after}
use Rattle.sap_nodes.proofs.SearchLemmas.{fact_step, item_got}
use Rattle.sap_nodes.proofs.finding.in_facts.Goals as goal

pub loop-f-preserved : goal.loop-f-preserved
loop-f-preserved c =
    ap (λ a. after (is_such c.args.sig.now c.args.which) a (facts_nodes c.args.part (drop (c.loop-f.f-index + 1) c.as_slice-f-items.result.now))) c.in_fact.ensures
    ∙ fact_step (is_such c.args.sig.now c.args.which) c.loop-f.search c.args.part c.as_slice-f-items.result.now c.loop-f.f-index c.f-item.result
    (item_got c.as_slice-f-items.result.now c.loop-f.f-index c.f-item.result (omega arith) c.f-item.is)
    ∙ c.loop-f.invariant
