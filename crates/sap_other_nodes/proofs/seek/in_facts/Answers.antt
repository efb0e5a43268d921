use Rattle.std.proofs.Common.{◌+◌, drop, ap, ◌∙◌, arith}
use Rattle.sap_nodes.specs.HeadNodes.{facts_nodes}
use Rattle.sap_other_nodes.specs.code.Seeks.{after}
use Rattle.sap_other_nodes.proofs.SeekLemmas.{fact_step, item_got}
use Rattle.sap_other_nodes.proofs.seek.in_facts.Goals as goal

pub loop-f-preserved : goal.loop-f-preserved
loop-f-preserved c =
    ap (λ a. after c.args.wanted a (facts_nodes c.args.part (drop (c.loop-f.f-index + 1) c.as_slice-f-items.result.now))) c.in_ok-in_fact.ensures
    ∙ fact_step c.args.wanted c.loop-f.seek c.args.part c.as_slice-f-items.result.now c.loop-f.f-index c.f-item.result
    (item_got c.as_slice-f-items.result.now c.loop-f.f-index c.f-item.result (omega arith) c.f-item.is)
    ∙ c.loop-f.invariant
