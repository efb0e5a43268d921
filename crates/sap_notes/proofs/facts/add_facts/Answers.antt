use Rattle.std.proofs.Common.{map, refl, ◌∷◌, []}
use Rattle.sap_notes.specs.Facts.{fact_key}
use Rattle.sap_notes.proofs.Gathered.{gathered_item}
use Rattle.sap_notes.proofs.facts.add_facts.Goals as goal

pub loop-fact-preserved : goal.loop-fact-preserved
loop-fact-preserved c =
    gathered_item (map fact_key) (λ f. fact_key f ∷ []) (λ f fs. refl) c.as_slice-fact-items.result.now c.loop-fact.fact-index c.fact-item.result c.loop-fact-test.true c.fact-item.is c.loop-fact.names
    c.add_fact.new.names _ c.in_ok-add_fact.ensures c.loop-fact.invariant
