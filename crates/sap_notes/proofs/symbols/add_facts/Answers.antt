use Rattle.std.proofs.Common.{refl}
use Rattle.sap_notes.specs.Symbols.{fact_symbols, facts_symbols}
use Rattle.sap_notes.proofs.Gathered.{gathered_item}
use Rattle.sap_notes.proofs.symbols.add_facts.Goals as goal

pub loop-fact-preserved : goal.loop-fact-preserved
loop-fact-preserved c =
    gathered_item facts_symbols fact_symbols (λ f fs. refl) c.as_slice-fact-items.result.now c.loop-fact.fact-index c.fact-item.result c.loop-fact-test.true c.fact-item.is c.loop-fact.names c.add_fact.new.names _
    c.in_ok-add_fact.ensures c.loop-fact.invariant
