use Rattle.sap_nodes.proofs.MetFacts.{fact_met}
use Rattle.sap_nodes.proofs.clash.in_fact.Goals as goal

pub returns : goal.returns
returns c =
    fact_met c.args.facts.now c.note.new.self c.args.part c.args.f.now c.in_ok-differs.differs c.visit.new.search c.in_terms.new.search c.in_ok-differs.ensures.noted c.in_ok-differs.ensures.clash
    c.visit.ensures c.in_terms.ensures
