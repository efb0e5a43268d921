use Rattle.sap_process.specs.Proc.{proc}
use Rattle.sap_read_places.proofs.OtherFlaws.{fact_only, no_fact_only}
use Rattle.sap_read_places.proofs.other_flaw_told.fact_told.Goals as goal

pub returns-in-None-clause-is : goal.returns-in-None-clause-is
returns-in-None-clause-is c =
    no_fact_only c.args.bytes.now c.args.tokens.now c.args.processes.now (proc c.args.process.now) c.args.path.now c.args.node c.if-node-eq18446744073709551615.false
    (rw c.in-None.is at c.in_ok-differing_fact.ensures)

pub returns-in-Some-clause-is : goal.returns-in-Some-clause-is
returns-in-Some-clause-is c =
    fact_only c.args.bytes.now c.args.tokens.now c.args.processes.now (proc c.args.process.now) c.args.path.now c.args.node c.if-node-eq18446744073709551615.false c.other_facts.ensures.one
    c.in-Some.found.path c.in-Some.found.node (rw c.in-Some.is at c.in_ok-differing_fact.ensures) c.node_told.result (rw c.as_slice.ensures.is at c.node_told.ensures.is)
