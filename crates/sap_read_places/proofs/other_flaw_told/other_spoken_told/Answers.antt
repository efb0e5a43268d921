use Rattle.sap_process.specs.Proc.{proc}
use Rattle.sap_process.specs.declared.flaw.Flaw.TheVariants.{FactClash, Rebound, SortClash}
use Rattle.sap_read_places.proofs.OtherFlaws.{this_node}
use Rattle.sap_read_places.proofs.other_flaw_told.other_spoken_told.Goals as goal

pub returns-in-Rebound-clause-is : goal.returns-in-Rebound-clause-is
returns-in-Rebound-clause-is c =
    this_node c.args.bytes.now c.args.tokens.now c.args.processes.now (proc c.args.process.now) c.args.path.now c.args.which Rebound c.args.spoken c.in-Some.node c.in-Some.is c.in-Rebound.is
    c.binder_told.result c.binder_told.ensures.rebound

pub returns-in-SortClash-clause-is : goal.returns-in-SortClash-clause-is
returns-in-SortClash-clause-is c =
    this_node c.args.bytes.now c.args.tokens.now c.args.processes.now (proc c.args.process.now) c.args.path.now c.args.which SortClash c.args.spoken c.in-Some.node c.in-Some.is c.in-SortClash.is
    c.binder_told-in-SortClash.result c.binder_told-in-SortClash.ensures.signed

pub returns-in-FactClash-clause-is : goal.returns-in-FactClash-clause-is
returns-in-FactClash-clause-is c =
    this_node c.args.bytes.now c.args.tokens.now c.args.processes.now (proc c.args.process.now) c.args.path.now c.args.which FactClash c.args.spoken c.in-Some.node c.in-Some.is c.in-FactClash.is
    c.fact_told.result c.fact_told.ensures.is
