use Rattle.sap_process.specs.Proc.{proc}
use Rattle.sap_read_places.proofs.OtherFlaws.{on_only, signed_only}
use Rattle.sap_read_places.proofs.other_flaw_told.binder_told.Goals as goal

pub returns-in-Some-On-clause-rebound : goal.returns-in-Some-On-clause-rebound
returns-in-Some-On-clause-rebound c =
    on_only c.binders.ensures.one c.args.bytes.now c.args.tokens.now c.args.processes.now (proc c.args.process.now) c.args.path.now c.args.node _ c.new-none.ensures c.in-Some-On.found
    (rw (c.in-Some-On.is, c.in-Some-On.field-0-is) at c.in_ok-found.ensures) c.node_told.result (rw (c.front.ensures, c.as_slice.ensures.is) at c.node_told.ensures.is)

pub returns-in-Some-On-clause-signed : goal.returns-in-Some-On-clause-signed
returns-in-Some-On-clause-signed c =
    signed_only c.args.bytes.now c.args.tokens.now c.args.processes.now (proc c.args.process.now) c.args.path.now c.args.node c.node_told.result
    (on_only c.binders.ensures.one c.args.bytes.now c.args.tokens.now c.args.processes.now (proc c.args.process.now) c.args.path.now c.args.node _ c.new-none.ensures c.in-Some-On.found
    (rw (c.in-Some-On.is, c.in-Some-On.field-0-is) at c.in_ok-found.ensures) c.node_told.result (rw (c.front.ensures, c.as_slice.ensures.is) at c.node_told.ensures.is))
