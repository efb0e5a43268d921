use Rattle.sap_layers.proofs.runs.started.Goals as goal

pub start-requires : goal.start-requires
start-requires c = c.in_ok-can_run.ensures.0 c.if-not-branch.false
