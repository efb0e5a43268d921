use Rattle.sap_process.specs.Proc.{proc}
use Rattle.sap_other_nodes.proofs.HeadBinders.{bound_nowhere, bound_there}
use Rattle.sap_other_nodes.proofs.other_binder.bound_here.Goals as goal

pub returns-then-seek : goal.returns-then-seek
returns-then-seek c = bound_there c.args.name.now (proc c.args.p.now) c.args.digit c.args.depth c.in_ok-seek.seek c.in_ok-seek.ensures c.if-seek.true

pub returns : goal.returns
returns c = bound_nowhere c.args.name.now (proc c.args.p.now) c.args.digit c.args.depth c.in_ok-seek.seek c.in_ok-seek.ensures c.if-seek.false
