use Rattle.std.proofs.Common.{ap, ◌∙◌}
use Rattle.sap_process.specs.Proc.{proc}
use Rattle.sap_calc.specs.Running.{configuration}
use Rattle.sap_forward.proofs.trace.started.Goals as goal

pub start-requires : goal.start-requires
start-requires c = c.annotations_are_ready.ensures.ready c.args.f.now.signature c.requires.process (proc c.args.f.now.process) c.requires.ready c.requires.annotation

pub returns-clause-configuration : goal.returns-clause-configuration
returns-clause-configuration c = ap configuration c.in_ok-new.ensures.ok ∙ c.in_ok-start.ensures.configuration
