use Rattle.sap_intruder.proofs.Entering.{loosely}
use Rattle.sap_intruder.proofs.StepsFilled.{blamed_for}
use Rattle.sap_intruder.proofs.filling.Filling.follow.Goals as goal

pub enter_new-requires : goal.enter_new-requires
enter_new-requires c = loosely c.args.self.now c.write.new.self c.args.step c.requires c.in-Ok.ensures.ok

pub returns-in-Err-clause-refused : goal.returns-in-Err-clause-refused
returns-in-Err-clause-refused c = blamed_for c.args.self.now c.args.step c.in-Err.fault c.blamed.result c.in-Err.ensures.refused c.blamed.ensures
