use Rattle.std.proofs.Common.{sym}
use Rattle.sap_runs.proofs.process_step.PStepCopied.copy.Goals as goal

pub returns-in-Nil : goal.returns-in-Nil
returns-in-Nil c = sym c.in-Nil.is

pub returns-in-Par : goal.returns-in-Par
returns-in-Par c = sym c.in-Par.is

pub returns-in-Rep : goal.returns-in-Rep
returns-in-Rep c = sym c.in-Rep.is

pub returns-in-New : goal.returns-in-New
returns-in-New c = sym c.in-New.is

pub returns-in-Out : goal.returns-in-Out
returns-in-Out c = sym c.in-Out.is

pub returns-in-Send : goal.returns-in-Send
returns-in-Send c = sym c.in-Send.is

pub returns-in-In : goal.returns-in-In
returns-in-In c = sym c.in-In.is

pub returns-in-Sync : goal.returns-in-Sync
returns-in-Sync c = sym c.in-Sync.is

pub returns-in-Then : goal.returns-in-Then
returns-in-Then c = sym c.in-Then.is

pub returns-in-Else : goal.returns-in-Else
returns-in-Else c = sym c.in-Else.is

pub returns-in-Event : goal.returns-in-Event
returns-in-Event c = sym c.in-Event.is

pub returns-in-Insert : goal.returns-in-Insert
returns-in-Insert c = sym c.in-Insert.is

pub returns-in-Delete : goal.returns-in-Delete
returns-in-Delete c = sym c.in-Delete.is

pub returns-in-Found : goal.returns-in-Found
returns-in-Found c = sym c.in-Found.is

pub returns-in-Missing : goal.returns-in-Missing
returns-in-Missing c = sym c.in-Missing.is

pub returns-in-Lock : goal.returns-in-Lock
returns-in-Lock c = sym c.in-Lock.is

pub returns-in-Unlock : goal.returns-in-Unlock
returns-in-Unlock c = sym c.in-Unlock.is

pub returns-in-Name : goal.returns-in-Name
returns-in-Name c = sym c.in-Name.is

pub returns-in-Know : goal.returns-in-Know
returns-in-Know c = sym c.in-Know.is
