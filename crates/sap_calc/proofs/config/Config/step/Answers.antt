use Rattle.sap_calc.proofs.config.Config.step.Goals as goal

pub returns-in-Nil-clause-refused : goal.returns-in-Nil-clause-refused
returns-in-Nil-clause-refused c = rw c.in-Nil.is c.nil.ensures.refused

pub returns-in-Par-clause-refused : goal.returns-in-Par-clause-refused
returns-in-Par-clause-refused c = rw c.in-Par.is c.par.ensures.refused

pub returns-in-Rep-clause-refused : goal.returns-in-Rep-clause-refused
returns-in-Rep-clause-refused c = rw c.in-Rep.is c.rep.ensures.refused

pub returns-in-New-clause-refused : goal.returns-in-New-clause-refused
returns-in-New-clause-refused c = rw c.in-New.is c.new.ensures.refused

pub returns-in-Out-clause-refused : goal.returns-in-Out-clause-refused
returns-in-Out-clause-refused c = rw c.in-Out.is c.output.ensures.refused

pub returns-in-Send-clause-refused : goal.returns-in-Send-clause-refused
returns-in-Send-clause-refused c = rw c.in-Send.is c.send.ensures.refused

pub returns-in-In-clause-refused : goal.returns-in-In-clause-refused
returns-in-In-clause-refused c = rw c.in-In.is c.input.ensures.refused

pub returns-in-Sync-clause-refused : goal.returns-in-Sync-clause-refused
returns-in-Sync-clause-refused c = rw c.in-Sync.is c.sync.ensures.refused

pub returns-in-Then-clause-refused : goal.returns-in-Then-clause-refused
returns-in-Then-clause-refused c = rw c.in-Then.is c.head_line.ensures.refused

pub returns-in-Else-clause-refused : goal.returns-in-Else-clause-refused
returns-in-Else-clause-refused c = rw c.in-Else.is c.head_line-in-Else.ensures.refused

pub returns-in-Event-clause-refused : goal.returns-in-Event-clause-refused
returns-in-Event-clause-refused c = rw c.in-Event.is c.event.ensures.refused

pub returns-in-Insert-clause-refused : goal.returns-in-Insert-clause-refused
returns-in-Insert-clause-refused c = rw c.in-Insert.is c.head_line-in-Insert.ensures.refused

pub returns-in-Delete-clause-refused : goal.returns-in-Delete-clause-refused
returns-in-Delete-clause-refused c = rw c.in-Delete.is c.head_line-in-Delete.ensures.refused

pub returns-in-Found-clause-refused : goal.returns-in-Found-clause-refused
returns-in-Found-clause-refused c = rw c.in-Found.is c.found.ensures.refused

pub returns-in-Missing-clause-refused : goal.returns-in-Missing-clause-refused
returns-in-Missing-clause-refused c = rw c.in-Missing.is c.head_line-in-Missing.ensures.refused

pub returns-in-Lock-clause-refused : goal.returns-in-Lock-clause-refused
returns-in-Lock-clause-refused c = rw c.in-Lock.is c.head_line-in-Lock.ensures.refused

pub returns-in-Unlock-clause-refused : goal.returns-in-Unlock-clause-refused
returns-in-Unlock-clause-refused c = rw c.in-Unlock.is c.head_line-in-Unlock.ensures.refused

pub returns-in-Embedded-clause-refused : goal.returns-in-Embedded-clause-refused
returns-in-Embedded-clause-refused c = rw c.in-Embedded.is c.embedded.ensures.refused

pub returns-in-Name-clause-refused : goal.returns-in-Name-clause-refused
returns-in-Name-clause-refused c = rw c.in-Name.is c.name.ensures.refused

pub returns-in-Public-clause-refused : goal.returns-in-Public-clause-refused
returns-in-Public-clause-refused c = rw c.in-Public.is c.public.ensures.refused

pub returns-in-Apply-clause-refused : goal.returns-in-Apply-clause-refused
returns-in-Apply-clause-refused c = rw c.in-Apply.is c.apply.ensures.refused

pub returns-in-Know-clause-refused : goal.returns-in-Know-clause-refused
returns-in-Know-clause-refused c = rw c.in-Know.is c.know.ensures.refused
