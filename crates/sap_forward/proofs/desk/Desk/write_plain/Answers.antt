use Rattle.std.proofs.lemmas.Result.{on_ok_weaker}
use Rattle.sap_forward.proofs.WritesFound.{writes_embedded}
use Rattle.sap_forward.proofs.WritesOne.{writes_then, writes_otherwise, writes_event, writes_insert, writes_delete, writes_missing, writes_unlock}
use Rattle.sap_forward.proofs.WritesSplit.{writes_nil, writes_par}
use Rattle.sap_forward.proofs.WritesTalk.{writes_new}
use Rattle.sap_forward.proofs.desk.Desk.write_plain.Goals as goal

pub returns-in-Send : goal.returns-in-Send
returns-in-Send c = rw c.in-Send.is c.send.ensures

pub returns-in-In : goal.returns-in-In
returns-in-In c = rw c.in-In.is c.input.ensures

pub returns-in-Sync : goal.returns-in-Sync
returns-in-Sync c = rw c.in-Sync.is c.sync.ensures

pub returns-in-Apply : goal.returns-in-Apply
returns-in-Apply c = rw c.in-Apply.is c.apply.ensures

pub returns-in-Nil : goal.returns-in-Nil
returns-in-Nil c = rw c.in-Nil.is (on_ok_weaker c.end.result (writes_nil c.args.self.now c.end.new.self c.in-Nil.t c.args.lines.now c.end.new.lines) c.end.ensures)

pub returns-in-Par : goal.returns-in-Par
returns-in-Par c = rw c.in-Par.is (on_ok_weaker c.split.result (writes_par c.args.self.now c.split.new.self c.in-Par.t c.args.lines.now c.split.new.lines) c.split.ensures)

pub returns-in-New : goal.returns-in-New
returns-in-New c = rw c.in-New.is (on_ok_weaker c.go_with.result (writes_new c.args.self.now c.go_with.new.self c.in-New.t c.in-New.n c.args.lines.now c.go_with.new.lines) c.go_with.ensures)

pub returns-in-Then : goal.returns-in-Then
returns-in-Then c = rw c.in-Then.is (on_ok_weaker c.go_on.result (writes_then c.args.self.now c.go_on.new.self c.in-Then.t c.args.lines.now c.go_on.new.lines) c.go_on.ensures)

pub returns-in-Else : goal.returns-in-Else
returns-in-Else c = rw c.in-Else.is (on_ok_weaker c.go_aside.result (writes_otherwise c.args.self.now c.go_aside.new.self c.in-Else.t c.args.lines.now c.go_aside.new.lines) c.go_aside.ensures)

pub returns-in-Event : goal.returns-in-Event
returns-in-Event c = rw c.in-Event.is (on_ok_weaker c.go_on-in-Event.result (writes_event c.args.self.now c.go_on-in-Event.new.self c.in-Event.t c.args.lines.now c.go_on-in-Event.new.lines) c.go_on-in-Event.ensures)

pub returns-in-Insert : goal.returns-in-Insert
returns-in-Insert c = rw c.in-Insert.is (on_ok_weaker c.go_on-in-Insert.result (writes_insert c.args.self.now c.go_on-in-Insert.new.self c.in-Insert.t c.args.lines.now c.go_on-in-Insert.new.lines) c.go_on-in-Insert.ensures)

pub returns-in-Delete : goal.returns-in-Delete
returns-in-Delete c = rw c.in-Delete.is (on_ok_weaker c.go_on-in-Delete.result (writes_delete c.args.self.now c.go_on-in-Delete.new.self c.in-Delete.t c.args.lines.now c.go_on-in-Delete.new.lines) c.go_on-in-Delete.ensures)

pub returns-in-Missing : goal.returns-in-Missing
returns-in-Missing c = rw c.in-Missing.is (on_ok_weaker c.go_aside-in-Missing.result (writes_missing c.args.self.now c.go_aside-in-Missing.new.self c.in-Missing.t c.args.lines.now c.go_aside-in-Missing.new.lines) c.go_aside-in-Missing.ensures)

pub returns-in-Unlock : goal.returns-in-Unlock
returns-in-Unlock c = rw c.in-Unlock.is (on_ok_weaker c.go_on-in-Unlock.result (writes_unlock c.args.self.now c.go_on-in-Unlock.new.self c.in-Unlock.t c.args.lines.now c.go_on-in-Unlock.new.lines) c.go_on-in-Unlock.ensures)

pub returns-in-Embedded : goal.returns-in-Embedded
returns-in-Embedded c = rw c.in-Embedded.is (on_ok_weaker c.embed.result (writes_embedded c.args.self.now c.embed.new.self c.in-Embedded.t c.in-Embedded.facts c.in-Embedded.b c.args.lines.now c.embed.new.lines) c.embed.ensures)
