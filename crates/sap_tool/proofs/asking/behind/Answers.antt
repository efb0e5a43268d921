use Rattle.sap_tool.proofs.asking.behind.Goals as goal

pub returns-in-Replay-clause-ends : goal.returns-in-Replay-clause-ends
returns-in-Replay-clause-ends g c = λ name. rw c.in-Replay.is (c.replay_bytes.ensures.ends name)

pub returns-in-Fill-clause-ends : goal.returns-in-Fill-clause-ends
returns-in-Fill-clause-ends g c = λ name. rw c.in-Fill.is (c.fill_bytes.ensures.ends name)

pub returns-in-Check-clause-ends : goal.returns-in-Check-clause-ends
returns-in-Check-clause-ends g c = λ name. rw c.in-Check.is (c.check_bytes.ensures.ends name)
