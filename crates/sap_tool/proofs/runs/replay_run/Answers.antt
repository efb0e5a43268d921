use Rattle.std.proofs.Common.{subst, ap, Err}
use Rattle.sap_read.specs.Files.{told_by}
use Rattle.sap_tool.specs.Commands.{replay}
use Rattle.sap_outside.specs.RunPieces.{IsRunAnswer}
use Rattle.sap_tool.specs.code.Endings.{reading}
use Rattle.sap_tool.proofs.Endings.{replay_ends, run_unread}
use Rattle.sap_tool.proofs.runs.replay_run.Goals as goal

pub returns-in-Ok-clause-ends : goal.returns-in-Ok-clause-ends
returns-in-Ok-clause-ends g c = λ file accepted.
    let told = c.in-Ok.ensures.told in
    let read = subst (λ k. IsRunAnswer k told.0 c.in-Ok.answer) c.kinds_of.ensures told.2 in
    rw c.of_run.ensures
    (replay_ends c.args.task file c.args.run.now c.args.bytes.now told.0 (told_by c.args.told.now)
    (reading c.args.run.now (g.S.Shelf.seen c.args.shelf.now) (g.S.Shelf.seen c.read_run.new.shelf)) _ accepted told.1 (c.replayed.ensures.given told.0 read)
    (λ line h. c.replayed.ensures.refused told.0 line read h))

pub returns-in-Err-clause-ends : goal.returns-in-Err-clause-ends
returns-in-Err-clause-ends g c = λ file accepted.
    rw c.of_fault.ensures
    (run_unread (replay c.args.task file c.args.run.now) c.args.bytes.now
    (reading c.args.run.now (g.S.Shelf.seen c.args.shelf.now) (g.S.Shelf.seen c.read_run.new.shelf)) c.in-Err.fault (told_by c.args.told.now, accepted)
    (λ is. c.in-Err.ensures.cause (ap Err is)) c.in-Err.ensures.given_up)
