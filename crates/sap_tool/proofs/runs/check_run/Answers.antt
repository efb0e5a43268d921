use Rattle.std.proofs.Common.{ap, Err}
use Rattle.sap_tool.specs.Commands.{check}
use Rattle.sap_tool.specs.code.Endings.{reading}
use Rattle.sap_tool.proofs.Endings.{check_ends, run_unread}
use Rattle.sap_tool.proofs.runs.check_run.Goals as goal

pub returns-in-Ok-clause-ends : goal.returns-in-Ok-clause-ends
returns-in-Ok-clause-ends g c = λ theory bytes accepted.
    let told = c.in-Ok.ensures.told in
    rw c.of_run.ensures
    (check_ends theory c.args.run.now bytes told.0 c.args.told.now
    (reading c.args.run.now (g.S.Shelf.seen c.args.shelf.now) (g.S.Shelf.seen c.read_run.new.shelf)) _ accepted told.1 (c.checked.ensures.given told.0 told.2)
    (λ line h. c.checked.ensures.refused told.0 line told.2 h))

pub returns-in-Err-clause-ends : goal.returns-in-Err-clause-ends
returns-in-Err-clause-ends g c = λ theory bytes accepted.
    rw c.of_fault.ensures
    (run_unread (check theory c.args.run.now) bytes
    (reading c.args.run.now (g.S.Shelf.seen c.args.shelf.now) (g.S.Shelf.seen c.read_run.new.shelf)) c.in-Err.fault (c.args.told.now, accepted)
    (λ is. c.in-Err.ensures.cause (ap Err is)) c.in-Err.ensures.given_up)
