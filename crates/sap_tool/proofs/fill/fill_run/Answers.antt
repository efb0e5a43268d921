use Rattle.std.proofs.Common.{ap, Err}
use Rattle.sap_tool.specs.Commands.{fill}
use Rattle.sap_read.specs.Files.{told_by}
use Rattle.sap_tool.specs.code.Endings.{reading}
use Rattle.sap_tool.proofs.Endings.{fill_ends, run_unread}
use Rattle.sap_tool.proofs.fill.fill_run.Goals as goal

pub returns-in-Ok-clause-ends : goal.returns-in-Ok-clause-ends
returns-in-Ok-clause-ends g c = λ file bytes accepted.
    rw c.of_run.ensures
    (fill_ends file c.args.run.now bytes c.in-Ok.bytes.items (told_by c.args.told.now)
    (reading c.args.run.now (g.S.Shelf.seen c.args.shelf.now) (g.S.Shelf.seen c.fetched.new.shelf)) _ accepted (c.in-Ok.ensures.told, c.fetched.ensures.once)
    (rw c.deref.ensures.value at c.filled.ensures.given) (λ line h. rw c.deref.ensures.value at c.filled.ensures.refused line h))

pub returns-in-Err-clause-ends : goal.returns-in-Err-clause-ends
returns-in-Err-clause-ends g c = λ file bytes accepted.
    rw c.of_fault.ensures
    (run_unread (fill file c.args.run.now) bytes
    (reading c.args.run.now (g.S.Shelf.seen c.args.shelf.now) (g.S.Shelf.seen c.fetched.new.shelf)) c.in-Err.fault (told_by c.args.told.now, accepted)
    (λ is. c.in-Err.ensures.cause (ap Err is)) c.fetched.ensures.once)
