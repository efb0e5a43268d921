use Rattle.std.proofs.Common.{ap, Err, refl}
use Rattle.sap_tool.specs.Commands.{check}
use Rattle.sap_tool.specs.code.Endings.{reading}
use Rattle.sap_tool.proofs.Endings.{file_line, refused_ends}
use Rattle.sap_tool.proofs.runs.check_bytes.Goals as goal

pub returns-in-Err-clause-ends : goal.returns-in-Err-clause-ends
returns-in-Err-clause-ends g c = λ theory.
    rw c.of_refused.ensures
    (refused_ends (check theory c.args.run.now) c.args.bytes.now
    (reading c.args.run.now (g.S.Shelf.seen c.args.shelf.now) (g.S.Shelf.seen c.args.shelf.now)) c.in-Err.refusal refl
    (λ line e. let r = c.in-Err.ensures.refused line (ap Err e) in file_line (check theory c.args.run.now) c.args.bytes.now r.why line r.refused r.layout))
