use Rattle.std.proofs.Common.{◌≡◌, ap, Err, refl, subst, sym}
use Rattle.sap_read.specs.Files.{told_by}
use Rattle.sap_replay.specs.AcceptedFile.{IsAcceptedFile}
use Rattle.sap_tool.specs.Commands.{replay}
use Rattle.sap_tool.specs.code.Endings.{reading}
use Rattle.sap_tool.proofs.Endings.{file_line, refused_ends}
use Rattle.sap_tool.proofs.runs.replay_bytes.Goals as goal

pub returns-in-Err-clause-ends : goal.returns-in-Err-clause-ends
returns-in-Err-clause-ends g c = λ file.
    rw c.of_refused.ensures
    (refused_ends (replay c.args.task file c.args.run.now) c.args.bytes.now
    (reading c.args.run.now (g.S.Shelf.seen c.args.shelf.now) (g.S.Shelf.seen c.args.shelf.now)) c.in-Err.refusal refl
    (λ line e. let r = c.in-Err.ensures.refused line (ap Err e) in file_line (replay c.args.task file c.args.run.now) c.args.bytes.now r.why line r.refused r.layout))

pub returns-in-Ok-clause-ends : goal.returns-in-Ok-clause-ends
returns-in-Ok-clause-ends g c = λ file.
    let lent : c.deref.result.now ≡ c.in-Ok.told.value = cc in
    c.replay_run.ensures.ends file (subst (λ f. IsAcceptedFile c.args.bytes.now (told_by f)) (sym lent) c.in-Ok.ensures.found)
