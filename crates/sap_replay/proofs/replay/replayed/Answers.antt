use Rattle.std.proofs.Common.{rules, ◌≡◌, Ok, subst}
use Rattle.sap_read.specs.Files.{told_by}
use Rattle.sap_replay.specs.Tasks.{kinds_of}
use Rattle.sap_outside.specs.RunPieces.{IsRunAnswer}
use Rattle.sap_replay.specs.RunRefusals.{IsIllegal}
use Rattle.sap_answer.specs.declared.refusal.Refusal.TheVariants as refusals
use Rattle.sap_replay.proofs.Stopped.{no_run_stops, run_stops}
use Rattle.sap_replay.proofs.replay.replayed.Goals as goal

pub returns-in-Ok-clause-refused : goal.returns-in-Ok-clause-refused
returns-in-Ok-clause-refused c = λ z line a h.
    run_stops (kinds_of c.args.task) (IsIllegal (told_by c.args.file.now)) z c.in-Ok.run' line (subst (λ o. IsRunAnswer (kinds_of c.args.task) z o) c.in-Ok.is a)
    (c.text_of_run.ensures.refused line h)

pub returns-in-Err-clause-refused : goal.returns-in-Err-clause-refused
returns-in-Err-clause-refused c = λ z line a h.
    let same : c.told.result ≡ refusals.Told line = search (rules, h) in
    let written : c.no_run_line.result ≡ Ok line = c.told.ensures.only line same in
    no_run_stops (kinds_of c.args.task) (IsIllegal (told_by c.args.file.now)) z c.in-Err.refusal line (subst (λ o. IsRunAnswer (kinds_of c.args.task) z o) c.in-Err.is a)
    (rw written at c.no_run_line.ensures)
