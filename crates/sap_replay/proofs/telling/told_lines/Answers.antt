use Rattle.std.proofs.Common.{rules, ◌≡◌, Ok, Err, ap}
use Rattle.sap_process.specs.Proc.{proc}
use Rattle.sap_answer.specs.declared.refusal.Refusal.TheVariants as refusals
use Rattle.sap_replay.proofs.Stopped.{process_stops}
use Rattle.sap_replay.proofs.telling.told_lines.Goals as goal

pub tell_run-requires-clause-ready : goal.tell_run-requires-clause-ready
tell_run-requires-clause-ready c = c.annotations_are_ready.ensures.ready c.args.file.now.signature c.requires.file.process (proc c.args.file.now.process) c.requires.file.ready c.requires.file.annotation

pub returns-in-Err-clause-refused : goal.returns-in-Err-clause-refused
returns-in-Err-clause-refused c = λ line h.
    let same : c.told.result ≡ refusals.Told line = search (rules, h) in
    let written : c.line_at.result ≡ Ok line = c.told.ensures.only line same in
    let is = rw written at c.line_at.ensures in
    process_stops _ _ c.in-Err.why line is (λ number fault e. c.in-Err.ensures.refused number fault (ap Err e))
