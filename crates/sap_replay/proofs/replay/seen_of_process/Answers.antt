use Rattle.std.proofs.Common.{rules, ◌≡◌, Ok, Err, ap}
use Rattle.sap_replay.specs.Replays.{of_process}
use Rattle.sap_answer.specs.declared.refusal.Refusal.TheVariants as refusals
use Rattle.sap_replay.proofs.Stopped.{process_stops}
use Rattle.sap_replay.proofs.replay.seen_of_process.Goals as goal

pub returns-in-Ok-clause-seen : goal.returns-in-Ok-clause-seen
returns-in-Ok-clause-seen c = of_process c.in-Ok.ensures.ok

pub returns-in-Err-clause-refused : goal.returns-in-Err-clause-refused
returns-in-Err-clause-refused c = λ line h.
    let same : c.told.result ≡ refusals.Told line = search (rules, h) in
    let written : c.line_at.result ≡ Ok line = c.told.ensures.only line same in
    let is = rw written at c.line_at.ensures in
    process_stops _ _ c.in-Err.at line is (λ step fault e. c.in-Err.ensures.refused step fault (ap Err e))
