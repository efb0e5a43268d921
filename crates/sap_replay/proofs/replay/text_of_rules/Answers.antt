use Rattle.std.proofs.Common.{rules, ◌≡◌, Ok, Err, ap}
use Rattle.sap_replay.specs.Replays.{to_rules}
use Rattle.sap_answer.specs.declared.refusal.Refusal.TheVariants as refusals
use Rattle.sap_replay.proofs.Stopped.{process_stops}
use Rattle.sap_replay.proofs.replay.text_of_rules.Goals as goal

pub returns-in_ok-print_rrun-in-Ok-clause-given : goal.returns-in_ok-print_rrun-in-Ok-clause-given
returns-in_ok-print_rrun-in-Ok-clause-given c = rw c.in_ok-print_rrun-in-Ok.ensures.text (to_rules _ c.in-Ok.ensures.ok c.in_ok-print_rrun-in-Ok.ensures.numbers)

pub returns-in-Err-clause-refused : goal.returns-in-Err-clause-refused
returns-in-Err-clause-refused c = λ line h.
    let same : c.told.result ≡ refusals.Told line = search (rules, h) in
    let written : c.line_at.result ≡ Ok line = c.told.ensures.only line same in
    let is = rw written at c.line_at.ensures in
    process_stops _ _ c.in-Err.at line is (λ step fault e. c.in-Err.ensures.refused step fault (ap Err e))
