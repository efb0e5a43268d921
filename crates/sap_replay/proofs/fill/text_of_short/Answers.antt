use Rattle.std.proofs.Common.{rules, ◌≡◌, Ok, Err, ap}
use Rattle.sap_answer.specs.declared.refusal.Refusal.TheVariants as refusals
use Rattle.sap_replay.proofs.ShortRefused.{fill_stops}
use Rattle.sap_replay.proofs.fill.text_of_short.Goals as goal

pub returns-in-Err-clause-refused : goal.returns-in-Err-clause-refused
returns-in-Err-clause-refused c = λ line h.
    let same : c.told.result ≡ refusals.Told line = search (rules, h) in
    let written : c.line_at.result ≡ Ok line = c.told.ensures.only line same in
    let is = rw written at c.line_at.ensures in
    fill_stops _ _ c.in-Err.at line is (λ step fault e. c.in-Err.ensures.refused step fault (ap Err e))
