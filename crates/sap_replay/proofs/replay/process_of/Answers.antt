use Rattle.std.proofs.Common.{rules, ◌≡◌, Ok, Err, ap}
use Rattle.sap_answer.specs.declared.refusal.Refusal.TheVariants as refusals
use Rattle.sap_replay.proofs.Stopped.{rules_stop}
use Rattle.sap_replay.proofs.replay.process_of.Goals as goal

pub returns-in-Err-clause-refused : goal.returns-in-Err-clause-refused
returns-in-Err-clause-refused c = λ line h.
    let same : c.told.result ≡ refusals.Told line = search (rules, h) in
    let written : c.line_back_at.result ≡ Ok line = c.told.ensures.only line same in
    let is = rw written at c.line_back_at.ensures in
    rules_stop _ _ c.in-Err.at line is (λ step fault e. c.in-Err.ensures.refused step fault (ap Err e)) (λ step which e. c.in-Err.ensures.broken step which (ap Err e))
