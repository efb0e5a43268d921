use Rattle.std.proofs.Common.{rules, ◌≡◌, Ok}
use Rattle.sap_answer.specs.declared.refusal.Refusal.TheVariants as refusals
use Rattle.sap_replay.proofs.Stopped.{theory_stops}
use Rattle.sap_replay.proofs.checking.full_of.Goals as goal

pub returns-in-Err-clause-refused : goal.returns-in-Err-clause-refused
returns-in-Err-clause-refused c = λ line h.
    let same : c.told.result ≡ refusals.Told line = search (rules, h) in
    let written : c.line_of.result ≡ Ok line = c.told.ensures.only line same in
    theory_stops _ _ c.in-Err.stop line (rw written at c.line_of.ensures) c.in-Err.ensures.stopped
