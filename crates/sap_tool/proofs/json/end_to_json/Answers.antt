use Rattle.std.proofs.Common.{ap, Err}
use Rattle.sap_tool.proofs.Endings.{to_json_ends, to_json_unread}
use Rattle.sap_tool.proofs.json.end_to_json.Goals as goal

pub returns-in-Ok : goal.returns-in-Ok
returns-in-Ok g c = λ words out err asks.
    let told = c.in-Ok.ensures.told in
    rw c.of_run.ensures
    (to_json_ends _ c.args.run.now told.0 _ asks told.1 (c.json_of.ensures.given told.0 told.2) (λ line h. c.json_of.ensures.refused told.0 line told.2 h))

pub returns-in-Err : goal.returns-in-Err
returns-in-Err g c = λ words out err asks.
    rw c.of_fault.ensures
    (to_json_unread _ c.args.run.now c.in-Err.fault asks (λ is. c.in-Err.ensures.cause (ap Err is)) c.in-Err.ensures.given_up)
