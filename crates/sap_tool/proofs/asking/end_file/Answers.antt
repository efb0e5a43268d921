use Rattle.std.proofs.Common.{ap, Err}
use Rattle.sap_tool.specs.Call.{call_of}
use Rattle.sap_tool.specs.code.Asked.{on_file}
use Rattle.sap_tool.proofs.Asked.{file_named}
use Rattle.sap_tool.proofs.Endings.{fetched_of, once_of, of_file, of_unread}
use Rattle.sap_tool.proofs.asking.end_file.Goals as goal

pub returns-in-Ok : goal.returns-in-Ok
returns-in-Ok g c = λ words out err asks.
    let name = c.args.name.now in
    let named = file_named c.args.which name in
    let limit = c.limit.ensures.limit name in
    let k = on_file c.args.which name in
    let after = g.S.Shelf.seen c.fetched.new.shelf in
    let all = call_of words (g.S.Shelf.seen c.args.shelf.now) after out err in
    of_file all k c.in-Ok.bytes.items _ asks (fetched_of all k name named _ limit c.in-Ok.bytes.items c.in-Ok.ensures.told)
    (once_of all k name named _ limit after.asked c.fetched.ensures.once)
    (rw c.deref.ensures.value at c.of_bytes.ensures name)

pub returns-in-Err : goal.returns-in-Err
returns-in-Err g c = λ words out err asks.
    let name = c.args.name.now in
    rw c.of_fault.ensures
    (of_unread _ (on_file c.args.which name) name (file_named c.args.which name) _ (c.limit.ensures.limit name) c.in-Err.fault asks
    (λ is. c.in-Err.ensures.cause (ap Err is)) c.fetched.ensures.once)
