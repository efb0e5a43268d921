use Rattle.std.proofs.Common.{ap, Err}
use Rattle.sap_tool.specs.Call.{call_of}
use Rattle.sap_tool.specs.code.Asked.{on_run}
use Rattle.sap_tool.proofs.Asked.{file_of_run, run_named}
use Rattle.sap_tool.proofs.Endings.{fetched_of, once_of, of_both, of_unread}
use Rattle.sap_tool.proofs.asking.end_run.Goals as goal

pub returns-in-Ok : goal.returns-in-Ok
returns-in-Ok g c = λ words out err asks.
    let name = c.args.name.now in
    let run = c.args.run.now in
    let named = file_of_run c.args.which name run in
    let limit = c.limit.ensures.limit name run in
    let k = on_run c.args.which name run in
    let mid = g.S.Shelf.seen c.fetched.new.shelf in
    let all = call_of words (g.S.Shelf.seen c.args.shelf.now) (g.S.Shelf.seen c.behind.new.shelf) out err in
    of_both c.requests_are_joined.ensures all k c.in-Ok.bytes.items run mid asks
    (fetched_of all k name named _ limit c.in-Ok.bytes.items c.in-Ok.ensures.told) (run_named c.args.which name run)
    c.fetched.ensures.same (c.fetched.ensures.later run) (once_of all k name named _ limit mid.asked c.fetched.ensures.once) _
    (rw c.deref.ensures.value at c.behind.ensures.ends name)

pub returns-in-Err : goal.returns-in-Err
returns-in-Err g c = λ words out err asks.
    let name = c.args.name.now in
    let run = c.args.run.now in
    rw c.of_fault.ensures
    (of_unread _ (on_run c.args.which name run) name (file_of_run c.args.which name run) _ (c.limit.ensures.limit name run) c.in-Err.fault asks
    (λ is. c.in-Err.ensures.cause (ap Err is)) c.fetched.ensures.once)
