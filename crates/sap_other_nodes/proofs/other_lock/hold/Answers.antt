use Rattle.std.proofs.Common.{◌+◌}
use Rattle.sap_other_nodes.proofs.HeldLocks.{opens_held}
use Rattle.sap_other_nodes.proofs.other_lock.hold.Goals as goal

pub returns-clause-held : goal.returns-clause-held
returns-clause-held c =
    let o = opens_held c.args.locks.now.held.items (c.args.locks.now.count + 1) c.in_ok-term.term in
    cc (o, c.in_ok-push.ensures.items, c.in_ok-term.ensures)
