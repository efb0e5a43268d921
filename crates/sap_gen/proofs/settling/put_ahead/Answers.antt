use Rattle.std.proofs.Common.{◌<◌, arith}
use Rattle.sap_gen.proofs.Walking.{put_next}
use Rattle.sap_gen.specs.code.Walks.{ahead_of}
use Rattle.sap_gen.proofs.settling.put_ahead.Goals as goal

pub loop-k-preserved : goal.loop-k-preserved
loop-k-preserved c =
    let some : 0 < c.loop-k.k = omega (arith, c.loop-k-test.true) in
    rw c.in_ok-push.ensures.items (put_next c.args.facts.now (ahead_of c.args.ahead.now.items) c.loop-k.k c.loop-k.ahead.items c.at.result some c.at.ensures c.loop-k.invariant)
