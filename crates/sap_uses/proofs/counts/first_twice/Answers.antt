use Rattle.std.proofs.Common.{arith}
use Rattle.sap_uses.proofs.Counted.{one_from}
use Rattle.sap_uses.proofs.counts.first_twice.Goals as goal

pub loop-k-preserved : goal.loop-k-preserved
loop-k-preserved c =
    let most = c.loop-k.invariant.0 in (
      omega (arith, most),
      one_from c.args.names.now c.loop-k.k c.at.result.now c.loop-k.later c.noted.new.later c.loop-k.found c.in_ok-found.found c.loop-k-test.true c.at.ensures
          c.loop-k.invariant.1 c.in_ok-found.ensures.noted c.in_ok-found.ensures.found,
    )
