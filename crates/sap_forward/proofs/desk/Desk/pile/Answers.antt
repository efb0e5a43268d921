use Rattle.sap_forward.proofs.Piled.{piles_more}
use Rattle.sap_forward.proofs.desk.Desk.pile.Goals as goal

pub loop-preserved : goal.loop-preserved
loop-preserved c = piles_more c.args.self.now c.loop.self c.loop.counter c.in_ok-next.next c.push.new.self c.loop.invariant c.in_ok-push.ensures.ok c.in_ok-next.ensures
