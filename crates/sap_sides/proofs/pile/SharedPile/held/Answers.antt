use Rattle.sap_sides.proofs.Slotted.{held_more}
use Rattle.sap_sides.proofs.pile.SharedPile.held.Goals as goal

pub loop-i-preserved : goal.loop-i-preserved
loop-i-preserved c = held_more c.args.self.now c.args.numbers.now c.loop-i.i c.at.result.now c.loop-i.out.items c.push_held.new.out.items c.at.ensures c.loop-i.invariant c.in_ok-push_held.ensures
