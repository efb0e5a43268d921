use Rattle.sap_gen.proofs.Noting.{noted}
use Rattle.sap_gen.proofs.takers.takers_of.Goals as goal

pub loop-k-preserved : goal.loop-k-preserved
loop-k-preserved c = noted c.args.rules.now c.loop-k.k c.loop-k.takers c.note.new.takers c.at.result.now c.at.ensures c.loop-k.invariant c.in_ok-note.ensures
