use Rattle.sap_stems.proofs.MakingLemmas.{add_step}
use Rattle.std.proofs.Common.{◌++◌}
use Rattle.sap_stems.proofs.making.add_all.Goals as goal

pub loop-k-preserved : goal.loop-k-preserved
loop-k-preserved c =
    add_step c.loop-k.list c.push.new.self c.args.nodes.now (c.args.list.now ++ c.args.nodes.now) c.loop-k.k c.at.result.now c.at.ensures c.in_ok-push.ensures.ok c.loop-k.invariant
