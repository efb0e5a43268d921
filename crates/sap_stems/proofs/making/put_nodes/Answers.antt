use Rattle.std.proofs.Common.{sym, ◌∙◌}
use Rattle.sap_stems.proofs.MakingLemmas.{put_found, put_further}
use Rattle.sap_stems.proofs.making.put_nodes.Goals as goal

pub returns-then-same : goal.returns-then-same
returns-then-same c =
    put_found c.args.puts.now c.args.name.now c.loop-k.k c.at.result.now c.at-then-same.result.now c.at.ensures c.at-then-same.ensures (sym c.same.ensures.test ∙ c.if-same.true) c.loop-k.invariant

pub loop-k-preserved : goal.loop-k-preserved
loop-k-preserved c = put_further c.args.puts.now c.args.name.now c.loop-k.k c.at.result.now c.at.ensures (sym c.same.ensures.test ∙ c.if-same.false) c.loop-k.invariant
