use Rattle.std.proofs.Common.{arith}
use Rattle.sap_terms.specs.View.{tree}
use Rattle.sap_stems.specs.code.Makings.{puts_made}
use Rattle.sap_stems.proofs.MakingLemmas.{puts_done, puts_next}
use Rattle.sap_stems.proofs.stem.puts_of.Goals as goal

pub loop-k-preserved : goal.loop-k-preserved
loop-k-preserved c =
    puts_next c.args.puts.now c.loop-k.next c.in_ok-next.next c.args.params.now c.args.args.now c.loop-k.k c.at.result.now (tree c.at-in-loop-k.result.now) c.loop-k.list c.push_put.new.list
    (puts_made c.args.puts.now c.args.at c.args.params.now c.args.args.now) c.at.ensures c.at-in-loop-k.ensures.got c.in_ok-next.ensures.list c.in_ok-next.ensures.at c.loop-k.invariant

pub returns : goal.returns
returns c =
    puts_done c.args.puts.now c.loop-k.next c.args.params.now c.args.args.now c.loop-k.k c.loop-k.list (puts_made c.args.puts.now c.args.at c.args.params.now c.args.args.now) (omega arith) c.loop-k.invariant
