use Rattle.std.proofs.Common.{arith}
use Rattle.sap_steps.proofs.Lists.{cited_more}
use Rattle.sap_steps.proofs.cited.cited_facts.Goals as goal

pub loop-k-preserved : goal.loop-k-preserved
loop-k-preserved c =
    cited_more c.args.facts.now.slots c.as_slice-k-items.result.now c.loop-k.k-index c.loop-k.fs c.push_cited.new.fs (omega arith) c.loop-k.invariant c.in_ok-push_cited.ensures
