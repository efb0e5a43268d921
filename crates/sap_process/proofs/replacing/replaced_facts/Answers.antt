use Rattle.std.proofs.Common.{refl}
use Rattle.sap_terms.specs.Modulo.{instance_fact}
use Rattle.sap_terms.proofs.PlainLaws.Lists.{map_got}
use Rattle.sap_process.proofs.replacing.replaced_facts.Goals as goal

pub loop-k-preserved : goal.loop-k-preserved
loop-k-preserved g c =
    rw (c.in_ok-push.ensures.ok, c.loop-k.invariant, c.in_ok-replaced_fact.ensures, map_got (instance_fact (g.R.Replacing.choice c.args.r.now)) c.args.fs.now c.loop-k.k c.at.result.now c.at.ensures) refl
