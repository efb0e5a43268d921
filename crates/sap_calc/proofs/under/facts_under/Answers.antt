use Rattle.std.proofs.Common.{refl}
use Rattle.sap_terms.specs.Modulo.{instance_fact}
use Rattle.sap_terms.proofs.PlainLaws.Lists.{map_got}
use Rattle.sap_share.specs.Env.{given}
use Rattle.sap_calc.proofs.under.facts_under.Goals as goal

pub loop-k-preserved : goal.loop-k-preserved
loop-k-preserved c =
    rw (c.in_ok-push-in-Ok.ensures.ok, c.loop-k.invariant, c.in-Ok.ensures, map_got (instance_fact (given c.args.table.now.trees c.args.env.now)) c.args.fs.now c.loop-k.k c.at.result.now c.at.ensures) refl
