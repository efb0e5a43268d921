use Rattle.std.proofs.Common.{refl}
use Rattle.sap_terms.specs.Choice.{instance}
use Rattle.sap_terms.specs.View.{tree}
use Rattle.sap_terms.proofs.PlainLaws.Lists.{map_got}
use Rattle.sap_share.specs.Env.{given}
use Rattle.sap_calc.proofs.under.+term_under.Goals as goal

pub terms_under-loop-k-preserved : goal.terms_under-loop-k-preserved
terms_under-loop-k-preserved t c =
    rw (c.in_ok-push-in-Ok.ensures.ok, c.loop-k.invariant, c.in-Ok.ensures, map_got (instance (given c.args.table.now.trees c.args.env.now)) c.args.ts.now c.loop-k.k (tree c.at.result.now) c.at.ensures.got) refl
