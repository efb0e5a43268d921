use Rattle.sap_terms.specs.Subst.{bound_to}
use Rattle.sap_terms.specs.View.{tree}
use Rattle.sap_sides.proofs.Formed.{formed_further, large_at}
use Rattle.sap_sides.proofs.evaluated.forms_of_args.Goals as goal

pub returns-in-Err-clause-large : goal.returns-in-Err-clause-large
returns-in-Err-clause-large c = λ i.
    large_at c.args.sig.now (bound_to c.args.c.now) c.args.ts.now c.loop-k.k (tree c.at.result.now) c.at.ensures.got (c.in-Err.ensures.large (cc i))

pub loop-k-preserved : goal.loop-k-preserved
loop-k-preserved c =
    formed_further c.args.sig.now (bound_to c.args.c.now) c.args.ts.now c.loop-k.out c.push.new.self c.loop-k.k (tree c.at.result.now) (tree c.in-Ok.t) c.at.ensures.got c.loop-k.invariant c.in-Ok.ensures.form c.in-Ok.ensures.within c.in_ok-push-in-Ok.ensures.ok
