use Rattle.sap_terms.specs.Subst.{bound_to}
use Rattle.sap_sides.proofs.Formed.{facts_further, fact_large}
use Rattle.sap_sides.proofs.evaluated.forms_of_facts.Goals as goal

pub loop-k-preserved : goal.loop-k-preserved
loop-k-preserved c =
    facts_further c.args.sig.now (bound_to c.args.c.now) c.args.fs.now c.loop-k.out c.push.new.self c.loop-k.k c.at.result.now c.in-Ok.f c.at.ensures c.loop-k.invariant c.in-Ok.ensures.form c.in-Ok.ensures.within c.in_ok-push-in-Ok.ensures.ok

pub returns-in-Err-clause-large : goal.returns-in-Err-clause-large
returns-in-Err-clause-large c = λ i.
    fact_large c.args.sig.now (bound_to c.args.c.now) c.args.fs.now c.loop-k.k c.at.result.now c.at.ensures (c.in-Err.ensures.large (cc i))
