use Rattle.sap_rewrite.specs.Match.{bound_vars}
use Rattle.sap_terms.specs.declared.binding.Binding.{Binding}
use Rattle.sap_sides.proofs.Lists.{same_further, get_map}
use Rattle.sap_sides.proofs.bindings.are_of.Goals as goal

pub loop-k-preserved : goal.loop-k-preserved
loop-k-preserved c =
    let e = c.at.result.now in
    same_further (bound_vars c.args.b.now) c.args.vars.now c.loop-k.k e.var c.at-in-loop-k.result.now c.loop-k.invariant (get_map (λ (e : Binding). e.var) c.args.b.now c.loop-k.k e c.at.ensures) c.at-in-loop-k.ensures (c.same.ensures.0 c.if-not-same.false)
