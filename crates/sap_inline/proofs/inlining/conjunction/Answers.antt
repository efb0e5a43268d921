use Rattle.std.proofs.Common.{◌∙◌, arith}
use Rattle.sap_formula.specs.View.{form}
use Rattle.sap_inline.proofs.Inlines.{joined_step}
use Rattle.sap_inline.proofs.inlining.conjunction.Goals as goal

pub loop-k-preserved : goal.loop-k-preserved
loop-k-preserved c =
    c.loop-k.invariant
    ∙ joined_step c.args.restrictions.now c.loop-k.k c.at-in-loop-k.result.now (form c.loop-k.joined.value) c.at-in-loop-k.ensures ∙ grind arith
