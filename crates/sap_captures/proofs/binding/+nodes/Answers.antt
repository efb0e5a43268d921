use Rattle.std.proofs.Common.{◌+◌, drop, ap, ◌∙◌}
use Rattle.sap_terms.specs.Tree.{trees_of}
use Rattle.sap_terms.specs.View.{tree}
use Rattle.sap_nodes.specs.HeadNodes.{trees_nodes}
use Rattle.sap_captures.specs.code.Bindings.{bound_all}
use Rattle.sap_captures.proofs.BoundNodes.{term_step}
use Rattle.sap_captures.proofs.binding.+nodes.Goals as goal

pub bind_terms-loop-k-preserved : goal.bind_terms-loop-k-preserved
bind_terms-loop-k-preserved t c =
    ap (λ b. bound_all c.args.part b (trees_nodes c.args.part (trees_of (drop (c.loop-k.k + 1) c.args.ts.now)))) c.in_ok-bind_term.ensures
    ∙ term_step c.args.part c.loop-k.binding c.args.ts.now c.loop-k.k (tree c.at.result.now) c.at.ensures.got
    ∙ c.loop-k.invariant
