use Rattle.std.proofs.Common.{◌+◌, drop, ap, ◌∙◌}
use Rattle.sap_terms.specs.Tree.{trees_of}
use Rattle.sap_terms.specs.View.{tree}
use Rattle.sap_nodes.specs.HeadNodes.{trees_nodes}
use Rattle.sap_nodes.specs.code.Trails.{met_all}
use Rattle.sap_nodes.proofs.UnboundLemmas.{term_step}
use Rattle.sap_nodes.proofs.trail.+nodes.Goals as goal

pub in_terms-loop-k-preserved : goal.in_terms-loop-k-preserved
in_terms-loop-k-preserved t c =
    ap (λ a. met_all c.args.how a (trees_nodes c.args.part (trees_of (drop (c.loop-k.k + 1) c.args.ts.now)))) c.in_ok-in_term.ensures
    ∙ term_step c.args.how c.loop-k.trail c.args.part c.args.ts.now c.loop-k.k (tree c.at.result.now) c.at.ensures.got
    ∙ c.loop-k.invariant
