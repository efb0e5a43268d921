use Rattle.std.proofs.Common.{◌+◌, drop, ap, ◌∙◌}
use Rattle.sap_terms.specs.Tree.{trees_of}
use Rattle.sap_terms.specs.View.{tree}
use Rattle.sap_nodes.specs.HeadNodes.{trees_nodes}
use Rattle.sap_other_nodes.specs.code.Seeks.{after}
use Rattle.sap_other_nodes.proofs.SeekLemmas.{term_step}
use Rattle.sap_other_nodes.proofs.seek.+nodes.Goals as goal

pub in_terms-loop-k-preserved : goal.in_terms-loop-k-preserved
in_terms-loop-k-preserved t c =
    ap (λ a. after c.args.wanted a (trees_nodes c.args.part (trees_of (drop (c.loop-k.k + 1) c.args.ts.now)))) c.in_ok-in_term.ensures
    ∙ term_step c.args.wanted c.loop-k.seek c.args.part c.args.ts.now c.loop-k.k (tree c.at.result.now) c.at.ensures.got
    ∙ c.loop-k.invariant
