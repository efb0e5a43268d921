use Rattle.std.proofs.Common.{◌+◌, drop, ap, ◌∙◌}
use Rattle.sap_terms.specs.Tree.{trees_of}
use Rattle.sap_terms.specs.View.{tree}
use Rattle.sap_nodes.specs.HeadNodes.{trees_nodes}
use Rattle.sap_stems.specs.code.Makings.{made_all}
use Rattle.sap_stems.proofs.MakingLemmas.{term_step}
use Rattle.sap_stems.proofs.making.+nodes.Goals as goal

pub in_terms-loop-k-preserved : goal.in_terms-loop-k-preserved
in_terms-loop-k-preserved t c =
    ap (λ a. made_all c.args.puts.now a (trees_nodes c.args.part (trees_of (drop (c.loop-k.k + 1) c.args.ts.now)))) c.in_ok-in_term.ensures
    ∙ term_step c.args.puts.now c.loop-k.making c.args.part c.args.ts.now c.loop-k.k (tree c.at.result.now) c.at.ensures.got
    ∙ c.loop-k.invariant
