use Rattle.sap_terms.specs.NameMap.{value_at}
use Rattle.sap_macro.specs.Sources.{definition_of, definitions}
use Rattle.sap_macro.specs.KeptSizes.{levels_kept, nodes_kept}
use Rattle.sap_macro.specs.code.Sizes.{deeper, levels_of, nodes_of, plus}
use Rattle.sap_macro.proofs.Entries.{there}
use Rattle.sap_macro.proofs.Sized.{one_kept}
use Rattle.sap_macro.proofs.sizes.sizes_of.Goals as goal

pub loop-k-preserved : goal.loop-k-preserved
loop-k-preserved c =
    let ds = definitions c.args.defs.now in
    let at = there c.args.defs.now c.loop-k.k c.at.result.now c.at.ensures in
    record {
      nodes =
          one_kept plus (nodes_of ds) (λ g. nodes_kept (value_at c.loop-k.sizes g)) (λ g. nodes_kept (value_at c.keep.new.sizes g)) ds c.loop-k.k
          (definition_of c.at.result.now) at c.loop-k.invariant.nodes c.in_ok-keep.ensures.nodes;
      levels =
          one_kept deeper (levels_of ds) (λ g. levels_kept (value_at c.loop-k.sizes g)) (λ g. levels_kept (value_at c.keep.new.sizes g)) ds c.loop-k.k
          (definition_of c.at.result.now) at c.loop-k.invariant.levels c.in_ok-keep.ensures.levels;
    }
