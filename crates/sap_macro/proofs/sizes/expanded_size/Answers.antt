use Rattle.sap_terms.specs.NameMap.{value_at}
use Rattle.sap_macro.specs.Sources.{definitions, written}
use Rattle.sap_macro.specs.KeptSizes.{levels_kept, nodes_kept}
use Rattle.sap_macro.proofs.Sized.{nodes_told, levels_told}
use Rattle.sap_macro.proofs.sizes.expanded_size.Goals as goal

pub returns-clause-nodes : goal.returns-clause-nodes
returns-clause-nodes c =
    nodes_told (definitions c.args.defs.now) (written c.args.main.now) (λ f. nodes_kept (value_at c.in_ok-sizes.sizes f)) c.measured-whole.result.nodes
    c.measured-whole.ensures.nodes c.in_ok-sizes.ensures.nodes c.requires

pub returns-clause-levels : goal.returns-clause-levels
returns-clause-levels c =
    levels_told (definitions c.args.defs.now) (written c.args.main.now) (λ f. levels_kept (value_at c.in_ok-sizes.sizes f)) c.measured-whole.result.levels
    c.measured-whole.ensures.levels c.in_ok-sizes.ensures.levels c.requires
