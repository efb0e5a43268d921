use Rattle.sap_terms.specs.NameMap.{value_at}
use Rattle.sap_macro.specs.KeptSizes.{levels_kept, nodes_kept}
use Rattle.sap_macro.specs.Sources.{definitions}
use Rattle.sap_macro.proofs.Sized.{levels_of_use, nodes_of_use}
use Rattle.sap_macro.proofs.sizes.use_sizes.Goals as goal

pub returns-clause-nodes : goal.returns-clause-nodes
returns-clause-nodes c = λ f ts identifiers.
    nodes_of_use (definitions c.args.defs.now) f ts (λ g. nodes_kept (value_at c.in_ok-sizes.sizes g)) c.in_ok-sizes.ensures.nodes c.requires identifiers

pub returns-clause-levels : goal.returns-clause-levels
returns-clause-levels c = λ f ts identifiers.
    levels_of_use (definitions c.args.defs.now) f ts (λ g. levels_kept (value_at c.in_ok-sizes.sizes g)) c.in_ok-sizes.ensures.levels c.requires identifiers
