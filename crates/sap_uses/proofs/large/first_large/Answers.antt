use Rattle.std.proofs.Common.{◌∙◌}
use Rattle.sap_macro.specs.Sources.{definitions, written}
use Rattle.sap_uses.proofs.Expanded.{heavy_first}
use Rattle.sap_uses.proofs.large.first_large.Goals as goal

pub returns : goal.returns
returns c =
    c.in_ok-name.ensures ∙ (c.in_ok-found.ensures ∙ heavy_first (definitions c.args.defs.now) (written c.args.main.now) c.new-sizes.result c.new-sizes.ensures c.requires)
