use Rattle.std.proofs.Common.{sym, ◌∙◌}
use Rattle.sap_uses.specs.Sizes.{size_in}
use Rattle.sap_uses.proofs.Fitting.{large_fits}
use Rattle.sap_uses.proofs.sizes.has_large_argument.Goals as goal

pub returns : goal.returns
returns c = λ r h. c.has_large.ensures ∙ sym (large_fits r (size_in c.args.sizes.now) h c.args.args.now)
