use Rattle.std.proofs.Common.{map, sym, subst}
use Rattle.sap_terms.specs.Choice.{instance}
use Rattle.sap_macro.specs.Expansion.{put, unchanged}
use Rattle.sap_uses.specs.Sizes.{size_in}
use Rattle.sap_uses.specs.code.Walks.{Sizes}
use Rattle.sap_uses.proofs.Fitting.{Fits, put_fits}
use Rattle.sap_uses.proofs.sizes.argument_sizes.Goals as goal

pub returns : goal.returns
returns c = λ r h.
    subst (λ (z : Sizes). Fits (put c.args.params.now (map (instance r) c.args.args.now) unchanged) z) (sym c.in_ok-inner.ensures)
    (put_fits r (size_in c.args.sizes.now) h c.args.params.now c.args.args.now)
