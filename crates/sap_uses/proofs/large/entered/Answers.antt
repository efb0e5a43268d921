use Rattle.std.proofs.Common.{sym, ◌∙◌}
use Rattle.sap_macro.specs.Sources.{definition_of}
use Rattle.sap_uses.specs.Sizes.{size_in}
use Rattle.sap_uses.proofs.Heads.{behind_is}
use Rattle.sap_uses.proofs.large.entered.Goals as goal

pub returns : goal.returns
returns c ds =
    rw c.deref.ensures
    (behind_is ds (size_in c.args.sizes.now) (size_in c.in_ok-inner.inner) (definition_of c.args.d.now) c.args.args.now (sym c.has_large.ensures ∙ c.if-has_large.false) c.in_ok-inner.ensures)
