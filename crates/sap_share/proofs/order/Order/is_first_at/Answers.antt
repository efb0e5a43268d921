use Rattle.std.proofs.Common.{subst, ◌∙◌}
use Rattle.std.specs.List.{IsDistinct}
use Rattle.std.specs.Str.{bytes_eq}
use Rattle.sap_share.proofs.Ordered.{is_first}
use Rattle.sap_share.proofs.order.Order.is_first_at.Goals as goal

pub returns : goal.returns
returns c = λ h. is_first c.args.self.now c.args.k c.args.name.now (subst (IsDistinct bytes_eq) (c.deref.ensures ∙ c.self.view_is) c.as_slice-once.ensures.once) (c.has_at.ensures h)
