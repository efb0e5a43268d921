use Rattle.std.proofs.Common.{◌∙◌, sym}
use Rattle.sap_share.proofs.Ordered.{found_at, found_nowhere}
use Rattle.sap_share.proofs.env.number_along.Goals as goal

pub returns-in-Some : goal.returns-in-Some
returns-in-Some c = c.number_at.ensures ∙ sym (found_at c.args.bound.now c.args.order.now c.args.name.now c.in-Some.k c.requires (sym c.in-Some.ensures))

pub returns-in-None : goal.returns-in-None
returns-in-None c = sym (found_nowhere c.args.bound.now c.args.order.now c.args.name.now c.requires (sym c.in-None.ensures))
