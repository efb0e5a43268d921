use Rattle.std.proofs.Common.{sym, ◌∙◌}
use Rattle.sap_share.proofs.Grown.{IfNone_then}
use Rattle.sap_share.proofs.Shapes.{same_args}
use Rattle.sap_share.proofs.table.Table.one_under.Goals as goal

pub returns-in-Some-clause-none : goal.returns-in-Some-clause-none
returns-in-Some-clause-none c = IfNone_then c.one.result c.one.ensures.none (λ h x e. h x (same_args _ _ _ _ (sym c.in-Some.ensures.some.1 ∙ e)))
