use Rattle.sap_rewrite.proofs.Equality.{equality_kept}
use Rattle.sap_rewrite.proofs.laws.equality_is_kept.Goals as goal

pub returns : goal.returns
returns c = equality_kept
