use Rattle.sap_rewrite.proofs.Around.{around_iff}
use Rattle.sap_rewrite.proofs.laws.matching_around_is_modulo.Goals as goal

pub returns : goal.returns
returns c = around_iff
