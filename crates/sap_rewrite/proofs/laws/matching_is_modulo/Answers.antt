use Rattle.sap_rewrite.proofs.Patterns.{modulo_iff}
use Rattle.sap_rewrite.proofs.laws.matching_is_modulo.Goals as goal

pub returns : goal.returns
returns c = modulo_iff
