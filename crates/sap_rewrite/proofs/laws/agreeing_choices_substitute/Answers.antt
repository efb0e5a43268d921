use Rattle.sap_rewrite.proofs.Bound.{substitutes}
use Rattle.sap_rewrite.proofs.laws.agreeing_choices_substitute.Goals as goal

pub returns : goal.returns
returns c = substitutes
