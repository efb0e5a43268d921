use Rattle.sap_sides.proofs.Found.{in_turn}
use Rattle.sap_sides.proofs.laws.facts_fit_in_turn.Goals as goal

pub returns : goal.returns
returns c = in_turn c.extensions_join.ensures
