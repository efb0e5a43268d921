use Rattle.sap_stretches.proofs.Positions.{one_position, one_place_text_is}
use Rattle.sap_stretches.proofs.laws.one_place_text.Goals as goal

pub returns : goal.returns
returns c = record { positions = one_position; texts = one_place_text_is }
