use Rattle.std.proofs.Common.{refl}
use Rattle.sap_stretches.proofs.PositionsByHand.{at_end, at_feed, at_second, not_first_line, not_from_zero, text_of_byte, text_of_second}
use Rattle.sap_stretches.proofs.laws.positions_by_hand.Goals as goal

pub returns : goal.returns
returns c = record {
  stretches = (refl, refl, refl);
  lines = (at_second, at_feed, at_end);
  not_there = (not_first_line, not_from_zero);
  text = (text_of_second, text_of_byte);
  long_lines = (refl, refl, refl, refl);
  ends_of_lines = (refl, refl, refl, refl, refl, refl, refl);
  bytes = (refl, refl, refl, refl, refl, refl);
  carets = (refl, refl, refl, refl);
}
