use Rattle.sap_outside.proofs.CallsTried.{empty, no_second, no_other, one_piece, no_end, given_up}
use Rattle.sap_outside.proofs.laws.calls_by_hand.Goals as goal

pub returns : goal.returns
returns c = record { empty = empty; no_second = no_second; no_other = no_other; one_piece = one_piece; no_end = no_end; given_up = given_up }
