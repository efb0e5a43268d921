use Rattle.sap_forward.proofs.LinesTried.{right_names, no_other_names, no_other_order, none_early}
use Rattle.sap_forward.proofs.laws.turns_by_hand.Goals as goal

pub returns : goal.returns
returns c = record { right = right_names; no_other = no_other_names; in_order = no_other_order; in_time = none_early }
