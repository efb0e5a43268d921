use Rattle.sap_captures.proofs.ByHand.{by_x_binds, by_x_channel, channel_binds, channel_compared, inside_binds, known_inside, left_alone, left_binds, no_channel_binds, no_channel_compared, no_symbol_binds, none_left, one_alone, one_binds, one_compared, one_known, one_new, one_other, twice_binds, twice_once}
use Rattle.sap_captures.proofs.laws.heads_by_hand.Goals as goal

pub returns-clause-binds : goal.returns-clause-binds
returns-clause-binds c = one_binds

pub returns-clause-binds_no_other : goal.returns-clause-binds_no_other
returns-clause-binds_no_other c = one_alone

pub returns-clause-binds_not : goal.returns-clause-binds_not
returns-clause-binds_not c = one_known

pub returns-clause-compares : goal.returns-clause-compares
returns-clause-compares c = one_compared

pub returns-clause-compares_no_other : goal.returns-clause-compares_no_other
returns-clause-compares_no_other c = λ k r. r.at

pub returns-clause-compares_not : goal.returns-clause-compares_not
returns-clause-compares_not c = one_new

pub returns-clause-other_name : goal.returns-clause-other_name
returns-clause-other_name c = one_other

pub returns-clause-binds_on_channel : goal.returns-clause-binds_on_channel
returns-clause-binds_on_channel c = channel_binds

pub returns-clause-compares_on_channel : goal.returns-clause-compares_on_channel
returns-clause-compares_on_channel c = channel_compared

pub returns-clause-no_channel : goal.returns-clause-no_channel
returns-clause-no_channel c = (no_channel_binds, no_channel_compared)

pub returns-clause-inside : goal.returns-clause-inside
returns-clause-inside c = inside_binds

pub returns-clause-no_known : goal.returns-clause-no_known
returns-clause-no_known c = known_inside

pub returns-clause-no_symbol : goal.returns-clause-no_symbol
returns-clause-no_symbol c = no_symbol_binds

pub returns-clause-larger : goal.returns-clause-larger
returns-clause-larger c = λ k r. cc (r.whole)

pub returns-clause-first : goal.returns-clause-first
returns-clause-first c = twice_binds

pub returns-clause-no_second : goal.returns-clause-no_second
returns-clause-no_second c = twice_once

pub returns-clause-channel : goal.returns-clause-channel
returns-clause-channel c = (by_x_channel, by_x_binds)

pub returns-clause-left_side : goal.returns-clause-left_side
returns-clause-left_side c = left_binds

pub returns-clause-no_other_side : goal.returns-clause-no_other_side
returns-clause-no_other_side c = left_alone

pub returns-clause-no_left_side : goal.returns-clause-no_left_side
returns-clause-no_left_side c = none_left

pub returns-clause-no_rule : goal.returns-clause-no_rule
returns-clause-no_rule c = λ k r. cc (r.whole)

pub returns-clause-no_pattern : goal.returns-clause-no_pattern
returns-clause-no_pattern c = λ k. (λ r. cc (r.stands), λ r. cc (r.stands), λ r. cc (r.stands))

pub returns-clause-no_input : goal.returns-clause-no_input
returns-clause-no_input c = λ k. (λ r. cc (r.whole), λ r. cc (r.whole))

pub returns-clause-no_lookup : goal.returns-clause-no_lookup
returns-clause-no_lookup c = λ k. (λ r. cc (r.stands), λ r. cc (r.whole))
