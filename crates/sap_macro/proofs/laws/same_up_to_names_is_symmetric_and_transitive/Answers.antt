use Rattle.std.proofs.Common.{[]}
use Rattle.sap_macro.proofs.Joined.{one_behind_other, through_a_third}
use Rattle.sap_macro.proofs.Swapped.{other_side, with_other_pairs}
use Rattle.sap_macro.proofs.laws.same_up_to_names_is_symmetric_and_transitive.Goals as goal

pub returns-clause-other_side : goal.returns-clause-other_side
returns-clause-other_side c = with_other_pairs

pub returns-clause-third : goal.returns-clause-third
returns-clause-third c = through_a_third

pub returns-clause-symmetric : goal.returns-clause-symmetric
returns-clause-symmetric c = other_side []

pub returns-clause-transitive : goal.returns-clause-transitive
returns-clause-transitive c = one_behind_other
