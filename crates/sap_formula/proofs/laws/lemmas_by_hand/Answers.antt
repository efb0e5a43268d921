use Rattle.std.proofs.Common.{refl, inl, inr}
use Rattle.sap_formula.specs.Examples.{trace_a, trace_ab}
use Rattle.sap_formula.proofs.ByHand.{some_restricted}
use Rattle.sap_formula.proofs.laws.lemmas_by_hand.Goals as goal

pub returns-clause-all_of_each : goal.returns-clause-all_of_each
returns-clause-all_of_each c = λ g h. c.truth_by_hand.ensures.other_time g (h trace_ab (inr refl) tt)

pub returns-clause-some_one : goal.returns-clause-some_one
returns-clause-some_one c = λ g. (trace_a, inl refl, tt, c.truth_by_hand.ensures.one_time g)

pub returns-clause-some_restricted : goal.returns-clause-some_restricted
returns-clause-some_restricted c = λ g h. some_restricted g h.0 (c.truth_by_hand.ensures.other_time g) h.1 h.2 h.3
