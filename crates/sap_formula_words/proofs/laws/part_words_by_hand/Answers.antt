use Rattle.sap_formula_words.proofs.ByHand.{variable_has, occurrences_have, constant_has, enclosed_has, shown_has, other}
use Rattle.sap_formula_words.proofs.laws.part_words_by_hand.Goals as goal

pub returns-clause-variable : goal.returns-clause-variable
returns-clause-variable c = variable_has

pub returns-clause-occurrences : goal.returns-clause-occurrences
returns-clause-occurrences c = occurrences_have

pub returns-clause-constant : goal.returns-clause-constant
returns-clause-constant c = constant_has

pub returns-clause-enclosed : goal.returns-clause-enclosed
returns-clause-enclosed c = enclosed_has

pub returns-clause-shown : goal.returns-clause-shown
returns-clause-shown c = shown_has

pub returns-clause-no_truth_value : goal.returns-clause-no_truth_value
returns-clause-no_truth_value c = λ g is r. other (record { counts = c.nodes_and_words.ensures.nodes; within = c.nodes_and_words.ensures.within; words = c.nodes_and_words.ensures.words; same = c.nodes_and_words.ensures.same }) (variable_has g is) (λ e. absurd (cc (e))) r

pub returns-clause-no_public_name : goal.returns-clause-no_public_name
returns-clause-no_public_name c = λ g is r. other (record { counts = c.nodes_and_words.ensures.nodes; within = c.nodes_and_words.ensures.within; words = c.nodes_and_words.ensures.words; same = c.nodes_and_words.ensures.same }) (variable_has g is) (λ e. absurd (cc (e))) r

pub returns-clause-no_first_occurrence : goal.returns-clause-no_first_occurrence
returns-clause-no_first_occurrence c = λ g is r. other (record { counts = c.nodes_and_words.ensures.nodes; within = c.nodes_and_words.ensures.within; words = c.nodes_and_words.ensures.words; same = c.nodes_and_words.ensures.same }) (occurrences_have g is) (λ e. absurd (cc (e))) r

pub returns-clause-no_other_side : goal.returns-clause-no_other_side
returns-clause-no_other_side c = λ g is r. other (record { counts = c.nodes_and_words.ensures.nodes; within = c.nodes_and_words.ensures.within; words = c.nodes_and_words.ensures.words; same = c.nodes_and_words.ensures.same }) (occurrences_have g is) (λ e. absurd (cc (e))) r

pub returns-clause-no_quantifier : goal.returns-clause-no_quantifier
returns-clause-no_quantifier c = λ g is r. other (record { counts = c.nodes_and_words.ensures.nodes; within = c.nodes_and_words.ensures.within; words = c.nodes_and_words.ensures.words; same = c.nodes_and_words.ensures.same }) (constant_has g is) (λ e. absurd (cc (e))) r

pub returns-clause-no_binder_sign : goal.returns-clause-no_binder_sign
returns-clause-no_binder_sign c = λ g is r. other (record { counts = c.nodes_and_words.ensures.nodes; within = c.nodes_and_words.ensures.within; words = c.nodes_and_words.ensures.words; same = c.nodes_and_words.ensures.same }) (constant_has g is) (λ e. absurd (cc (e))) r

pub returns-clause-no_occurrence : goal.returns-clause-no_occurrence
returns-clause-no_occurrence c = λ g is r. other (record { counts = c.nodes_and_words.ensures.nodes; within = c.nodes_and_words.ensures.within; words = c.nodes_and_words.ensures.words; same = c.nodes_and_words.ensures.same }) (constant_has g is) (λ e. absurd (cc (e))) r

pub returns-clause-no_binder : goal.returns-clause-no_binder
returns-clause-no_binder c = λ g is r. other (record { counts = c.nodes_and_words.ensures.nodes; within = c.nodes_and_words.ensures.within; words = c.nodes_and_words.ensures.words; same = c.nodes_and_words.ensures.same }) (constant_has g is) (λ e. absurd (cc (e))) r

pub returns-clause-no_at : goal.returns-clause-no_at
returns-clause-no_at c = λ g is r. other (record { counts = c.nodes_and_words.ensures.nodes; within = c.nodes_and_words.ensures.within; words = c.nodes_and_words.ensures.words; same = c.nodes_and_words.ensures.same }) (constant_has g is) (λ e. absurd (cc (e))) r

pub returns-clause-no_fresh_sign : goal.returns-clause-no_fresh_sign
returns-clause-no_fresh_sign c = λ g r. other (record { counts = c.nodes_and_words.ensures.nodes; within = c.nodes_and_words.ensures.within; words = c.nodes_and_words.ensures.words; same = c.nodes_and_words.ensures.same }) (enclosed_has g) (λ e. absurd (cc (e))) r

pub returns-clause-no_public_sign : goal.returns-clause-no_public_sign
returns-clause-no_public_sign c = λ g r. other (record { counts = c.nodes_and_words.ensures.nodes; within = c.nodes_and_words.ensures.within; words = c.nodes_and_words.ensures.words; same = c.nodes_and_words.ensures.same }) (enclosed_has g) (λ e. absurd (cc (e))) r

pub returns-clause-no_later_time : goal.returns-clause-no_later_time
returns-clause-no_later_time c = λ g r. other (record { counts = c.nodes_and_words.ensures.nodes; within = c.nodes_and_words.ensures.within; words = c.nodes_and_words.ensures.words; same = c.nodes_and_words.ensures.same }) (enclosed_has g) (λ e. absurd (cc (e))) r

pub returns-clause-no_time_sign : goal.returns-clause-no_time_sign
returns-clause-no_time_sign c = λ g r. other (record { counts = c.nodes_and_words.ensures.nodes; within = c.nodes_and_words.ensures.within; words = c.nodes_and_words.ensures.words; same = c.nodes_and_words.ensures.same }) (enclosed_has g) (λ e. absurd (cc (e))) r

pub returns-clause-no_time_inside : goal.returns-clause-no_time_inside
returns-clause-no_time_inside c = λ g r. other (record { counts = c.nodes_and_words.ensures.nodes; within = c.nodes_and_words.ensures.within; words = c.nodes_and_words.ensures.words; same = c.nodes_and_words.ensures.same }) (enclosed_has g) (λ e. absurd (cc (e))) r

pub returns-clause-no_sign_of_same : goal.returns-clause-no_sign_of_same
returns-clause-no_sign_of_same c = λ g r. other (record { counts = c.nodes_and_words.ensures.nodes; within = c.nodes_and_words.ensures.within; words = c.nodes_and_words.ensures.words; same = c.nodes_and_words.ensures.same }) (enclosed_has g) (λ e. absurd (cc (e))) r

pub returns-clause-no_tuple_of_rest : goal.returns-clause-no_tuple_of_rest
returns-clause-no_tuple_of_rest c = λ g is r. other (record { counts = c.nodes_and_words.ensures.nodes; within = c.nodes_and_words.ensures.within; words = c.nodes_and_words.ensures.words; same = c.nodes_and_words.ensures.same }) (shown_has g is) (λ e. absurd (cc (e))) r

pub returns-clause-no_part_of_rest : goal.returns-clause-no_part_of_rest
returns-clause-no_part_of_rest c = λ g is r. other (record { counts = c.nodes_and_words.ensures.nodes; within = c.nodes_and_words.ensures.within; words = c.nodes_and_words.ensures.words; same = c.nodes_and_words.ensures.same }) (shown_has g is) (λ e. absurd (cc (e))) r

pub returns-clause-no_first_argument : goal.returns-clause-no_first_argument
returns-clause-no_first_argument c = λ g is r. other (record { counts = c.nodes_and_words.ensures.nodes; within = c.nodes_and_words.ensures.within; words = c.nodes_and_words.ensures.words; same = c.nodes_and_words.ensures.same }) (shown_has g is) (λ e. absurd (cc (e))) r
