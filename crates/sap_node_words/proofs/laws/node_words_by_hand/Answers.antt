use Rattle.sap_node_words.proofs.ByHand.{mixed_has, inner_has, nested_has, flat_has, named_has, constant_has, message_has, other}
use Rattle.sap_node_words.proofs.laws.node_words_by_hand.Goals as goal

pub returns-clause-mixed : goal.returns-clause-mixed
returns-clause-mixed c = mixed_has

pub returns-clause-inner : goal.returns-clause-inner
returns-clause-inner c = inner_has

pub returns-clause-nested : goal.returns-clause-nested
returns-clause-nested c = nested_has

pub returns-clause-flat : goal.returns-clause-flat
returns-clause-flat c = flat_has

pub returns-clause-named : goal.returns-clause-named
returns-clause-named c = named_has

pub returns-clause-no_sign : goal.returns-clause-no_sign
returns-clause-no_sign c = λ g r. other (mixed_has g) (λ e. absurd (cc (e))) r

pub returns-clause-no_public_sign : goal.returns-clause-no_public_sign
returns-clause-no_public_sign c = λ g r. other (mixed_has g) (λ e. absurd (cc (e))) r

pub returns-clause-no_parenthesis : goal.returns-clause-no_parenthesis
returns-clause-no_parenthesis c = λ g r. other (mixed_has g) (λ e. absurd (cc (e))) r

pub returns-clause-no_comma : goal.returns-clause-no_comma
returns-clause-no_comma c = λ g r. other (mixed_has g) (λ e. absurd (cc (e))) r

pub returns-clause-no_name_of_rest : goal.returns-clause-no_name_of_rest
returns-clause-no_name_of_rest c = λ g r. other (mixed_has g) (λ e. absurd (cc (e))) r

pub returns-clause-no_part_of_tuple : goal.returns-clause-no_part_of_tuple
returns-clause-no_part_of_tuple c = λ g r. other (mixed_has g) (λ e. absurd (cc (e))) r

pub returns-clause-no_word_behind : goal.returns-clause-no_word_behind
returns-clause-no_word_behind c = λ g r. other (mixed_has g) (λ e. absurd (cc (e))) r

pub returns-clause-no_tuple_of_rest : goal.returns-clause-no_tuple_of_rest
returns-clause-no_tuple_of_rest c = λ g r. other (mixed_has g) (λ e. absurd (cc (e))) r

pub returns-clause-no_closing : goal.returns-clause-no_closing
returns-clause-no_closing c = λ g r. other (mixed_has g) (λ e. absurd (cc (e))) r

pub returns-clause-no_inner_part : goal.returns-clause-no_inner_part
returns-clause-no_inner_part c = λ g r. other (inner_has g) (λ e. absurd (cc (e))) r

pub returns-clause-no_rest_as_tuple : goal.returns-clause-no_rest_as_tuple
returns-clause-no_rest_as_tuple c = λ g r. other (nested_has g) (λ e. absurd (cc (e))) r

pub returns-clause-no_tuple_sign : goal.returns-clause-no_tuple_sign
returns-clause-no_tuple_sign c = λ g r. other (flat_has g) (λ e. absurd (cc (e))) r

pub returns-clause-no_first_argument : goal.returns-clause-no_first_argument
returns-clause-no_first_argument c = λ g r. other (named_has g) (λ e. absurd (cc (e))) r

pub returns-clause-constant : goal.returns-clause-constant
returns-clause-constant c = constant_has

pub returns-clause-message : goal.returns-clause-message
returns-clause-message c = message_has

pub returns-clause-no_sign_in_rest : goal.returns-clause-no_sign_in_rest
returns-clause-no_sign_in_rest c = λ g is r. other (constant_has g is) (λ e. absurd (cc (e))) r

pub returns-clause-no_later_name : goal.returns-clause-no_later_name
returns-clause-no_later_name c = λ g isnt r. other (message_has g isnt) (λ e. absurd (cc (e))) r
