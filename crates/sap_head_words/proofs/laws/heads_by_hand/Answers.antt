use Rattle.sap_head_words.proofs.ByHand.{out_has, input_has, rule_has, arrow_has, fresh_has, new_has, event_has, insert_has, lock_has, lookup_has, test_has, use_has, bare_has, other}
use Rattle.sap_head_words.proofs.laws.heads_by_hand.Goals as goal

pub returns-clause-out : goal.returns-clause-out
returns-clause-out c = out_has

pub returns-clause-input : goal.returns-clause-input
returns-clause-input c = input_has

pub returns-clause-rule : goal.returns-clause-rule
returns-clause-rule c = rule_has

pub returns-clause-arrow : goal.returns-clause-arrow
returns-clause-arrow c = arrow_has

pub returns-clause-fresh : goal.returns-clause-fresh
returns-clause-fresh c = fresh_has

pub returns-clause-new : goal.returns-clause-new
returns-clause-new c = new_has

pub returns-clause-event : goal.returns-clause-event
returns-clause-event c = event_has

pub returns-clause-insert : goal.returns-clause-insert
returns-clause-insert c = insert_has

pub returns-clause-lock : goal.returns-clause-lock
returns-clause-lock c = lock_has

pub returns-clause-lookup : goal.returns-clause-lookup
returns-clause-lookup c = lookup_has

pub returns-clause-test : goal.returns-clause-test
returns-clause-test c = test_has

pub returns-clause-uses : goal.returns-clause-uses
returns-clause-uses c = use_has

pub returns-clause-bare : goal.returns-clause-bare
returns-clause-bare c = bare_has

pub returns-clause-no_sign : goal.returns-clause-no_sign
returns-clause-no_sign c = λ g r. other c.one_head.ensures (out_has g) (λ e. absurd (cc (e))) r

pub returns-clause-no_out : goal.returns-clause-no_out
returns-clause-no_out c = λ g r. other c.one_head.ensures (out_has g) (λ e. absurd (cc (e))) r

pub returns-clause-no_channel : goal.returns-clause-no_channel
returns-clause-no_channel c = λ g r. other c.one_head.ensures (input_has g) (λ e. absurd (cc (e))) r

pub returns-clause-no_other_part : goal.returns-clause-no_other_part
returns-clause-no_other_part c = λ g r. other c.one_head.ensures (input_has g) (λ e. absurd (cc (e))) r

pub returns-clause-no_persistence : goal.returns-clause-no_persistence
returns-clause-no_persistence c = λ g r. other c.one_head.ensures (rule_has g) (λ e. absurd (cc (e))) r

pub returns-clause-no_parenthesis : goal.returns-clause-no_parenthesis
returns-clause-no_parenthesis c = λ g r. other c.one_head.ensures (rule_has g) (λ e. absurd (cc (e))) r

pub returns-clause-no_fresh_sign : goal.returns-clause-no_fresh_sign
returns-clause-no_fresh_sign c = λ g r. other c.one_head.ensures (rule_has g) (λ e. absurd (cc (e))) r

pub returns-clause-no_other_side : goal.returns-clause-no_other_side
returns-clause-no_other_side c = λ g r. other c.one_head.ensures (rule_has g) (λ e. absurd (cc (e))) r

pub returns-clause-no_bracket : goal.returns-clause-no_bracket
returns-clause-no_bracket c = λ g r. other c.one_head.ensures (arrow_has g) (λ e. absurd (cc (e))) r

pub returns-clause-no_sign_of_new : goal.returns-clause-no_sign_of_new
returns-clause-no_sign_of_new c = λ g r. other c.one_head.ensures (fresh_has g) (λ e. absurd (cc (e))) r

pub returns-clause-no_new : goal.returns-clause-no_new
returns-clause-no_new c = λ g r. other c.one_head.ensures (new_has g) (λ e. absurd (cc (e))) r

pub returns-clause-no_event : goal.returns-clause-no_event
returns-clause-no_event c = λ g r. other c.one_head.ensures (event_has g) (λ e. absurd (cc (e))) r

pub returns-clause-no_key : goal.returns-clause-no_key
returns-clause-no_key c = λ g r. other c.one_head.ensures (insert_has g) (λ e. absurd (cc (e))) r

pub returns-clause-no_lock : goal.returns-clause-no_lock
returns-clause-no_lock c = λ g r. other c.one_head.ensures (lock_has g) (λ e. absurd (cc (e))) r

pub returns-clause-no_as : goal.returns-clause-no_as
returns-clause-no_as c = λ g r. other c.one_head.ensures (lookup_has g) (λ e. absurd (cc (e))) r

pub returns-clause-no_key_alone : goal.returns-clause-no_key_alone
returns-clause-no_key_alone c = λ g r. other c.one_head.ensures (lookup_has g) (λ e. absurd (cc (e))) r

pub returns-clause-no_equals : goal.returns-clause-no_equals
returns-clause-no_equals c = λ g r. other c.one_head.ensures (test_has g) (λ e. absurd (cc (e))) r

pub returns-clause-no_name_of_use : goal.returns-clause-no_name_of_use
returns-clause-no_name_of_use c = λ g r. other c.one_head.ensures (use_has g) (λ e. absurd (cc (e))) r

pub returns-clause-no_other_argument : goal.returns-clause-no_other_argument
returns-clause-no_other_argument c = λ g r. other c.one_head.ensures (use_has g) (λ e. absurd (cc (e))) r

pub returns-clause-no_bare_name : goal.returns-clause-no_bare_name
returns-clause-no_bare_name c = λ g r. other c.one_head.ensures (bare_has g) (λ e. absurd (cc (e))) r
