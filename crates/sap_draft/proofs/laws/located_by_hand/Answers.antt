use Rattle.sap_draft.proofs.ByHand.{dangling_located, parted_located, parallel_located, grouped_located, actions_located, rule_located, lookup_located, only_found_located, uses_located, other}
use Rattle.sap_draft.proofs.laws.located_by_hand.Goals as goal

pub returns-clause-dangling : goal.returns-clause-dangling
returns-clause-dangling c = dangling_located

pub returns-clause-parted : goal.returns-clause-parted
returns-clause-parted c = parted_located

pub returns-clause-parallel : goal.returns-clause-parallel
returns-clause-parallel c = parallel_located

pub returns-clause-grouped : goal.returns-clause-grouped
returns-clause-grouped c = grouped_located

pub returns-clause-actions : goal.returns-clause-actions
returns-clause-actions c = actions_located

pub returns-clause-rule : goal.returns-clause-rule
returns-clause-rule c = rule_located

pub returns-clause-lookup : goal.returns-clause-lookup
returns-clause-lookup c = lookup_located

pub returns-clause-only_found : goal.returns-clause-only_found
returns-clause-only_found c = only_found_located

pub returns-clause-uses : goal.returns-clause-uses
returns-clause-uses c = uses_located

pub returns-clause-no_other_if : goal.returns-clause-no_other_if
returns-clause-no_other_if c = λ g k r. other c.term_laws.ensures.read (dangling_located g) (λ e. absurd (cc (e))) r

pub returns-clause-no_missing_0 : goal.returns-clause-no_missing_0
returns-clause-no_missing_0 c = λ g r. other c.term_laws.ensures.read (dangling_located g) (λ e. absurd (cc (e))) r

pub returns-clause-no_inner_if : goal.returns-clause-no_inner_if
returns-clause-no_inner_if c = λ g r. other c.term_laws.ensures.read (dangling_located g) (λ e. absurd (cc (e))) r

pub returns-clause-no_parenthesis : goal.returns-clause-no_parenthesis
returns-clause-no_parenthesis c = λ g r. other c.term_laws.ensures.read (parted_located g) (λ e. absurd (cc (e))) r

pub returns-clause-no_first_part : goal.returns-clause-no_first_part
returns-clause-no_first_part c = λ g k r. other c.term_laws.ensures.read (parallel_located g) (λ e. absurd (cc (e))) r

pub returns-clause-no_second_part : goal.returns-clause-no_second_part
returns-clause-no_second_part c = λ g k r. other c.term_laws.ensures.read (parallel_located g) (λ e. absurd (cc (e))) r

pub returns-clause-no_group : goal.returns-clause-no_group
returns-clause-no_group c = λ g k r. other c.term_laws.ensures.read (grouped_located g) (λ e. absurd (cc (e))) r

pub returns-clause-no_semicolon : goal.returns-clause-no_semicolon
returns-clause-no_semicolon c = λ k j r. other c.term_laws.ensures.read (actions_located) (λ e. absurd (cc (e))) r

pub returns-clause-no_copy : goal.returns-clause-no_copy
returns-clause-no_copy c = λ k r. other c.term_laws.ensures.read (actions_located) (λ e. absurd (cc (e))) r

pub returns-clause-no_end : goal.returns-clause-no_end
returns-clause-no_end c = λ r. other c.term_laws.ensures.read (actions_located) (λ e. absurd (cc (e))) r

pub returns-clause-no_last_word : goal.returns-clause-no_last_word
returns-clause-no_last_word c = λ g r. other c.term_laws.ensures.read (rule_located g) (λ e. absurd (cc (e))) r

pub returns-clause-no_key : goal.returns-clause-no_key
returns-clause-no_key c = λ g k j r. other c.term_laws.ensures.read (lookup_located g) (λ e. absurd (cc (e))) r

pub returns-clause-no_found : goal.returns-clause-no_found
returns-clause-no_found c = λ g r. other c.term_laws.ensures.read (only_found_located g) (λ e. absurd (cc (e))) r

pub returns-clause-no_argument : goal.returns-clause-no_argument
returns-clause-no_argument c = λ g k r. other c.term_laws.ensures.read (uses_located g) (λ e. absurd (cc (e))) r
