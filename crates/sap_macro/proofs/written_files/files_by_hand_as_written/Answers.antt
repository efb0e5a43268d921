use Rattle.sap_macro.proofs.WrittenFiles.{apart, each_copy, new_names, one_sort, own_binder, plain_body, plain_name, sort_above, store}
use Rattle.sap_macro.proofs.WrittenLacks.{not_of_other, not_one_name, not_open, not_other_sort, not_own_argument, not_put, not_swapped, not_two_sorts, not_variable}
use Rattle.sap_macro.proofs.written_files.files_by_hand_as_written.Goals as goal

pub returns-clause-new_names : goal.returns-clause-new_names
returns-clause-new_names c = new_names c.leaves_are_normal.ensures

pub returns-clause-each_copy : goal.returns-clause-each_copy
returns-clause-each_copy c = each_copy c.leaves_are_normal.ensures

pub returns-clause-one_sort : goal.returns-clause-one_sort
returns-clause-one_sort c = one_sort c.leaves_are_normal.ensures

pub returns-clause-own_binder : goal.returns-clause-own_binder
returns-clause-own_binder c = own_binder c.leaves_are_normal.ensures

pub returns-clause-apart : goal.returns-clause-apart
returns-clause-apart c = λ g. apart c.leaves_are_normal.ensures g c.normal_forms_are_unique.ensures

pub returns-clause-plain_name : goal.returns-clause-plain_name
returns-clause-plain_name c = plain_name c.leaves_are_normal.ensures

pub returns-clause-store : goal.returns-clause-store
returns-clause-store c = store c.leaves_are_normal.ensures

pub returns-clause-not_swapped : goal.returns-clause-not_swapped
returns-clause-not_swapped c = not_swapped c.leaves_are_normal.ensures c.normal_forms_are_unique.ensures

pub returns-clause-not_one_name : goal.returns-clause-not_one_name
returns-clause-not_one_name c = not_one_name c.leaves_are_normal.ensures c.normal_forms_are_unique.ensures

pub returns-clause-not_of_other : goal.returns-clause-not_of_other
returns-clause-not_of_other c = not_of_other c.leaves_are_normal.ensures c.normal_forms_are_unique.ensures

pub returns-clause-not_put : goal.returns-clause-not_put
returns-clause-not_put c = not_put c.leaves_are_normal.ensures c.normal_forms_are_unique.ensures

pub returns-clause-not_variable : goal.returns-clause-not_variable
returns-clause-not_variable c = not_variable c.normal_forms_are_unique.ensures c.equality_is_kept.ensures

pub returns-clause-not_two_sorts : goal.returns-clause-not_two_sorts
returns-clause-not_two_sorts c = not_two_sorts c.leaves_are_normal.ensures c.normal_forms_are_unique.ensures c.equality_is_kept.ensures

pub returns-clause-not_own_argument : goal.returns-clause-not_own_argument
returns-clause-not_own_argument c = not_own_argument c.leaves_are_normal.ensures c.normal_forms_are_unique.ensures c.equality_is_kept.ensures

pub returns-clause-plain_body : goal.returns-clause-plain_body
returns-clause-plain_body c = plain_body c.leaves_are_normal.ensures

pub returns-clause-sort_above : goal.returns-clause-sort_above
returns-clause-sort_above c = sort_above c.leaves_are_normal.ensures

pub returns-clause-not_open : goal.returns-clause-not_open
returns-clause-not_open c = not_open c.leaves_are_normal.ensures c.normal_forms_are_unique.ensures c.equality_is_kept.ensures

pub returns-clause-not_other_sort : goal.returns-clause-not_other_sort
returns-clause-not_other_sort c = not_other_sort c.leaves_are_normal.ensures c.normal_forms_are_unique.ensures c.equality_is_kept.ensures
