use Rattle.std.proofs.Common.{refl}
use Rattle.std.proofs.lemmas.Bool.{false≢true}
use Rattle.sap_macro.proofs.written_files.arguments_of_files_by_hand.Goals as goal

pub returns-clause-new_names : goal.returns-clause-new_names
returns-clause-new_names c = (refl, tt)

pub returns-clause-each_copy : goal.returns-clause-each_copy
returns-clause-each_copy c = tt

pub returns-clause-one_sort : goal.returns-clause-one_sort
returns-clause-one_sort c = tt

pub returns-clause-own_binder : goal.returns-clause-own_binder
returns-clause-own_binder c = (refl, tt)

pub returns-clause-apart : goal.returns-clause-apart
returns-clause-apart c = tt

pub returns-clause-plain_name : goal.returns-clause-plain_name
returns-clause-plain_name c = tt

pub returns-clause-store : goal.returns-clause-store
returns-clause-store c = ((refl, tt), tt)

pub returns-clause-not_taken : goal.returns-clause-not_taken
returns-clause-not_taken c = λ h. false≢true h.0

pub returns-clause-not_unused : goal.returns-clause-not_unused
returns-clause-not_unused c = λ h. false≢true h.0

pub returns-clause-not_ruled : goal.returns-clause-not_ruled
returns-clause-not_ruled c = λ h. false≢true h.0

pub returns-clause-plain_body : goal.returns-clause-plain_body
returns-clause-plain_body c = tt

pub returns-clause-sort_above : goal.returns-clause-sort_above
returns-clause-sort_above c = (refl, tt)

pub returns-clause-each_form : goal.returns-clause-each_form
returns-clause-each_form c = ((refl, tt), ((refl, tt), ((refl, tt), (refl, tt))))

pub returns-clause-not_copied : goal.returns-clause-not_copied
returns-clause-not_copied c = λ h. false≢true h.0

pub returns-clause-not_left : goal.returns-clause-not_left
returns-clause-not_left c = λ h. false≢true h.0.0

pub returns-clause-not_right : goal.returns-clause-not_right
returns-clause-not_right c = λ h. false≢true h.1.0

pub returns-clause-not_equal : goal.returns-clause-not_equal
returns-clause-not_equal c = λ h. false≢true h.0.0

pub returns-clause-not_apart : goal.returns-clause-not_apart
returns-clause-not_apart c = λ h. false≢true h.1.0

pub returns-clause-not_found : goal.returns-clause-not_found
returns-clause-not_found c = λ h. false≢true h.0.0

pub returns-clause-not_missed : goal.returns-clause-not_missed
returns-clause-not_missed c = λ h. false≢true h.1.0

pub returns-clause-not_behind : goal.returns-clause-not_behind
returns-clause-not_behind c = λ h. false≢true h.0

pub returns-clause-ruled_above : goal.returns-clause-ruled_above
returns-clause-ruled_above c = (refl, tt)

pub returns-clause-taken_above : goal.returns-clause-taken_above
returns-clause-taken_above c = (refl, tt)

pub returns-clause-added_above : goal.returns-clause-added_above
returns-clause-added_above c = (refl, tt)

pub returns-clause-not_ruled_above : goal.returns-clause-not_ruled_above
returns-clause-not_ruled_above c = λ h. false≢true h.0
