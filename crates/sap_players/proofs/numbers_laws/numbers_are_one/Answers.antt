use Rattle.sap_players.proofs.Numbered.{number_done, number_stays, one_before, one_number, one_thread, some_number}
use Rattle.sap_players.proofs.Placed.{found_number, number_found}
use Rattle.sap_players.proofs.numbers_laws.numbers_are_one.Goals as goal

pub returns-clause-one : goal.returns-clause-one
returns-clause-one c = one_number

pub returns-clause-other : goal.returns-clause-other
returns-clause-other c = one_thread

pub returns-clause-some : goal.returns-clause-some
returns-clause-some c = some_number

pub returns-clause-only : goal.returns-clause-only
returns-clause-only c = number_done

pub returns-clause-before : goal.returns-clause-before
returns-clause-before c = one_before

pub returns-clause-stays : goal.returns-clause-stays
returns-clause-stays c = number_stays

pub returns-clause-found : goal.returns-clause-found
returns-clause-found c = λ ds r t k. (number_found ds r t k, found_number ds r t k)
