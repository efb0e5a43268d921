use Rattle.sap_tell.proofs.WrittenBytes.{read_back, one, no_marks}
use Rattle.sap_tell.proofs.laws.escaped_stands_for_one.Goals as goal

pub returns-clause-read_back : goal.returns-clause-read_back
returns-clause-read_back c = read_back

pub returns-clause-one : goal.returns-clause-one
returns-clause-one c = one

pub returns-clause-no_marks : goal.returns-clause-no_marks
returns-clause-no_marks c = no_marks
