use Rattle.sap_macro.proofs.Replacing.{left_stays, plain_files_stay}
use Rattle.sap_macro.proofs.laws.plain_files_stay.Goals as goal

pub returns-clause-stands : goal.returns-clause-stands
returns-clause-stands c = plain_files_stay

pub returns-clause-left : goal.returns-clause-left
returns-clause-left c = left_stays
