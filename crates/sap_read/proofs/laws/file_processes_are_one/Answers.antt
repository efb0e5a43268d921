use Rattle.sap_read.proofs.OneExpansion.{one_up_to_names}
use Rattle.sap_read.proofs.laws.file_processes_are_one.Goals as goal

pub returns : goal.returns
returns c = one_up_to_names c.expansions_are_one.ensures
