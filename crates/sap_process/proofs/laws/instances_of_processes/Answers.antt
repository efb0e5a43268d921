use Rattle.sap_process.proofs.InstanceLemmas.{process_unchanged, process_twice}
use Rattle.sap_process.proofs.Agreeing.{agreeing}
use Rattle.sap_process.proofs.laws.instances_of_processes.Goals as goal

pub returns-clause-unchanged : goal.returns-clause-unchanged
returns-clause-unchanged c = process_unchanged

pub returns-clause-agreeing : goal.returns-clause-agreeing
returns-clause-agreeing c = agreeing

pub returns-clause-twice : goal.returns-clause-twice
returns-clause-twice c = process_twice
