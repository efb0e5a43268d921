use Rattle.sap_expect.proofs.SpelledProcesses.{process_spelled, sequence_spelled}
use Rattle.sap_expect.proofs.part_laws.processes_that_follow_are_spelled.Goals as goal

pub returns : goal.returns
returns c = record { sequence = sequence_spelled; process = process_spelled }
