use Rattle.sap_lines.specs.Faults.{no_memory}
use Rattle.sap_teller.proofs.telling.tell_line.Goals as goal

pub returns-in-Err-tell-clause-refused : goal.returns-in-Err-tell-clause-refused
returns-in-Err-tell-clause-refused c = no_memory c.args.step.now
