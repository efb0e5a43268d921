use Rattle.sap_lines.specs.Faults.{no_memory}
use Rattle.sap_teller.proofs.telling.do_line.Goals as goal

pub returns-in-Err-clause-refused : goal.returns-in-Err-clause-refused
returns-in-Err-clause-refused c = no_memory c.args.step.now

pub returns-in-Err-step-clause-refused : goal.returns-in-Err-step-clause-refused
returns-in-Err-step-clause-refused c = rw (← c.in-Ok.ensures.kept) c.in-Err-step.ensures.refused
