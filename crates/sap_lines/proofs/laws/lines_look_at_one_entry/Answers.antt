use Rattle.sap_runs.specs.Limits.{AnySize, HasFewNodes}
use Rattle.sap_lines.proofs.OtherEntries.{lines_do_the_same, refused_the_same}
use Rattle.sap_lines.proofs.laws.lines_look_at_one_entry.Goals as goal

pub returns-clause-lines : goal.returns-clause-lines
returns-clause-lines c = lines_do_the_same AnySize

pub returns-clause-small_lines : goal.returns-clause-small_lines
returns-clause-small_lines c = lines_do_the_same HasFewNodes

pub returns-clause-refused : goal.returns-clause-refused
returns-clause-refused c = refused_the_same
