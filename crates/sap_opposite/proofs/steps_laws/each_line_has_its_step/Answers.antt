use Rattle.std.proofs.Common.{[]}
use Rattle.sap_opposite.proofs.Counted.{as_many, each_behind}
use Rattle.sap_opposite.proofs.steps_laws.each_line_has_its_step.Goals as goal

pub returns-clause-many : goal.returns-clause-many
returns-clause-many c = λ run lines. as_many run [] lines

pub returns-clause-each : goal.returns-clause-each
returns-clause-each c = λ run lines k step is. each_behind run [] lines k step is
