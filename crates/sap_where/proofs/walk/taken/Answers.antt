use Rattle.sap_where.specs.Where.{second_definition, second_statement}
use Rattle.sap_where.proofs.Taken.{taken_first}
use Rattle.sap_where.proofs.walk.taken.Goals as goal

pub returns-in-Some : goal.returns-in-Some
returns-in-Some c = second_definition c.in-Some.ensures

pub returns-in-Some-second : goal.returns-in-Some-second
returns-in-Some-second c = second_statement c.in_default.ensures c.in-Some-second.ensures

pub returns : goal.returns
returns c = taken_first c.args.bytes.now c.args.tokens.now c.args.name.now c.first.result c.in_default.ensures c.in_default-second.ensures c.first.ensures
