use Rattle.sap_where.specs.OtherPlaces.{first_definition}
use Rattle.sap_where.proofs.OtherNowhere.{statement_first}
use Rattle.sap_where.proofs.other.taken_first.Goals as goal

pub returns-in-Some : goal.returns-in-Some
returns-in-Some c = first_definition c.in-Some.ensures.1 c.in-Some.ensures.2

pub returns : goal.returns
returns c = statement_first c.args.bytes.now c.args.tokens.now c.args.name.now c.first_of_two-2.result c.in_default.ensures c.first_of_two-2.ensures
