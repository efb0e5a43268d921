use Rattle.sap_where.proofs.OtherNowhere.{first_parameter_is}
use Rattle.sap_where.proofs.SecondParameter.{first_can}
use Rattle.sap_where.proofs.parameters.first_of_two.Goals as goal

pub next-requires : goal.next-requires
next-requires c = first_can c.args.bytes.now c.args.tokens.now c.args.i c.in-Some.ensures.is.can.opens

pub returns-in-Some : goal.returns-in-Some
returns-in-Some c = first_parameter_is c.args.bytes.now c.args.tokens.now c.args.name.now c.args.i _ c.in-Some.ensures c.next.result c.next.ensures
