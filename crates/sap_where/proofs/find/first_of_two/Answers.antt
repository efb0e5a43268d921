use Rattle.sap_where.specs.Where.{BeginsAt}
use Rattle.sap_where.proofs.OtherNowhere.{first_is}
use Rattle.sap_where.proofs.find.first_of_two.Goals as goal

pub returns-in-Some : goal.returns-in-Some
returns-in-Some c = first_is (BeginsAt c.args.bytes.now c.args.tokens.now c.args.beginning c.args.name.now) _ c.in-Some.ensures c.first.result c.first.ensures
