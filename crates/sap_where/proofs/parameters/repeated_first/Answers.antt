use Rattle.sap_where.proofs.OtherNowhere.{repeated_first_is}
use Rattle.sap_where.proofs.SecondParameter.{once_all, once_next}
use Rattle.sap_where.proofs.parameters.repeated_first.Goals as goal

pub returns-in-Some : goal.returns-in-Some
returns-in-Some c =
    let two = c.in-Some.ensures in
    repeated_first_is c.args.bytes.now c.args.tokens.now c.args.name.now c.loop-i.i c.in-Some.j two.0 two.1 two.2 c.loop-i.invariant

pub loop-i-preserved : goal.loop-i-preserved
loop-i-preserved c = once_next c.args.bytes.now c.args.tokens.now c.args.name.now c.loop-i.i c.in_default.ensures c.loop-i.invariant

pub returns : goal.returns
returns c = once_all c.args.bytes.now c.args.tokens.now c.args.name.now c.loop-i.i c.loop-i-test.false c.loop-i.invariant
