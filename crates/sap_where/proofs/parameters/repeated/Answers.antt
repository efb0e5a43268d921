use Rattle.sap_where.proofs.SecondParameter.{once_all, once_next, repeated_is}
use Rattle.sap_where.proofs.parameters.repeated.Goals as goal

pub returns-in-Some : goal.returns-in-Some
returns-in-Some c = repeated_is c.args.bytes.now c.args.tokens.now c.args.name.now c.loop-i.i c.in-Some.k c.in-Some.ensures c.loop-i.invariant

pub loop-i-preserved : goal.loop-i-preserved
loop-i-preserved c = once_next c.args.bytes.now c.args.tokens.now c.args.name.now c.loop-i.i c.in_default.ensures c.loop-i.invariant

pub returns : goal.returns
returns c = once_all c.args.bytes.now c.args.tokens.now c.args.name.now c.loop-i.i c.loop-i-test.false c.loop-i.invariant
