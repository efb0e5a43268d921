use Rattle.sap_explain.proofs.ExpectedOnce.{none_is, some_is}
use Rattle.sap_explain.proofs.expected_told.push_innermost.Goals as goal

pub returns-in-Some : goal.returns-in-Some
returns-in-Some c = some_is c.args.bytes.now c.args.tokens.now c.args.innermost c.in-Some.number _ _ _ c.in-Some.is c.push_open.ensures

pub returns-in-None : goal.returns-in-None
returns-in-None c = none_is c.args.bytes.now c.args.tokens.now c.args.innermost _ c.in-None.is
