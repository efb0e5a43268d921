use Rattle.std.proofs.Common.{ap}
use Rattle.sap_expect.specs.Expected.{expected_of}
use Rattle.sap_explain.proofs.ExpectedOnce.{kinds_are, levels_are, open_there}
use Rattle.sap_explain.proofs.expected_told.push_expected_text.Goals as goal

pub returns-in-FewerLevels : goal.returns-in-FewerLevels
returns-in-FewerLevels c =
    levels_are c.args.bytes.now c.args.tokens.now c.args.wrong.now.number (expected_of c.args.wrong.now.expected) _ _ _ _ (ap expected_of c.in-FewerLevels.is) c.in_ok-push_expected.ensures c.in_ok-push_bytes.ensures.ok

pub returns-in-OneOf : goal.returns-in-OneOf
returns-in-OneOf c =
    kinds_are c.args.bytes.now c.args.tokens.now c.args.wrong.now.number (expected_of c.args.wrong.now.expected) _ _ _ _ _ _ (ap expected_of c.in-OneOf.is) c.in_ok-push_expected.ensures c.in_ok-push_bytes.ensures.ok
    (open_there c.args.bytes.now c.args.tokens.now c.args.wrong.now.number c.args.wrong.now.open _ _ _ c.requires.wrong.open_there c.push_innermost.ensures)
