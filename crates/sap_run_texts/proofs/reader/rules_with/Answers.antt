use Rattle.std.proofs.Common.{◌≤◌, length, arith}
use Rattle.sap_run_texts.specs.declared.limits.TheConstants.{MOST_RULE_STEPS}
use Rattle.sap_run_texts.proofs.Begun as begun
use Rattle.sap_run_texts.proofs.reader.rules_with.Goals as goal

pub returns-then-len-ge-MOST_RULE_STEPS-clause-holds : goal.returns-then-len-ge-MOST_RULE_STEPS-clause-holds
returns-then-len-ge-MOST_RULE_STEPS-clause-holds c k other z h =
    let many : MOST_RULE_STEPS ≤ length c.args.steps.now = omega (arith, c.if-len-ge-MOST_RULE_STEPS.true, c.len.ensures) in
    begun.many_rules k c.args.steps.now c.args.line.now.items z c.args.part.now c.requires.some many h
