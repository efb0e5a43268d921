use Rattle.sap_explain.proofs.ReachedFiles.{lock_reached, lock_reached_last}
use Rattle.sap_explain.proofs.lock_told.lock_told.Goals as goal

pub told_in_process-requires-clause-tokens : goal.told_in_process-requires-clause-tokens
told_in_process-requires-clause-tokens c = (lock_reached c.args.bytes.now c.args.tokens.now c.args.lock.now c.args.reached c.in-Expanded.written _ c.in-Expanded.is c.requires).0

pub told_in_process-requires-clause-written : goal.told_in_process-requires-clause-written
told_in_process-requires-clause-written c = (lock_reached c.args.bytes.now c.args.tokens.now c.args.lock.now c.args.reached c.in-Expanded.written _ c.in-Expanded.is c.requires).1

pub returns-in_default-clause-none : goal.returns-in_default-clause-none
returns-in_default-clause-none c = λ e t p. lock_reached_last c.args.bytes.now c.args.tokens.now c.args.lock.now c.args.reached c.requires c.in_default.not-Expanded
