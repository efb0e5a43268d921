use Rattle.std.proofs.Common.{subst}
use Rattle.sap_run_texts.specs.declared.run.Kinds.{Kinds}
use Rattle.sap_run_texts.specs.RunReading.{TakesProcess, TakesRules}
use Rattle.sap_outside.proofs.RunAnswered.{of_process, of_rules}
use Rattle.sap_outside.proofs.run_reading.most_steps.Goals as goal

pub returns-in-Process : goal.returns-in-Process
returns-in-Process c = λ z short is_first read.
    of_process c.args.kinds z c.args.first short is_first read (λ t. absurd (subst (λ (k : Kinds). TakesRules k) c.in-Process.is t))

pub returns-in-Rules : goal.returns-in-Rules
returns-in-Rules c = λ z short is_first read.
    of_rules c.args.kinds z c.args.first short is_first read (λ t e. absurd (subst (λ (k : Kinds). TakesProcess k) c.in-Rules.is t))

pub returns-then-is_of_process : goal.returns-then-is_of_process
returns-then-is_of_process c = λ z short is_first read.
    of_process c.args.kinds z c.args.first short is_first read (λ t. c.is_of_process.ensures.0 c.if-is_of_process.true)

pub returns-else-is_of_process : goal.returns-else-is_of_process
returns-else-is_of_process c = λ z short is_first read.
    of_rules c.args.kinds z c.args.first short is_first read
    (λ t e. let yes_true = c.is_of_process.ensures.1 e in let is_false = c.if-is_of_process.false in cc)
