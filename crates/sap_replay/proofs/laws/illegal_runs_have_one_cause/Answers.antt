use Rattle.std.proofs.Common.{arith}
use Rattle.sap_replay.proofs.OneRefusal.{one_illegal, one_illegal_of_theory}
use Rattle.sap_replay.proofs.RuleRuns.{Laws}
use Rattle.sap_replay.proofs.laws.illegal_runs_have_one_cause.Goals as goal

pub returns-clause-file : goal.returns-clause-file
returns-clause-file c f r why other runnable a b =
    let few = runnable.small in
    one_illegal f (c.process_runs_have_one_answer.ensures.first f.signature runnable.process f.process runnable.builtins runnable.ready runnable.annotation)
    (λ lines. c.rule_runs_have_one_answer.ensures f.signature runnable.process f.process lines runnable.pairs runnable.builtins runnable.ready (omega (arith, few)) runnable.annotation) r why other a b

pub returns-clause-theory : goal.returns-clause-theory
returns-clause-theory c t r why other hold made a b =
    let laws : Laws = record {
      outcome = c.rule_lines.ensures.outcome;
      answer = c.rule_lines.ensures.answer;
      runs = c.rule_lines.ensures.runs;
      messages = c.rule_lines.ensures.messages;
      prefix = c.rule_lines.ensures.prefix;
    } in
    one_illegal_of_theory laws c.rule_lines.ensures.causes t hold made r why other a b
