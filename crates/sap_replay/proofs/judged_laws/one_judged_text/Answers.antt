use Rattle.sap_replay.proofs.Legal.{Laws}
use Rattle.sap_replay.proofs.OneText.{one_text, one_judged, some_judged, one_checked}
use Rattle.sap_replay.proofs.RuleRuns as rules
use Rattle.sap_replay.proofs.judged_laws.one_judged_text.Goals as goal

pub returns-clause-lines : goal.returns-clause-lines
returns-clause-lines c = one_text c.one_verdict.ensures.one

pub returns-clause-file : goal.returns-clause-file
returns-clause-file c f r text other runnable j k =
    let laws : Laws = record {
      process = record {
        outcome = c.process_lines.ensures.outcome;
        answer = c.process_lines.ensures.answer;
        exactly = c.process_lines.ensures.exactly;
        small_lines = c.process_lines.ensures.small_lines;
        small_runs = c.process_lines.ensures.small_runs;
      };
      rules = record {
        outcome = c.rule_lines.ensures.outcome;
        answer = c.rule_lines.ensures.answer;
        runs = c.rule_lines.ensures.runs;
        messages = c.rule_lines.ensures.messages;
        prefix = c.rule_lines.ensures.prefix;
      };
      ready = c.annotations_are_ready.ensures.ready;
      made = c.rules_are_well_made.ensures.made;
    } in
    one_judged laws f runnable c.one_verdict.ensures.one r text other j k

pub returns-clause-some : goal.returns-clause-some
returns-clause-some c f r tr runnable seen =
    some_judged c.one_verdict.ensures.some f r tr (c.seen_traces_are_messages.ensures f r tr runnable seen) (c.closed_files.ensures.restrictions f runnable)
    (c.closed_files.ensures.lemmas f runnable) seen

pub returns-clause-theory : goal.returns-clause-theory
returns-clause-theory c t r text other hold made j k =
    let laws : rules.Laws = record {
      outcome = c.rule_lines.ensures.outcome;
      answer = c.rule_lines.ensures.answer;
      runs = c.rule_lines.ensures.runs;
      messages = c.rule_lines.ensures.messages;
      prefix = c.rule_lines.ensures.prefix;
    } in
    one_checked laws t hold made c.one_verdict.ensures.one r text other j k
