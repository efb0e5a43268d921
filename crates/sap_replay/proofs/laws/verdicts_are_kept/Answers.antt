use Rattle.sap_replay.proofs.JudgedAlike.{of_rules_too, of_process_too}
use Rattle.sap_replay.proofs.Legal.{Laws}
use Rattle.sap_replay.proofs.laws.verdicts_are_kept.Goals as goal

pub returns : goal.returns
returns c = λ f lines rule_lines text runnable o.
    let laws : Laws = record {
      process = record {
        outcome = c.process_lines.ensures.outcome;
        answer = c.process_lines.ensures.answer;
        exactly = c.process_lines.ensures.exactly;
        small_lines = c.process_lines.ensures.small_lines;
        small_runs = c.process_lines.ensures.small_runs;
      };
      rules = record {
        outcome = c.rule_lines.ensures.outcome;
        answer = c.rule_lines.ensures.answer;
        runs = c.rule_lines.ensures.runs;
        messages = c.rule_lines.ensures.messages;
        prefix = c.rule_lines.ensures.prefix;
      };
      ready = c.annotations_are_ready.ensures.ready;
      made = c.rules_are_well_made.ensures.made;
    } in
    (of_rules_too laws f runnable lines rule_lines o text, of_process_too laws f runnable lines rule_lines o text)
