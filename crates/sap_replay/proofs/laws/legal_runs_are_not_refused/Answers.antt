use Rattle.sap_run_texts.specs.declared.run.Kinds.TheVariants.{Rules, Either}
use Rattle.sap_replay.specs.RunRefusals.{IsIllegal, IsIllegalOfTheory, IsNeverIllegal}
use Rattle.sap_replay.proofs.JsonRefused.{json_not_refused}
use Rattle.sap_replay.proofs.Legal.{Laws, file_ready, seen_is_legal, never_illegal, never_illegal_of_theory}
use Rattle.sap_replay.proofs.OneRefusal.{not_refused}
use Rattle.sap_replay.proofs.ShortRefused as short
use Rattle.sap_replay.proofs.ShortRefused.{legal_not_refused}
use Rattle.sap_replay.proofs.laws.legal_runs_are_not_refused.Goals as goal

pub returns : goal.returns
returns c =
    let laws : Laws = record {
      process = record {
        outcome = c.process_lines.ensures.outcome;
        answer = c.process_lines.ensures.answer;
        exactly = c.process_lines.ensures.exactly;
        small_lines = c.process_lines.ensures.small_lines;
        small_runs = c.process_lines.ensures.small_runs;
      };
      rules = record {
        outcome = c.rule_lines.ensures.outcome;
        answer = c.rule_lines.ensures.answer;
        runs = c.rule_lines.ensures.runs;
        messages = c.rule_lines.ensures.messages;
        prefix = c.rule_lines.ensures.prefix;
      };
      ready = c.annotations_are_ready.ensures.ready;
      made = c.rules_are_well_made.ensures.made;
    } in
    let shorts : short.Laws = record {
      one = c.one_short_run.ensures.one;
      apart = c.one_short_answer.ensures.apart;
      first = c.one_short_answer.ensures.first;
    } in
    record {
      file = λ f kinds z why r tr runnable read seen refused.
          not_refused c.one_run.ensures.either kinds z (IsIllegal f) r read (λ w bad. never_illegal laws f runnable r w (seen_is_legal f r tr seen) bad) why refused;
      theory = λ t z why r full hold made read shown refused.
          not_refused c.one_run.ensures.either Rules z (IsIllegalOfTheory t) r read (λ w bad. never_illegal_of_theory laws.rules t hold made r full w shown bad) why refused;
      alone = λ z why r read refused. not_refused c.one_run.ensures.either Either z IsNeverIllegal r read (λ w bad. bad) why refused;
      short = λ f z why run config tr ms runnable read legal refused.
          legal_not_refused shorts z f runnable.builtins (file_ready laws f runnable) run config tr ms read legal why refused;
      json = λ bytes why r accepted refused. json_not_refused c.one_json_run.ensures bytes why r refused accepted;
    }
