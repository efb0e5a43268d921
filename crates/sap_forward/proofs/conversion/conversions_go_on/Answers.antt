use Rattle.sap_forward.proofs.Going.{begins, goes_on, ends, none}
use Rattle.sap_forward.proofs.Premises.{RunLaws}
use Rattle.sap_forward.proofs.conversion.conversions_go_on.Goals as goal

pub returns : goal.returns
returns c =
    let laws : RunLaws = record {
      starts = c.lines_are_answered.ensures.starts;
      lines = c.lines_are_answered.ensures.lines;
      shows_the_same = c.process_steps_are_answered.ensures.shows_the_same;
      ready = c.annotations_are_ready.ensures.ready;
      runs = c.lines_are_steps.ensures.small_runs;
      exactly = c.runs_match_exactly.ensures;
      excludes = c.limit_excludes.ensures.runs;
      quiet = c.restrictions_say_sentences.ensures.quiet;
      stand = c.names_stand_in_runs.ensures;
    } in
    record {
      begins = begins laws;
      lines = goes_on laws c.normal_forms_are_unique.ensures c.lines_have_one_answer.ensures.answer;
      ends = ends laws;
      none = none laws;
    }
