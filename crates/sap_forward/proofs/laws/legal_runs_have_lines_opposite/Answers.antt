use Rattle.sap_forward.proofs.Convert.{have_opposites}
use Rattle.sap_forward.proofs.Premises.{RunLaws}
use Rattle.sap_forward.proofs.laws.legal_runs_have_lines_opposite.Goals as goal

pub returns : goal.returns
returns c =
    let laws : RunLaws = record {
      starts = c.lines_are_answered.ensures.starts;
      lines = c.lines_are_answered.ensures.lines;
      shows_the_same = c.process_steps_are_answered.ensures.shows_the_same;
      ready = c.annotations_are_ready.ensures.ready;
      runs = c.lines_are_steps.ensures.small_runs;
      exactly = c.runs_match_exactly.ensures;
      excludes = c.limit_excludes.ensures.runs;
      quiet = c.restrictions_say_sentences.ensures.quiet;
      stand = c.names_stand_in_runs.ensures;
    } in
    have_opposites laws
