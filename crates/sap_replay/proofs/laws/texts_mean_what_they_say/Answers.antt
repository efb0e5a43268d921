use Rattle.sap_replay.proofs.Meant.{Laws, written_says, written_is_seen}
use Rattle.sap_replay.proofs.FilledRead as fills
use Rattle.sap_replay.proofs.FilledRead.{filled_is_read}
use Rattle.sap_replay.proofs.JsonMeant as json
use Rattle.sap_replay.proofs.JsonMeant.{json_is_read, run_is_read}
use Rattle.sap_replay.proofs.laws.texts_mean_what_they_say.Goals as goal

pub returns : goal.returns
returns c =
    let laws : Laws = record {
      texts = record {
        named = c.named_steps_can_be_written.ensures.process;
        names = c.names_stand_in_lines.ensures;
        read = c.read_runs_can_be_written.ensures.rule;
        printed = c.printed_runs_are_read.ensures.process;
      };
      rules = record {
        named = c.named_steps_can_be_written.ensures.rule;
        read = c.read_runs_can_be_written.ensures.process;
        printed = c.printed_runs_are_read.ensures.rule;
      };
      alike = c.verdicts_are_kept.ensures;
      told = record { told = c.legal_runs_are_told.ensures.legal; drawn = c.drawn_runs_are_legal.ensures.legal };
    } in
    let as_json : json.Laws = record {
      written = c.written_json_is_read.ensures;
      json_writable = c.json_runs_can_be_written.ensures;
      process_writable = c.read_runs_can_be_written.ensures.process;
      rule_writable = c.read_runs_can_be_written.ensures.rule;
      process_printed = c.printed_runs_are_read.ensures.process;
      rule_printed = c.printed_runs_are_read.ensures.rule;
    } in
    let filling : fills.Laws = record {
      spelled = c.spelled_terms_can_be_written.ensures;
      named = c.named_steps_can_be_written.ensures.process;
      printed = c.printed_runs_are_read.ensures.process;
      fill = c.filled_runs_are_legal.ensures.sparing;
      names = c.sparing_runs_bring_no_name.ensures.names;
      few = c.sparing_runs_bring_no_name.ensures.few;
      legal = c.filled_runs_are_legal.ensures.small_runs;
    } in
    record {
      written = λ task bytes f kinds z r text runnable printable read w.
          written_says laws kinds z f runnable (record { file = printable; theory = c.theories_are_printable.ensures.plain f runnable printable }) task bytes r text read w;
      legal = written_is_seen laws.told;
      as_json = json_is_read as_json;
      of_json = run_is_read as_json;
      filled = λ f z run lines runnable printable.
          filled_is_read filling f z run lines runnable (c.annotations_are_ready.ensures.ready f.signature runnable.process f.process runnable.ready runnable.annotation) printable;
    }
