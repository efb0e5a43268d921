use Rattle.sap_tool.proofs.Kept.{kept}
use Rattle.sap_tool.proofs.Refused.{in_each_way, one_compiled, printable_file, printable_in_each_way}
use Rattle.sap_tool.proofs.top.sapic.Goals as goal

pub returns : goal.returns
returns g c =
    kept
    (record {
      keeping = in_each_way c.theories_keep_files.ensures.plain c.theories_keep_files.ensures.inlined c.short_theories_keep_files.ensures;
      runnable = c.files_are_runnable.ensures;
      printed = printable_file c.files_are_printable.ensures;
      writing = λ way z told t file is.
          let can = printable_in_each_way c.theories_are_printable.ensures.plain c.theories_are_printable.ensures.inlined c.short_theories_are_printable.ensures
          way told t (c.files_are_runnable.ensures z told file.read) (printable_file c.files_are_printable.ensures z told file) is in
          record { spelled = c.printed_theories.ensures.printable _ _ can; no_other = λ u. c.printed_theories.ensures.no_other _ _ u can };
      as_written = record { written = c.files_show_as_they_are_written.ensures.written; shows = c.files_show_as_they_are_written.ensures.shows };
      one_compiled = one_compiled c.one_short_theory.ensures.one;
      one = c.one_file.ensures;
      one_theory = c.one_answer_of_theories.ensures;
      theories = λ z t read. record { builtins = c.read_theories_can_run.ensures.builtins z t read; made = (c.read_theories_can_run.ensures.checkable z t read).made };
      meant = c.texts_mean_what_they_say.ensures;
      one_cause = c.refused_runs_have_one_cause.ensures;
      unrefused = c.legal_runs_are_not_refused.ensures;
      filled = c.filled_runs_are_legal.ensures.small_runs;
      one_page = c.one_page.ensures;
      sparing = c.filled_runs_are_legal.ensures.sparing;
    })
    _ _ c.run.ensures
