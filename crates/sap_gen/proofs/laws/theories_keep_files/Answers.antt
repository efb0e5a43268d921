use Rattle.sap_gen.proofs.Lemmas.LemmaLaws.{LemmaLaws}
use Rattle.sap_gen.proofs.Lemmas.Theories.{ReadyLaws, keeps_file, keeps_file_inlined, runnable_sound}
use Rattle.sap_gen.proofs.laws.theories_keep_files.Goals as goal

pub returns : goal.returns
returns c =
    let laws : LemmaLaws = record {
      leaves = c.leaves_are_normal.ensures;
      shown = record {
        parts = c.sound_processes_are_shown.ensures.parts;
        all = c.sound_processes_are_shown.ensures.all;
        only = c.sound_processes_are_shown.ensures.only;
        messages = c.sound_processes_are_shown.ensures.messages;
        needed = c.sound_processes_are_shown.ensures.needed;
        starts = c.sound_processes_are_shown.ensures.starts;
      };
      hide = c.hiding_keeps_truth.ensures;
      for_all = c.inlining_keeps_lemmas.ensures.for_all;
      for_some = c.inlining_keeps_lemmas.ensures.for_some;
    } in
    let ready : ReadyLaws = record { sound = c.rules_show_the_process.ensures.sound; over = c.sound_processes_are_shown.ensures.over } in
    record {
      plain = λ f run. keeps_file laws f (runnable_sound ready f run);
      inlined = λ f run. keeps_file_inlined laws f (runnable_sound ready f run);
    }
