use Rattle.sap_gen.proofs.Lemmas.LemmaLaws.{LemmaLaws}
use Rattle.sap_gen.proofs.Lemmas.NoRules.{rules_are_wanted}
use Rattle.sap_gen.proofs.Lemmas.Secret.{file_fails, file_reaches, theory_fails, theory_reaches, inlined_fails, inlined_reaches}
use Rattle.sap_gen.proofs.Lemmas.Unseen.{file_never_starts, theory_starts}
use Rattle.sap_gen.proofs.lemma_examples.lemmas_by_hand.Goals as goal

pub returns : goal.returns
returns c =
    let laws : LemmaLaws = record {
      leaves = c.leaves_are_normal.ensures;
      shown = record {
        parts = c.sound_processes_are_shown.ensures.parts;
        all = c.sound_processes_are_shown.ensures.all;
        only = c.sound_processes_are_shown.ensures.only;
        messages = c.sound_processes_are_shown.ensures.messages;
        needed = c.sound_processes_are_shown.ensures.needed;
        starts = c.sound_processes_are_shown.ensures.starts;
      };
      hide = c.hiding_keeps_truth.ensures;
      for_all = c.inlining_keeps_lemmas.ensures.for_all;
      for_some = c.inlining_keeps_lemmas.ensures.for_some;
    } in
    record {
      fails = file_fails laws.leaves;
      reaches = file_reaches laws.leaves;
      theory_fails = theory_fails laws;
      theory_reaches = theory_reaches laws;
      inlined_fails = inlined_fails laws;
      inlined_reaches = inlined_reaches laws;
      never_starts = file_never_starts laws.shown;
      theory_starts = theory_starts laws.shown;
      rules_needed = rules_are_wanted laws.leaves;
    }
